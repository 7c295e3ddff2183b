-- A list with one entry for each process, in the order of the streams: one entry more, and the
-- entry at a process's place.
use Rattle.std.proofs.Common.{◌≡◌, ℕ, ◌+◌, ◌<◌, zero, suc, List, [], ◌∷◌, ◌++◌, length, map, take}
use Rattle.std.proofs.Common.{drop, get_or, Bool, false, cond, Some, slice_get, option_map, refl}
use Rattle.std.proofs.Common.{sym, ◌∙◌, ap, subst, arith}
use Rattle.std.specs.List.{AllByRecursion}
use Rattle.std.proofs.lemmas.Option.{get_or_from_slice_get, none-some, same_Some, slice_get-get_or}
use Rattle.std.proofs.lemmas.Option.{slice_get-map}
use Rattle.st_core.specs.declared.types.Pid.{Pid}
use Rattle.st_core.specs.declared.types.Event.{Event}
use Rattle.st_core.specs.Pid.{pid_eq, IsBelow, IsRising}
use Rattle.st_core.specs.Run.{Stream, pids_of}
use Rattle.st_core.specs.Streams.{events_of, stream_of}
use Rattle.st_core.proofs.ForCallers.{all_at, not_below_itself}
use Rattle.st_pair.proofs.Firsts.{is_at, events_in}
use Rattle.st_pair.proofs.Linkage.{take_map}

-- the stream of a process, by its place
pub stream_here : (streams : List Stream) (pids : List Pid) (k : ℕ) (d : Pid) (es : List Event)
    → IsRising (pids_of streams) → pids ≡ pids_of streams → k < length pids
    → es ≡ events_of streams (get_or pids k d)
    → slice_get streams k ≡ Some (record { pid = get_or pids k d; events = es })
stream_here streams pids k d es rising are within is =
    let p = get_or pids k d in
    let at = slice_get-get_or pids k d within in
    let s = is_at streams k p rising (subst (λ (ps : List Pid). slice_get ps k ≡ Some p) are at) in
    let same : s.stream.events ≡ es = sym (ap events_in s.found) ∙ sym is in
    let who = s.pid in
    s.at ∙ (λ i. Some (record { pid = who i; events = same i }))

-- what is made of each stream
pub gathered : {X : Type 0} (f : Stream → X) (streams : List Stream) (pids : List Pid) (k : ℕ)
    (d : Pid)
    (es : List Event) (before : List X) (x : X) → IsRising (pids_of streams)
    → pids ≡ pids_of streams
    → k < length pids → es ≡ events_of streams (get_or pids k d)
    → x ≡ f (record { pid = get_or pids k d; events = es }) → before ≡ map f (take k streams)
    → before ++ x ∷ [] ≡ map f (take (k + 1) streams)
gathered {X} f streams pids k d es before x rising are within events is far =
    let s : Stream = record { pid = get_or pids k d; events = es } in
    let at = stream_here streams pids k d es rising are within events in
    let next : suc k ≡ k + 1 = omega arith in
    let made : before ++ x ∷ [] ≡ map f (take k streams) ++ f s ∷ [] = λ i. far i ++ is i ∷ [] in
    made ∙ sym (take_map f streams k s at)
    ∙ ap (λ (n : ℕ). map f (take n streams)) next

pub process_passed : {A : Type 0} (f : List Event → A) (streams : List Stream) (pids : List Pid)
    (k : ℕ) (d : Pid)
    (es : List Event) (before : List A) (x : A) → IsRising (pids_of streams)
    → pids ≡ pids_of streams
    → k < length pids → es ≡ events_of streams (get_or pids k d) → x ≡ f es
    → before ≡ map (λ s. f s.events) (take k streams)
    → before ++ x ∷ [] ≡ map (λ s. f s.events) (take (k + 1) streams)
process_passed f = gathered (λ s. f s.events)

-- what is read of what is made of each
pub read_made : {A B : Type 0} (f : A → B) (xs : List A) (i : ℕ) (x : A) (d : B) (ys : List B)
    → ys ≡ map f xs
    → slice_get xs i ≡ Some x → get_or ys i d ≡ f x
read_made {A} {B} f xs i x d ys are at = ap (λ (l : List B). get_or l i d) are
    ∙ get_or_from_slice_get (map f xs) i (f x) d (slice_get-map f xs i ∙ ap (option_map f) at)

pub process_read : {A : Type 0} (f : List Event → A) (streams : List Stream) (p : Pid) (k : ℕ)
    (kept : List A) (read : A)
    → IsRising (pids_of streams) → kept ≡ map (λ s. f s.events) streams
    → slice_get (pids_of streams) k ≡ Some p
    → read ≡ get_or kept k read → read ≡ f (events_of streams p)
process_read {A} f streams p k kept read rising are at is =
    let s = is_at streams k p rising at in
    is ∙ read_made (λ (t : Stream). f t.events) streams k s.stream read kept are s.at
    ∙ ap f (sym (ap events_in s.found))

-- the rest before an element is taken is the element and the rest after it
pub drop_next : {A : Type 0} (xs : List A) (k : ℕ) (x : A) → slice_get xs k ≡ Some x
    → drop k xs ≡ x ∷ drop (suc k) xs
drop_next [] k x at = absurd (cc)
drop_next (y ∷ xs) zero x at = ap (λ z. z ∷ xs) (same_Some y x at)
drop_next (y ∷ xs) (suc k) x at = drop_next xs k x at

-- a process that isn't listed has no events
pub missing_events : (streams : List Stream) (p : Pid)
    → AllByRecursion (λ (q : Pid). pid_eq q p ≡ false) (pids_of streams) → events_of streams p ≡ []
missing_events [] p all = refl
missing_events (x ∷ streams) p all =
    ap (λ (b : Bool). events_in (cond b (Some x) (stream_of streams p))) all.0
    ∙ missing_events streams p all.1

-- a pid is at one place alone
pub one_place : (ps : List Pid) (i j : ℕ) (p : Pid) → IsRising ps → slice_get ps i ≡ Some p
    → slice_get ps j ≡ Some p → i ≡ j
one_place [] i j p rising at_i at_j = absurd (none-some p at_i)
one_place (q ∷ ps) zero zero p rising at_i at_j = refl
one_place (q ∷ ps) zero (suc j) p rising at_i at_j = absurd (not_below_itself p
    (subst (λ x. IsBelow x p) (same_Some q p at_i) (all_at (IsBelow q) ps j p rising.0 at_j)))
one_place (q ∷ ps) (suc i) zero p rising at_i at_j = absurd (not_below_itself p
    (subst (λ x. IsBelow x p) (same_Some q p at_j) (all_at (IsBelow q) ps i p rising.0 at_i)))
one_place (q ∷ ps) (suc i) (suc j) p rising at_i at_j =
    ap suc (one_place ps i j p rising.1 at_i at_j)
