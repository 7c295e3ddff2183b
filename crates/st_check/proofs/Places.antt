-- Rising pids differ from each other, so if a list has an item for each pid and only one pid's
-- item changes, the list changes only at that pid's place.
use Rattle.std.proofs.Common.{◌≡◌, ℕ, ◌<◌, zero, suc, false, cond, List, [], ◌∷◌, length, map}
use Rattle.std.proofs.Common.{get_or, set, Some, None, option_map, refl, ◌∙◌, ap, subst, arith}
use Rattle.std.specs.List.{AllByRecursion, slice_get}
use Rattle.std.proofs.lemmas.Option.{same_Some, none-some, get_or_from_slice_get, slice_get-map}
use Rattle.st_core.specs.declared.types.Pid.{Pid}
use Rattle.st_core.specs.Pid.{pid_eq, IsBelow, IsRising}
use Rattle.st_core.specs.Run.{Stream, pids_of}
use Rattle.st_core.specs.Streams.{stream_of, events_of}
use Rattle.st_core.proofs.ForCallers.{pid_eq-same, IsBelow-apart, all_at, all_apart}

-- lists whose items differ for p alone agree if p isn't among the pids
pub map_apart : {B : Type 0} (f g : Pid → B) (ps : List Pid) (p : Pid)
    → AllByRecursion (λ q. pid_eq q p ≡ false) ps
    → ((q : Pid) → pid_eq q p ≡ false → g q ≡ f q) → map g ps ≡ map f ps
map_apart f g [] p apart same = refl
map_apart f g (q ∷ ps) p apart same =
    ap (λ x. x ∷ map g ps) (same q apart.0) ∙ ap (λ xs. f q ∷ xs) (map_apart f g ps p apart.1 same)

-- a list whose items change for p alone is the old list, set at the place of p
pub map_at : {B : Type 0} (f g : Pid → B) (ps : List Pid) (i : ℕ) (p : Pid) → IsRising ps
    → slice_get ps i ≡ Some p
    → ((q : Pid) → pid_eq q p ≡ false → g q ≡ f q) → map g ps ≡ set (map f ps) i (g p)
map_at f g [] i p rising at same = absurd (none-some p at)
map_at f g (q ∷ ps) zero p rising at same =
    let is : q ≡ p = same_Some q p at in
    let apart : AllByRecursion (λ r. pid_eq r p ≡ false) ps =
    all_apart ps p (subst (λ r. AllByRecursion (IsBelow r) ps) is rising.0) in
    ap (λ r. g r ∷ map g ps) is ∙ ap (λ xs. g p ∷ xs) (map_apart f g ps p apart same)
map_at f g (q ∷ ps) (suc i) p rising at same =
    let apart : pid_eq q p ≡ false = IsBelow-apart q p (all_at (IsBelow q) ps i p rising.0 at) in
    ap (λ x. x ∷ map g ps) (same q apart) ∙ ap (λ xs. f q ∷ xs) (map_at f g ps i p rising.1 at same)

-- the item at the place of p is that of p
pub entry_at : {B : Type 0} (f : Pid → B) (ps : List Pid) (i : ℕ) (p : Pid) (d : B)
    → slice_get ps i ≡ Some p
    → get_or (map f ps) i d ≡ f p
entry_at f ps i p d at =
    get_or_from_slice_get (map f ps) i (f p) d (slice_get-map f ps i ∙ ap (option_map f) at)

above : (p : Pid) (streams : List Stream) (k : ℕ) (d : Stream)
    → AllByRecursion (IsBelow p) (pids_of streams)
    → k < length streams → IsBelow p (get_or streams k d).pid
above p [] k d all within = absurd (omega arith)
above p (x ∷ streams) zero d all within = all.0
above p (x ∷ streams) (suc k) d all within = above p streams k d all.1 (omega arith)

-- looking up the pid of a stream finds the events of that stream
pub events_at : (streams : List Stream) (k : ℕ) (d : Stream) → IsRising (pids_of streams)
    → k < length streams
    → events_of streams (get_or streams k d).pid ≡ (get_or streams k d).events
events_at [] k d rising within = absurd (omega arith)
events_at (x ∷ streams) zero d rising within =
    ap (λ b. elim (cond b (Some x) (stream_of streams x.pid)) [ None ↦ [] | Some y ↦ y.events ])
    (pid_eq-same x.pid)
events_at (x ∷ streams) (suc k) d rising within =
    let y = get_or streams k d in
    let apart : pid_eq x.pid y.pid ≡ false =
    IsBelow-apart x.pid y.pid (above x.pid streams k d rising.0 (omega arith)) in
    ap (λ b. elim (cond b (Some x) (stream_of streams y.pid)) [ None ↦ [] | Some z ↦ z.events ])
    apart
    ∙ events_at streams k d rising.1 (omega arith)
