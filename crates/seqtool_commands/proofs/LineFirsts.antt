-- The line of an event is that of its process's first event plus its index, and the table has the
-- line of each process's first event.
use Rattle.std.proofs.Common.{◌≡◌, ◌≢◌, ℕ, ◌+◌, ◌-◌, ◌<◌, ◌≤◌, ◌^◌, zero, suc, nat_lt, true, false}
use Rattle.std.proofs.Common.{cond, List, [], ◌∷◌, ◌++◌, length, drop, get_or, Option, Some, None}
use Rattle.std.proofs.Common.{option_and_then, slice_get, refl, sym, ◌∙◌, ap, subst, arith}
use Rattle.std.proofs.Common.{append_assoc, append-nil}
use Rattle.std.specs.List.{AllByRecursion}
use Rattle.std.proofs.lemmas.Bool.{lt-ltb, ltb-true}
use Rattle.std.proofs.lemmas.List.{drop_all}
use Rattle.std.proofs.lemmas.Option.{same_Some, none-some, cond_some}
use Rattle.st_core.specs.declared.types.Pid.{Pid}
use Rattle.st_core.specs.Pid.{pid_eq, IsRising}
use Rattle.st_core.specs.Run.{Stream, pids_of}
use Rattle.st_core.specs.Streams.{IsStreams, events_of, stream_of}
use Rattle.st_core.proofs.ForCallers.{above_apart, pid_eq-true, pid_eq-refl}
use Rattle.st_pair.proofs.ForCallers.{at_get_or, events_in, is_at, drop_next}
use Rattle.seqtool_commands.specs.LineNumbers.{line_behind, line_from, line_number_of}
use Rattle.seqtool_commands.specs.KeptLines.{AreFirsts, first_line, firsts_from}

-- ONE EVENT

abbrev line_at : ℕ → ℕ → ℕ → Option ℕ
line_at count i first = cond (nat_lt i count) (Some (first + i)) None

line_parts : (first : ℕ) (streams : List Stream) (p : Pid) (i : ℕ)
    → line_from first streams p i ≡ option_and_then (line_at (length (events_of streams p)) i)
    (first_line first streams p)
line_parts first [] p i = refl
line_parts first (s ∷ streams) p i =
    let next = first + length s.events + 1 in
    elim (pid_eq s.pid p) as (λ b.
    cond b (cond (nat_lt i (length s.events)) (Some (first + i)) None) (line_from next streams p i)
    ≡ option_and_then (line_at (length (events_in (cond b (Some s) (stream_of streams p)))) i)
    (cond b (Some first) (first_line next streams p))) [
      | true ↦ refl
      | false ↦ line_parts next streams p i
    ]

pub line_by : (streams : List Stream) (p : Pid) (i : ℕ) (o : Option ℕ) → o ≡ first_line 3 streams p
    → option_and_then (line_at (length (events_of streams p)) i) o ≡ line_number_of streams p i
line_by streams p i o is =
    ap (option_and_then (line_at (length (events_of streams p)) i)) is
    ∙ sym (line_parts 3 streams p i)

pub line_none : (streams : List Stream) (p : Pid) (i : ℕ) → first_line 3 streams p ≡ None
    → line_number_of streams p i ≡ None
line_none streams p i is = sym (line_by streams p i None (sym is))

pub line_some : (streams : List Stream) (p : Pid) (i f : ℕ) → first_line 3 streams p ≡ Some f
    → i < length (events_of streams p) → line_number_of streams p i ≡ Some (f + i)
line_some streams p i f is less =
    sym (line_by streams p i (Some f) (sym is))
    ∙ ap (λ b. cond b (Some (f + i)) None) (lt-ltb i (length (events_of streams p)) less)

-- an event's line is its process's first line plus its index
pub line_says : (streams : List Stream) (p : Pid) (i f n : ℕ) → first_line 3 streams p ≡ Some f
    → line_number_of streams p i ≡ Some n → (i < length (events_of streams p)) × (f + i ≡ n)
line_says streams p i f n is at =
    let count = length (events_of streams p) in
    let parts = cond_some (nat_lt i count) (f + i) n (line_by streams p i (Some f) (sym is) ∙ at) in
    (ltb-true i count parts.0, parts.1)

pub line_on : (streams : List Stream) (p : Pid) (f n : ℕ) → first_line 3 streams p ≡ Some f → f ≤ n
    → n - f < length (events_of streams p) → line_number_of streams p (n - f) ≡ Some n
line_on streams p f n is low high =
    let whole : f + (n - f) ≡ n = omega arith in
    line_some streams p (n - f) f is high ∙ ap Some whole

pub line_none_says : (streams : List Stream) (p : Pid) (i n : ℕ) → first_line 3 streams p ≡ None
    → line_number_of streams p i ≢ Some n
line_none_says streams p i n is at = none-some n (sym (line_none streams p i is) ∙ at)

pub line_below : (streams : List Stream) (p : Pid) (f n i : ℕ) → first_line 3 streams p ≡ Some f
    → n < f
    → line_number_of streams p i ≢ Some n
line_below streams p f n i is low at =
    let says = line_says streams p i f n is at in
    let whole = says.1 in
    absurd (omega arith)

pub line_above : (streams : List Stream) (p : Pid) (f n i : ℕ) → first_line 3 streams p ≡ Some f
    → length (events_of streams p) ≤ n - f → line_number_of streams p i ≢ Some n
line_above streams p f n i is high at =
    let says = line_says streams p i f n is at in
    let within = says.0 in
    let whole = says.1 in
    absurd (omega arith)

-- ALL PROCESSES

pub first_missing : (first : ℕ) (streams : List Stream) (p : Pid)
    → AllByRecursion (λ (q : Pid). pid_eq q p ≡ false) (pids_of streams)
    → first_line first streams p ≡ None
first_missing first [] p all = refl
first_missing first (s ∷ streams) p all =
    ap (λ b. cond b (Some first) (first_line (first + length s.events + 1) streams p)) all.0
    ∙ first_missing (first + length s.events + 1) streams p all.1

first_at : (first : ℕ) (streams : List Stream) (k : ℕ) (p : Pid) → IsRising (pids_of streams)
    → slice_get (pids_of streams) k ≡ Some p → slice_get (firsts_from first streams) k
    ≡ first_line first streams p
first_at first [] k p rising at = absurd (none-some p at)
first_at first (s ∷ streams) zero p rising at =
    let same = same_Some s.pid p at in
    ap (λ b. cond b (Some first) (first_line (first + length s.events + 1) streams p))
    (sym (ap (λ q. pid_eq q p) same ∙ pid_eq-refl p))
first_at first (s ∷ streams) (suc k) p rising at =
    let next = first + length s.events + 1 in
    first_at next streams k p rising.1 at
    ∙ ap (λ b. cond b (Some first) (first_line next streams p))
    (sym (above_apart (pids_of streams) s.pid p k rising.0 at))

pub firsts_long : (first : ℕ) (streams : List Stream) (k : ℕ) (p : Pid)
    → slice_get (pids_of streams) k ≡ Some p
    → k < length (firsts_from first streams)
firsts_long first [] k p at = absurd (none-some p at)
firsts_long first (s ∷ streams) zero p at = omega arith
firsts_long first (s ∷ streams) (suc k) p at =
    let rest = firsts_long (first + length s.events + 1) streams k p at in omega arith

pub kept_long : (streams : List Stream) (firsts : List ℕ) (k : ℕ) (p : Pid)
    → firsts ≡ firsts_from 3 streams
    → slice_get (pids_of streams) k ≡ Some p → k < length firsts
kept_long streams firsts k p are at =
    subst (λ l. k < length l) (sym are) (firsts_long 3 streams k p at)

-- the table has a process's first line at its place
pub first_kept : (streams : List Stream) (firsts : List ℕ) (k : ℕ) (p : Pid) (d : ℕ)
    → IsRising (pids_of streams)
    → firsts ≡ firsts_from 3 streams → slice_get (pids_of streams) k ≡ Some p
    → Some (get_or firsts k d) ≡ first_line 3 streams p
first_kept streams firsts k p d rising are at =
    sym (at_get_or firsts k d (kept_long streams firsts k p are at))
    ∙ ap (λ l. slice_get l k) are ∙ first_at 3 streams k p rising at

behind_grows : (first : ℕ) (streams : List Stream) → first ≤ line_behind first streams
behind_grows first [] = omega arith
behind_grows first (s ∷ streams) =
    let rest = behind_grows (first + length s.events + 1) streams in omega arith

first_within : (first : ℕ) (streams : List Stream) (p : Pid) (f : ℕ)
    → first_line first streams p ≡ Some f
    → f + length (events_of streams p) ≤ line_behind first streams
first_within first [] p f is = absurd (none-some f is)
first_within first (s ∷ streams) p f is =
    let next = first + length s.events + 1 in
    elim (pid_eq s.pid p) as (λ b. cond b (Some first) (first_line next streams p) ≡ Some f
    → f + length (events_in (cond b (Some s) (stream_of streams p))) ≤ line_behind next streams) [
      | true ↦ λ h.
          let same = same_Some first f h in
          let rest = behind_grows next streams in
          omega arith
      | false ↦ λ h. first_within next streams p f h
    ] is

pub first_fits : (streams : List Stream) (p : Pid) (f : ℕ) → line_behind 3 streams < 2 ^ 64
    → first_line 3 streams p ≡ Some f → f + length (events_of streams p) < 2 ^ 64
first_fits streams p f fits is = let within = first_within 3 streams p f is in omega arith

-- a process with a first line is listed
listed_at : (first : ℕ) (streams : List Stream) (p : Pid) (f : ℕ)
    → first_line first streams p ≡ Some f
    → (k : ℕ) × (k < length (pids_of streams)) × (slice_get (pids_of streams) k ≡ Some p)
listed_at first [] p f is = absurd (none-some f is)
listed_at first (s ∷ streams) p f is =
    let next = first + length s.events + 1 in
    elim (pid_eq s.pid p) as (λ b. pid_eq s.pid p ≡ b
    → cond b (Some first) (first_line next streams p) ≡ Some f
    → (k : ℕ) × (k < length (pids_of (s ∷ streams)))
    × (slice_get (pids_of (s ∷ streams)) k ≡ Some p)) [
      | true ↦ λ same h. (0, omega arith, ap Some (pid_eq-true s.pid p same))
      | false ↦ λ _ h. let rest = listed_at next streams p f h in
          let less = rest.1 in
          (suc rest.0, omega arith, rest.2)
    ] refl is

-- no process before place k has an event on the line
abbrev pub NoneBefore : List Stream → ℕ → ℕ → Type 0
NoneBefore streams n k =
    (j : ℕ) (q : Pid) → j < k → slice_get (pids_of streams) j ≡ Some q → (i : ℕ)
    → line_number_of streams q i ≢ Some n

-- if no listed process has an event on the line, no process has
pub none_at_all : (streams : List Stream) (pids : List Pid) (n k : ℕ) → pids ≡ pids_of streams
    → length pids ≤ k
    → NoneBefore streams n k → (p : Pid) (i : ℕ) → line_number_of streams p i ≢ Some n
none_at_all streams pids n k are past before p i =
    elim (first_line 3 streams p) as (λ o. first_line 3 streams p ≡ o
    → line_number_of streams p i ≢ Some n) [
      | None ↦ λ none. line_none_says streams p i n none
      | Some f ↦ λ is.
          let at = listed_at 3 streams p f is in
          let low = at.1 in
          let long : length pids ≡ length (pids_of streams) = ap length are in
          before at.0 p (omega arith) at.2 i
    ] refl

-- THE LOOP OVER ALL PROCESSES

pids_long : (streams : List Stream) → length (pids_of streams) ≡ length streams
pids_long [] = refl
pids_long (s ∷ streams) = ap suc (pids_long streams)

-- the first lines so far and those that are left are all
pub record AreSoFar (streams : List Stream) (firsts : List ℕ) (first k : ℕ) : Type 0 where
  pub kept : firsts ++ firsts_from first (drop k streams) ≡ firsts_from 3 streams
  pub behind : line_behind first (drop k streams) ≡ line_behind 3 streams
  pub fits : first < 2 ^ 64

pub so_far_more : (streams : List Stream) (pids : List Pid) (k : ℕ) (d : Pid)
    (firsts after : List ℕ)
    (first next count : ℕ) → IsRising (pids_of streams) → pids ≡ pids_of streams → k < length pids
    → count ≡ length (events_of streams (get_or pids k d)) → next ≡ first + count + 1
    → next < 2 ^ 64
    → after ≡ firsts ++ first ∷ [] → AreSoFar streams firsts first k
    → AreSoFar streams after next (k + 1)
so_far_more streams pids k d firsts after first next count rising are within counts then low pushed
    far =
    let p = get_or pids k d in
    let at = at_get_or pids k d within in
    let s = is_at streams k p rising (subst (λ (ps : List Pid). slice_get ps k ≡ Some p) are at) in
    let number : k + 1 ≡ suc k = omega arith in
    let events : length s.stream.events ≡ count =
    ap length (sym (ap events_in s.found)) ∙ sym counts in
    let on : first + length s.stream.events + 1 ≡ next = omega arith in
    let here = drop_next streams k s.stream s.at in
    record {
      kept =
          ap (λ n. after ++ firsts_from next (drop n streams)) number
          ∙ ap (λ xs. xs ++ firsts_from next (drop (suc k) streams)) pushed
          ∙ append_assoc firsts (first ∷ []) (firsts_from next (drop (suc k) streams))
          ∙ ap (λ n. firsts ++ first ∷ firsts_from n (drop (suc k) streams)) (sym on)
          ∙ ap (λ ss. firsts ++ firsts_from first ss) (sym here) ∙ far.kept;
      behind =
          ap (λ n. line_behind next (drop n streams)) number
          ∙ ap (λ n. line_behind n (drop (suc k) streams)) (sym on)
          ∙ ap (line_behind first) (sym here) ∙ far.behind;
      fits = low;
    }

pub all_so_far : (streams : List Stream) (pids : List Pid) (k : ℕ) (firsts : List ℕ) (first : ℕ)
    → IsStreams streams
    → pids ≡ pids_of streams → length pids ≤ k → AreSoFar streams firsts first k
    → AreFirsts streams firsts first
all_so_far streams pids k firsts first sound are past far =
    let low = far.fits in
    let long : length pids ≡ length (pids_of streams) = ap length are in
    let number = pids_long streams in
    let none = drop_all k streams (omega arith) in
    let last : first ≡ line_behind 3 streams = ap (line_behind first) (sym none) ∙ far.behind in
    record {
      sound = sound;
      kept = sym (append-nil firsts) ∙ ap (λ ss. firsts ++ firsts_from first ss) (sym none)
          ∙ far.kept;
      act = last;
      fits = omega arith;
    }
