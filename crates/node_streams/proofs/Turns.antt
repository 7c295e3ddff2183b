-- A turn adds one to its process's number, so it leaves fewer events.
use Rattle.std.proofs.Common.{◌≡◌, ℕ, ◌+◌, ◌-◌, ◌≤◌, ◌<◌, ◌||◌, suc, cond, true, false, List, []}
use Rattle.std.proofs.Common.{◌∷◌, length, replicate, Option, Some, None, IfNone, Result, Ok, Err}
use Rattle.std.proofs.Common.{OnOk, refl, arith, sym, ◌∙◌, ap}
use Rattle.std.specs.Option.{unwrap_or}
use Rattle.std.specs.List.{find, slice_get, slice_set, sum_by}
use Rattle.std.proofs.Math.ListN.{length-set}
use Rattle.std.proofs.lemmas.List.{length-replicate}
use Rattle.std.proofs.lemmas.Bool.{false≢true}
use Rattle.std.proofs.lemmas.List.Sums.{sum_by-cons}
use Rattle.st_core.specs.declared.types.Pid.{Pid}
use Rattle.st_core.specs.declared.types.Event.{Event}
use Rattle.st_core.specs.Pid.{pid_eq, IsRising}
use Rattle.st_core.specs.Run.{Stream, pids_of}
use Rattle.st_core.specs.Streams.{events_of, is_among}
use Rattle.st_core.proofs.ForCallers.{pid_eq-swap, pid_eq-true, place_within}
use Rattle.node_streams.specs.declared.walk.Walk.{Walk}
use Rattle.node_streams.specs.Order.{turns}
use Rattle.node_streams.specs.Tables.{done_in, number_by_pid, IsAt}
use Rattle.node_streams.proofs.Counting.{turns_more}
use Rattle.node_streams.proofs.Places.{number_here, number_put, number_zeros}

place_among : (ps : List Pid) (p : Pid) → is_among ps p ≡ true → (i : ℕ) × (slice_get ps i ≡ Some p)
place_among [] p is = absurd (false≢true is)
place_among (q ∷ ps) p is = (elim (pid_eq q p) as (λ b. pid_eq q p ≡ b → (b || is_among ps p) ≡ true
    → (i : ℕ) × (slice_get (q ∷ ps) i ≡ Some p)) [
      | true ↦ λ same _. (0, ap (λ x. Some x) (pid_eq-true q p same))
      | false ↦ λ _ later. let rest = place_among ps p later in (suc rest.0, rest.1)
    ]) refl is

abbrev pub events_in : Option Stream → List Event
events_in found = elim found [ None ↦ [] | Some s ↦ s.events ]

pub unlisted_events : (streams : List Stream) (p : Pid) → is_among (pids_of streams) p ≡ false
    → events_of streams p ≡ []
unlisted_events [] p is = refl
unlisted_events (x ∷ streams) p is = (elim (pid_eq x.pid p) as (λ b.
    (b || is_among (pids_of streams) p) ≡ false
    → events_in (cond b (Some x) (find (λ s. pid_eq s.pid p) streams)) ≡ []) [
      | true ↦ λ so. absurd (false≢true (sym so))
      | false ↦ λ so. unlisted_events streams p so
    ]) is

-- what holds of each listed process, and of each without events, holds of all
pub any_process : (streams : List Stream) (P : Pid → Type 0)
    → ((i : ℕ) (p : Pid) → slice_get (pids_of streams) i ≡ Some p → P p)
    → ((p : Pid) → events_of streams p ≡ [] → P p) → (p : Pid) → P p
any_process streams P listed other p = (elim (is_among (pids_of streams) p) as (λ b.
    is_among (pids_of streams) p ≡ b → P p) [
      | true ↦ λ is. let found = place_among (pids_of streams) p is in listed found.0 p found.1
      | false ↦ λ is. other p (unlisted_events streams p is)
    ]) refl

pub before_all : (streams : List Stream) (ps : List Pid) (w : Walk) → pids_of streams ≡ ps
    → w.done.items ≡ replicate (length ps) 0 → IsAt streams [] w
before_all streams ps w are zeros = record {
  each = ap length zeros ∙ length-replicate (length ps) 0 ∙ sym (ap length are);
  done = λ p. ap (λ ns. number_by_pid (pids_of streams) ns p) zeros
      ∙ number_zeros (pids_of streams) (length ps) p;
}

-- a walk with other candidates is at the same place
pub same_walk : (streams : List Stream) (order : List Pid) (w u : Walk) → u.done ≡ w.done
    → IsAt streams order w → IsAt streams order u
same_walk streams order w u same at = record {
  each = ap (λ d. length d.items) same ∙ at.each;
  done = λ p. ap (λ d. number_by_pid (pids_of streams) d.items p) same ∙ at.done p;
}

pub done_here : (streams : List Stream) (order : List Pid) (w : Walk) (i : ℕ) (p : Pid)
    → IsRising (pids_of streams) → IsAt streams order w → slice_get (pids_of streams) i ≡ Some p
    → unwrap_or (slice_get w.done.items i) 0 ≡ turns p order
done_here streams order w i p rising at here =
    sym (number_here (pids_of streams) w.done.items i p rising here) ∙ at.done p

pub gone_at : (streams : List Stream) (order : List Pid) (w u : Walk) (i more : ℕ) (p : Pid)
    → IsRising (pids_of streams) → IsAt streams order w → slice_get (pids_of streams) i ≡ Some p
    → more ≡ unwrap_or (slice_get w.done.items i) 0 + 1
    → u.done.items ≡ slice_set w.done.items i more → IsAt streams (p ∷ order) u
gone_at streams order w u i more p rising at here is put = record {
  each = ap length put ∙ length-set w.done.items i more ∙ at.each;
  done = λ q.
      let place = place_within (pids_of streams) i p here in
      let long = at.each in
      ap (λ ns. number_by_pid (pids_of streams) ns q) put
      ∙ number_put (pids_of streams) w.done.items i more p q rising here (omega arith)
      ∙ (elim (pid_eq p q) as (λ b. pid_eq p q ≡ b
      → cond b more (done_in streams w q) ≡ turns q (p ∷ order)) [
        | true ↦ λ same.
            let before = done_here streams order w i p rising at here in
            let whose = ap (λ r. turns r order) (pid_eq-true p q same) in
            let next = turns_more p order q ∙ ap (λ b. cond b 1 0 + turns q order) same in
            omega arith
        | false ↦ λ apart.
            let before = at.done q in
            let next = turns_more p order q ∙ ap (λ b. cond b 1 0 + turns q order) apart in
            omega arith
      ]) refl;
}

pub if_ok : {T E : Type 0} {P : Type 0} (r : Result T E) → P → OnOk r P
if_ok (Ok x) is = is
if_ok (Err e) is = tt

pub if_none : {A : Type 0} {P Q : Type 0} (o : Option A) → (P → Q) → IfNone o P → IfNone o Q
if_none None then is = then is
if_none (Some x) then is = tt

-- the number of events that a process has left
abbrev left_of : (Pid → ℕ) → Stream → ℕ
left_of done s = length s.events - done s.pid

abbrev pub events_left : List Stream → (Pid → ℕ) → ℕ
events_left streams done = sum_by (left_of done) streams

module _ (f g : Pid → ℕ) (p : Pid) (more : (q : Pid) → g q ≡ f q + cond (pid_eq p q) 1 0) where
  none_added : (streams : List Stream) → events_left streams g ≤ events_left streams f
  none_added [] = omega arith
  none_added (x ∷ streams) =
      let rest = none_added streams in
      let own = more x.pid in
      let now = sum_by-cons (left_of g) x streams in
      let before = sum_by-cons (left_of f) x streams in
      omega arith

  pub one_fewer : (streams : List Stream) (e : Event) → slice_get (events_of streams p) (f p)
      ≡ Some e
      → events_left streams g < events_left streams f
  one_fewer [] e at = absurd (cc)
  one_fewer (x ∷ streams) e at = (elim (pid_eq x.pid p) as (λ b. pid_eq x.pid p ≡ b
      → slice_get (elim (cond b (Some x)
      (find (λ s. pid_eq s.pid p) streams)) [ None ↦ [] | Some s ↦ s.events ]) (f p) ≡ Some e
      → events_left (x ∷ streams) g < events_left (x ∷ streams) f) [
        | true ↦ λ same here.
            let whose = pid_eq-true x.pid p same in
            let within = place_within x.events (f p) e here in
            let counts = ap f whose in
            let own = more x.pid ∙ ap (λ b. f x.pid + cond b 1 0) (pid_eq-swap p x.pid ∙ same) in
            let rest = none_added streams in
            let now = sum_by-cons (left_of g) x streams in
            let before = sum_by-cons (left_of f) x streams in
            omega arith
        | false ↦ λ apart later.
            let rest = one_fewer streams e later in
            let own = more x.pid ∙ ap (λ b. f x.pid + cond b 1 0) (pid_eq-swap p x.pid ∙ apart) in
            let now = sum_by-cons (left_of g) x streams in
            let before = sum_by-cons (left_of f) x streams in
            omega arith
      ]) refl at

pub no_more_left : (streams : List Stream) (f g : Pid → ℕ) → ((q : Pid) → f q ≤ g q)
    → events_left streams g ≤ events_left streams f
no_more_left [] f g more = omega arith
no_more_left (x ∷ streams) f g more =
    let rest = no_more_left streams f g more in
    let own = more x.pid in
    let now = sum_by-cons (left_of g) x streams in
    let before = sum_by-cons (left_of f) x streams in
    omega arith
