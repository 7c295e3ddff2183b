-- The told events of whole streams are the streams if they are at each place, which the judge
-- compares in turn.
use Rattle.std.proofs.Common.{◌≡◌, ℕ, ◌+◌, ◌<◌, inl, inr, Bool, List, [], slice_get, get_or, Some}
use Rattle.std.proofs.Common.{sym, ◌∙◌, ap, subst, arith}
use Rattle.std.proofs.lemmas.Bool.{cases_lt}
use Rattle.st_core.specs.declared.types.Pid.{Pid}
use Rattle.st_core.specs.declared.types.Event.{Event}
use Rattle.st_core.specs.Pid.{IsRising}
use Rattle.st_core.specs.Run.{Stream, pids_of}
use Rattle.st_core.specs.Streams.{events_of}
use Rattle.st_pair.proofs.ForCallers.{events_in, is_at}
use Rattle.st_plan.specs.Marks.{told_events}
use Rattle.lack_needs.specs.Completions.{marked_with}
use Rattle.lack_needs.proofs.ForCallers.{IsToldAt}

pub told_next : (all : List Stream) (lists : List (List Bool)) (streams : List Stream) (n : ℕ)
    → ((k : ℕ) → k < n → IsToldAt all lists streams k) → IsToldAt all lists streams n
    → (k : ℕ) → k < n + 1 → IsToldAt all lists streams k
told_next all lists streams n each here k less =
    elim (cases_lt k n) [
      | inl below ↦ each k below
      | inr above ↦
          let same : n ≡ k = omega (arith, less, above) in
          subst (IsToldAt all lists streams) same here
    ]

-- the processes at one place are compared by their pids
pub told_here : (all : List Stream) (lists : List (List Bool)) (streams : List Stream) (k : ℕ)
    (p q : Pid)
    (es fs : List Event) (ms : List Bool) → IsRising (pids_of all) → IsRising (pids_of streams)
    → slice_get (pids_of all) k ≡ Some q → slice_get (pids_of streams) k ≡ Some p → q ≡ p
    → es ≡ events_of all p → fs ≡ events_of streams p → ms ≡ get_or lists k []
    → told_events (marked_with es ms) ≡ fs → IsToldAt all lists streams k
told_here all lists streams k p q es fs ms rises rising at_all at same is are marks told =
    let a = is_at all k q rises at_all in
    let b = is_at streams k p rising at in
    let inside : a.stream.events ≡ es = sym (ap events_in a.found) ∙ ap (events_of all) same
    ∙ sym is in
    let own : fs ≡ b.stream.events = are ∙ ap events_in b.found in
    record {
      whole = a.stream;
      at = a.at;
      stream = b.stream;
      there = b.at;
      pid = a.pid ∙ same ∙ sym b.pid;
      told = ap (λ xs. told_events (marked_with xs (get_or lists k []))) inside
          ∙ sym (ap (λ bs. told_events (marked_with es bs)) marks) ∙ told ∙ own;
    }
