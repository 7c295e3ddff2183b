-- No order of all events leads past turns after which no process can go on: the first of its turns
-- that does would be one of a process that can.
use Rattle.std.proofs.Common.{◌≡◌, ℕ, ◌+◌, ◌<◌, ◌≤◌, ◌⊎◌, cond, true, false, List, [], ◌∷◌, length}
use Rattle.std.proofs.Common.{take, Some, None, inl, inr, refl, arith, sym, ◌∙◌, ap, subst, zero}
use Rattle.std.proofs.Common.{suc}
use Rattle.std.specs.List.{slice_get}
use Rattle.st_core.specs.declared.types.Pid.{Pid}
use Rattle.st_core.specs.declared.types.Event.{Event}
use Rattle.st_core.specs.Pid.{pid_eq}
use Rattle.st_core.specs.Run.{Stream}
use Rattle.st_core.specs.Streams.{events_of}
use Rattle.st_core.proofs.ForCallers.{pid_eq-true, place_within}
use Rattle.node_streams.specs.Messages.{send_of}
use Rattle.node_streams.specs.Order.{CanGo, HaveOrder, IsTurnOrder, next_event, turns}
use Rattle.node_streams.proofs.Counting.{turns_more}

pub past_end : {A : Type 0} (xs : List A) (i : ℕ) → slice_get xs i ≡ None → length xs ≤ i
past_end [] i at = omega arith
past_end (x ∷ xs) zero at = absurd (cc)
past_end (x ∷ xs) (suc i) at = let rest = past_end xs i at in omega arith

pub less_or_same : (m n : ℕ) → m ≤ n → (m < n) ⊎ (m ≡ n)
less_or_same zero zero most = inr refl
less_or_same zero (suc n) most = inl (omega arith)
less_or_same (suc m) zero most = absurd (omega arith)
less_or_same (suc m) (suc n) most = elim (less_or_same m n (omega arith)) [
  | inl less ↦ inl (omega arith)
  | inr same ↦ inr (ap suc same)
]

module _ (streams : List Stream) (order : List Pid)
    (stuck : (p : Pid) → CanGo streams order p → ⊥) where
  -- a process that could go on after fewer turns, of which as many were its own, still can
  still_can : (before : List Pid) (p : Pid) → ((q : Pid) → turns q before ≤ turns q order)
      → turns p before ≡ turns p order → CanGo streams before p → CanGo streams order p
  still_can before p most same can = record {
    event = can.event;
    next = ap (slice_get (events_of streams p)) (sym same) ∙ can.next;
    sent = λ kind j is.
        let early = can.sent kind j
        (ap (λ n. send_of streams (take n (events_of streams p)) can.event) same ∙ is) in
        let more = most can.event.from in
        omega arith;
  }

  one_more : (before : List Pid) (p : Pid) → ((q : Pid) → turns q before ≤ turns q order)
      → CanGo streams before p → turns p before + 1 ≤ turns p order
  one_more before p most can = elim (less_or_same (turns p before) (turns p order) (most p)) [
    | inl less ↦ omega arith
    | inr same ↦ absurd (stuck p (still_can before p most same can))
  ]

  no_further : (all : List Pid) → IsTurnOrder streams all → (q : Pid) → turns q all ≤ turns q order
  no_further [] is q = omega arith
  no_further (p ∷ all) is q = subst (λ n. n ≤ turns q order) (sym (turns_more p all q))
      ((elim (pid_eq p q) as (λ b. pid_eq p q ≡ b → cond b 1 0 + turns q all ≤ turns q order) [
        | true ↦ λ same.
            let moved = one_more all p (no_further all is.1) is.0 in
            let whose = pid_eq-true p q same in
            subst (λ r. 1 + turns r all ≤ turns r order) whose (omega arith)
        | false ↦ λ _. let rest = no_further all is.1 q in omega arith
      ]) refl)

  pub no_order : (p : Pid) (e : Event) → next_event streams order p ≡ Some e → HaveOrder streams → ⊥
  no_order p e left all =
      let most = no_further all.order all.is_order p in
      let end = past_end (events_of streams p) (turns p all.order) (all.over p) in
      let within = place_within (events_of streams p) (turns p order) e left in
      omega arith
