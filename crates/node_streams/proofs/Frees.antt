-- A process's turns give its next event, which is free unless it is a receive whose send hasn't
-- come.
use Rattle.std.proofs.Common.{◌≡◌, ℕ, ◌<◌, ◌≤◌, cond, true, false, List, take, Option, Some, None}
use Rattle.std.proofs.Common.{arith, sym, ◌∙◌, ap, subst}
use Rattle.std.specs.List.{slice_get}
use Rattle.std.proofs.lemmas.Bool.{false≢true}
use Rattle.std.proofs.lemmas.Option.{none-some, same_Some}
use Rattle.st_core.specs.declared.types.Pid.{Pid}
use Rattle.st_core.specs.declared.types.Kind.TheVariants as kind
use Rattle.st_core.specs.declared.types.Event.{Event}
use Rattle.st_core.specs.Event.{kind_eq}
use Rattle.st_core.specs.Run.{Stream}
use Rattle.st_core.specs.Streams.{events_of}
use Rattle.node_streams.specs.Messages.{takes_message, send_of, taken_send}
use Rattle.node_streams.specs.Order.{CanGo, next_event, turns}

module _ (streams : List Stream) (order : List Pid) (p : Pid) (n : ℕ) (is : n ≡ turns p order) where
  pub over_stays : slice_get (events_of streams p) n ≡ None → CanGo streams order p → ⊥
  over_stays none can =
      absurd (none-some can.event (sym none ∙ ap (slice_get (events_of streams p)) is ∙ can.next))

  module _ (e : Event) (here : slice_get (events_of streams p) n ≡ Some e) where
    pub next_is : next_event streams order p ≡ Some e
    next_is = ap (slice_get (events_of streams p)) (sym is) ∙ here

    pub free_stamp : kind_eq e.kind kind.Receive ≡ false → CanGo streams order p
    free_stamp other = record {
      event = e;
      next = next_is;
      sent = λ receive. absurd (false≢true (sym other ∙ receive));
    }

    module _ (receive : kind_eq e.kind kind.Receive ≡ true) (send : Option ℕ)
        (found : send ≡ taken_send streams (take n (events_of streams p)) e) where
      send_is : send_of streams (take (turns p order) (events_of streams p)) e ≡ send
      send_is = sym (found
          ∙ ap (λ n. taken_send streams (take n (events_of streams p)) e) is
          ∙ ap (λ b. cond b (send_of streams (take (turns p order) (events_of streams p)) e) None)
          receive)

      -- a receive is free if its send came, or has no send
      pub free_receive : ((j : ℕ) → send ≡ Some j → j < turns e.from order) → CanGo streams order p
      free_receive early = record {
        event = e;
        next = next_is;
        sent = λ _ j sent. early j (sym send_is ∙ sent);
      }

      pub receive_stays : (j : ℕ) → send ≡ Some j → turns e.from order ≤ j
          → CanGo streams order p → ⊥
      receive_stays j is_j late can =
          let same = same_Some e can.event (sym next_is ∙ can.next) in
          let kind = subst (λ e. takes_message e ≡ true) same receive in
          let early = can.sent kind j
          (ap (send_of streams (take (turns p order) (events_of streams p))) (sym same)
          ∙ send_is ∙ is_j) in
          let whose = ap (λ (e : Event). turns e.from order) same in
          omega arith
