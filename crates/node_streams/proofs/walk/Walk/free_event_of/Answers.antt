-- A receive is free if its send came, or has no reported send.
use Rattle.std.proofs.Common.{◌≡◌, false, inl, inr, refl, arith, sym, ◌∙◌, ap}
use Rattle.std.specs.List.{slice_get}
use Rattle.std.proofs.lemmas.Option.{slice_get_past, slice_get_read}
use Rattle.st_core.specs.declared.types.Kind.TheVariants as kind
use Rattle.st_core.specs.Event.{kind_eq}
use Rattle.node_streams.proofs.Frees.{free_receive, free_stamp, next_is, over_stays, receive_stays}
use Rattle.node_streams.proofs.Takes.{taken_is}
use Rattle.node_streams.proofs.Turns.{done_here}
use Rattle.node_streams.proofs.walk.Walk.free_event_of.Goals as goal

pub returns-in_default-clause-none : goal.returns-in_default-clause-none
returns-in_default-clause-none c = λ order p at are.
    let streams = c.args.streams.now in
    let w = c.args.self.now in
    let n = c.done_at-index.result in
    let is = c.done_at-index.ensures
    ∙ done_here streams order w c.args.place p c.requires.draft.rising at are.place in
    over_stays streams order p n is (sym (ap (λ es. slice_get es n) are.own)
    ∙ slice_get_past c.args.events.now n c.in_default.ensures.lookup.3)

pub returns-in-Send : goal.returns-in-Send
returns-in-Send c = record {
  free = λ order p at are.
      let streams = c.args.streams.now in
      let w = c.args.self.now in
      let n = c.done_at-index.result in
      let is = c.done_at-index.ensures
      ∙ done_here streams order w c.args.place p c.requires.draft.rising at are.place in
      let e = c.in-Some.event.now in
      let look = c.in-Some.ensures.lookup in
      let next = sym (ap (λ es. slice_get es n) are.own)
      ∙ slice_get_read c.args.events.now _ n e refl look.3.0 look.1 in
      let stamp : kind_eq e.kind kind.Receive ≡ false = elim c.in-Send.is [
        | inl send ↦ ap (λ k. kind_eq k kind.Receive) send
        | inr print ↦ ap (λ k. kind_eq k kind.Receive) print
      ] in
      record {
        pid = p;
        place = are.place;
        can = free_stamp streams order p n is e next stamp;
        next = next_is streams order p n is e next;
      };
  none = λ order p at are. tt;
}

pub returns-then-is_sent-clause-free : goal.returns-then-is_sent-clause-free
returns-then-is_sent-clause-free c = λ order p at are.
    let streams = c.args.streams.now in
    let w = c.args.self.now in
    let n = c.done_at-index.result in
    let is = c.done_at-index.ensures
    ∙ done_here streams order w c.args.place p c.requires.draft.rising at are.place in
    let e = c.in-Some.event.now in
    let look = c.in-Some.ensures.lookup in
    let next = sym (ap (λ es. slice_get es n) are.own)
    ∙ slice_get_read c.args.events.now _ n e refl look.3.0 look.1 in
    let found = taken_is streams p n e c.args.taken.now c.taken_at-send.result are.sends next
    c.taken_at-send.ensures in
    let receive = ap (λ k. kind_eq k kind.Receive) c.in-Receive.is in
    record {
      pid = p;
      place = are.place;
      can = free_receive streams order p n is e next receive c.taken_at-send.result found
          (λ j is_j.
          let early = c.is_sent.ensures.yes c.if-is_sent.true j is_j in
          let same = at.done e.from in
          omega arith);
      next = next_is streams order p n is e next;
    }

pub returns-else-is_sent-clause-none : goal.returns-else-is_sent-clause-none
returns-else-is_sent-clause-none c = λ order p at are.
    let streams = c.args.streams.now in
    let w = c.args.self.now in
    let n = c.done_at-index.result in
    let is = c.done_at-index.ensures
    ∙ done_here streams order w c.args.place p c.requires.draft.rising at are.place in
    let e = c.in-Some.event.now in
    let look = c.in-Some.ensures.lookup in
    let next = sym (ap (λ es. slice_get es n) are.own)
    ∙ slice_get_read c.args.events.now _ n e refl look.3.0 look.1 in
    let found = taken_is streams p n e c.args.taken.now c.taken_at-send.result are.sends next
    c.taken_at-send.ensures in
    let receive = ap (λ k. kind_eq k kind.Receive) c.in-Receive.is in
    let waits = c.is_sent.ensures.no c.if-is_sent.false in
    let late = waits.2 in
    let same = at.done e.from in
    receive_stays streams order p n is e next receive c.taken_at-send.result found
    waits.0 waits.1 (omega arith)
