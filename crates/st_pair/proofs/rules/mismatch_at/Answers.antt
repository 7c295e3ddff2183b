-- The link of a receive names the one event that can be its send.
use Rattle.std.proofs.Common.{List, slice_get, refl, sym, ◌∙◌, ap}
use Rattle.std.proofs.lemmas.Option.{slice_get_past, slice_get_read}
use Rattle.st_core.specs.declared.types.Event.{Event}
use Rattle.st_pair.proofs.Matches.{linked_from, mismatch_is, not_absent}
use Rattle.st_pair.proofs.rules.mismatch_at.Goals as goal

pub returns-in-None : goal.returns-in-None
returns-in-None c =
    let j = c.in-From.place in
    let is = linked_from c.args.streams.now c.args.pid c.args.event.now _ _
    (sym c.requires ∙ c.in-From.is) in
    let past = slice_get_past c.events.result.now j c.in-None.ensures.lookup.3 in
    absurd (not_absent c.args.streams.now c.args.pid c.args.event.now _ _ is
    (sym past ∙ ap (λ (es : List Event). slice_get es j) c.events.ensures.value))

pub returns-then-is_send_of : goal.returns-then-is_send_of
returns-then-is_send_of c =
    let j = c.in-From.place in
    let is = linked_from c.args.streams.now c.args.pid c.args.event.now _ _
    (sym c.requires ∙ c.in-From.is) in
    let look = c.in-Some.ensures.lookup in
    let there = slice_get_read c.events.result.now _ j c.in-Some.sent.now refl look.3.0 look.1 in
    let at = sym there ∙ ap (λ (es : List Event). slice_get es j) c.events.ensures.value in
    sym (mismatch_is c.args.streams.now c.args.pid c.args.event.now _ _ is c.args.index _ at _
    (sym c.if-is_send_of.true ∙ c.is_send_of.ensures))

pub returns-else-is_send_of : goal.returns-else-is_send_of
returns-else-is_send_of c =
    let j = c.in-From.place in
    let is = linked_from c.args.streams.now c.args.pid c.args.event.now _ _
    (sym c.requires ∙ c.in-From.is) in
    let look = c.in-Some.ensures.lookup in
    let there = slice_get_read c.events.result.now _ j c.in-Some.sent.now refl look.3.0 look.1 in
    let at = sym there ∙ ap (λ (es : List Event). slice_get es j) c.events.ensures.value in
    sym (mismatch_is c.args.streams.now c.args.pid c.args.event.now _ _ is c.args.index _ at _
    (sym c.if-is_send_of.false ∙ c.is_send_of.ensures))
