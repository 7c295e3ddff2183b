-- A process's partners are at its place, and a process that isn't listed has no event.
use Rattle.std.proofs.Common.{option_and_then, ◌∙◌, ap}
use Rattle.std.specs.List.{slice_get}
use Rattle.st_core.specs.Streams.{events_of}
use Rattle.node_streams.specs.Messages.{partners}
use Rattle.node_streams.proofs.ForCallers.{partner_at}
use Rattle.st_pair.proofs.ForCallers.{process_read}
use Rattle.node_hops.proofs.Starts.{unlisted_event}
use Rattle.node_hops.proofs.hops.partner.Goals as goal

pub returns-in-None : goal.returns-in-None
returns-in-None c =
    absurd (unlisted_event c.args.streams.now c.args.pid c.args.index c.args.event.now
    c.in-None.ensures.missing c.requires.there)

pub returns-in-Some : goal.returns-in-Some
returns-in-Some c =
    let es = events_of c.args.streams.now c.args.pid in
    c.partner_at.ensures
    ∙ ap (λ xs. option_and_then (λ o. o) (slice_get xs c.args.index))
    (c.as_slice.ensures
    ∙ process_read (partners c.args.streams.now) c.args.streams.now c.args.pid _ _ _
    c.requires.sound.draft.rising c.requires.paired c.in-Some.ensures.found
    c.index-partners-place.is)
    ∙ ap (option_and_then (λ o. o))
    (partner_at c.args.streams.now es c.args.index c.args.event.now c.requires.there)
