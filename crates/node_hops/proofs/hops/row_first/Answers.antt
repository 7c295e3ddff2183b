-- A process's starts are at its place, and a process that isn't listed has no event.
use Rattle.std.proofs.Common.{◌∙◌}
use Rattle.st_core.specs.Streams.{events_of}
use Rattle.node_hops.specs.Kept.{row_firsts}
use Rattle.st_pair.proofs.ForCallers.{process_read}
use Rattle.node_hops.proofs.Starts.{start_read, start_within, unlisted_event}
use Rattle.node_hops.proofs.hops.row_first.Goals as goal

pub returns-in-None-clause-value : goal.returns-in-None-clause-value
returns-in-None-clause-value c =
    absurd (unlisted_event c.args.streams.now c.args.pid c.args.index c.args.event.now
    c.in-None.ensures.missing
    c.requires.there)

pub returns-in-Some-clause-value : goal.returns-in-Some-clause-value
returns-in-Some-clause-value c =
    c.start_at.ensures
    ∙ start_read (events_of c.args.streams.now c.args.pid) c.args.index c.args.event.now
    c.as_slice.result.now
    (c.as_slice.ensures ∙ process_read row_firsts c.args.streams.now c.args.pid _ _ _
    c.requires.sound.draft.rising
    c.requires.rows c.in-Some.ensures.found c.index-starts-place.is) c.requires.there

pub returns-in-Some-clause-within : goal.returns-in-Some-clause-within
returns-in-Some-clause-within c =
    start_within (events_of c.args.streams.now c.args.pid) c.args.index c.args.event.now _
    c.requires.there
    (c.start_at.ensures
    ∙ start_read (events_of c.args.streams.now c.args.pid) c.args.index c.args.event.now
    c.as_slice.result.now
    (c.as_slice.ensures ∙ process_read row_firsts c.args.streams.now c.args.pid _ _ _
    c.requires.sound.draft.rising
    c.requires.rows c.in-Some.ensures.found c.index-starts-place.is) c.requires.there)
