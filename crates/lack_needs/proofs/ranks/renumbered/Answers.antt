-- Each process comes after those before it, with its own events, and all pids that these name are
-- listed as before.
use Rattle.std.proofs.Common.{◌∙◌, ap, arith, length, rules}
use Rattle.std.proofs.lemmas.List.{take_all}
use Rattle.st_core.specs.Streams.{unlisted}
use Rattle.lack_laws.specs.Renumbering.{rank, with_counts}
use Rattle.lack_laws.proofs.ForCallers.{streams_with}
use Rattle.lack_needs.proofs.ToldEvents.{pids_length}
use Rattle.lack_needs.proofs.Ranking.{comes_last, own_events, streams_more}
use Rattle.lack_needs.proofs.ranks.renumbered.Goals as goal

pub add_renumbered-requires-clause-last : goal.add_renumbered-requires-clause-last
add_renumbered-requires-clause-last c =
    comes_last (rank c.in_ok-counts.counts.items) c.args.streams.now _ _ _ _
    c.pids-pid-items.ensures.streams.draft.rising c.pids-pid-items.ensures.value
    c.loop-pid-test.true
    c.loop-pid.invariant

pub add_renumbered-requires-clause-own : goal.add_renumbered-requires-clause-own
add_renumbered-requires-clause-own c =
    own_events c.args.streams.now _ _ _ _ c.pids-pid-items.ensures.streams.draft.rising
    c.pids-pid-items.ensures.streams.draft.own c.pids-pid-items.ensures.value c.loop-pid-test.true
    c.events.ensures.value

pub loop-pid-preserved : goal.loop-pid-preserved
loop-pid-preserved c =
    streams_more c.in_ok-counts.counts.items c.args.streams.now _ _ _ _ _ _
    c.pids-pid-items.ensures.streams.draft.rising c.pids-pid-items.ensures.value
    c.loop-pid-test.true
    c.events.ensures.value c.loop-pid.invariant (search rules)

pub close_draft-requires : goal.close_draft-requires
close_draft-requires c =
    let streams = c.args.streams.now in
    let f = rank c.in_ok-counts.counts.items in
    let past = c.loop-pid-test.false in
    let length_is = ap length c.pids-pid-items.ensures.value ∙ pids_length streams in
    let all = take_all c.loop-pid.pid-index streams (omega (arith, past, length_is)) in
    ap unlisted (c.loop-pid.invariant ∙ ap (with_counts f) all)
    ∙ (streams_with f streams c.pids-pid-items.ensures.streams).listed
