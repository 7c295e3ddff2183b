-- The lowest counts of more processes are those so far, lowered by the events of the next process.
use Rattle.std.proofs.Common.{◌≤◌, ℕ, List, None, Option, length, take, subst, arith, ap, rules}
use Rattle.std.proofs.lemmas.List.{length-map, take_all}
use Rattle.st_core.specs.declared.types.Pid.{Pid}
use Rattle.st_core.specs.Run.{pids_of, Stream}
use Rattle.lack_needs.specs.Unfounded.{lowest_from, IsNoted}
use Rattle.lack_needs.proofs.Noted.{lowest_next, noted_none}
use Rattle.lack_needs.proofs.unfounded_stamps.lowest_counts.Goals as goal
use Rattle.st_pair.proofs.ForCallers.{stream_here}

pub loop-pid-init : goal.loop-pid-init
loop-pid-init c = noted_none (pids_of c.args.streams.now) _ _ (ap length c.pids.ensures.value)
    (c.in_ok-lows.ensures.items_if_clones_equal (λ y h. search rules))

pub loop-pid-preserved : goal.loop-pid-preserved
loop-pid-preserved c =
    let streams = c.args.streams.now in
    let k = c.loop-pid.pid-index in
    let at = stream_here streams _ k _ _ c.pids-pid-items.ensures.streams.draft.rising
    c.pids-pid-items.ensures.value c.loop-pid-test.true c.events.ensures.value in
    subst (λ (f : Pid → Option ℕ). IsNoted (pids_of streams) f c.note_events.new.lows.items)
    (λ i q. lowest_next q None streams k _ at i)
    (c.note_events.ensures (λ q. lowest_from q None (take k streams)) c.loop-pid.invariant)

pub returns : goal.returns
returns c =
    let streams = c.args.streams.now in
    let k = c.loop-pid.pid-index in
    let past : length (pids_of streams) ≤ k =
    subst (λ (ps : List Pid). length ps ≤ k) c.pids-pid-items.ensures.value c.loop-pid-test.false in
    let long = length-map streams (λ (x : Stream). x.pid) in
    subst (λ xs. IsNoted (pids_of streams) (λ q. lowest_from q None xs) c.loop-pid.lows.items)
    (take_all k streams (omega arith)) c.loop-pid.invariant
