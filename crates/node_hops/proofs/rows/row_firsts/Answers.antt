-- Each event adds where its row begins.
use Rattle.std.proofs.Common.{◌≡◌, ◌+◌, ◌-◌, ◌++◌, ◌∙◌, ap, sym, arith, drop, get_or, slice_get}
use Rattle.st_pair.proofs.ForCallers.{at_get_or, blank}
use Rattle.node_hops.specs.Events.{row_first}
use Rattle.node_hops.specs.Kept.{row_firsts, row_firsts_from}
use Rattle.node_hops.proofs.Starts.{starts_passed}
use Rattle.node_hops.proofs.rows.row_firsts.Goals as goal

pub loop-index-preserved : goal.loop-index-preserved
loop-index-preserved c =
    let es = c.args.events.now in
    let k = c.loop-index.index in
    let e = get_or es k blank in
    let at = at_get_or es k blank c.loop-index-test.true in
    let start = c.next_start-start.result in
    let number : k + 1 - 1 ≡ k = omega arith in
    record {
      whole =
          ap (λ xs. xs ++ row_firsts_from es (k + 1) (drop (k + 1) es)) c.in_ok-push.ensures.items
          ∙ starts_passed es k e start c.loop-index.found.items (row_firsts es) at
          (c.next_start-start.ensures e at)
          c.loop-index.invariant.whole;
      last = λ d some there.
          c.next_start-start.ensures d (ap (slice_get es) (sym number) ∙ there)
          ∙ ap (row_first d.serial.prev es) (sym number);
    }
