-- One more row is as long as its process has events.
use Rattle.std.proofs.Common.{ℕ, length, [], ◌∷◌, map, Vec, Global, sym, ◌∙◌, ap}
use Rattle.std.proofs.lemmas.List.{map-append}
use Rattle.st_core.specs.declared.types.Pid.{Pid}
use Rattle.lack_search.proofs.Telling.{counts_more}
use Rattle.lack_search.proofs.links.no_links.Goals as goal

pub loop-pid-preserved : goal.loop-pid-preserved
loop-pid-preserved c =
    let rows = c.loop-pid.rows.items in
    let row = c.in_ok-vec.field-0 in
    let none : Pid = record { node = 0; number = 0 } in
    ap (map (λ (v : Vec ℕ Global). length v.items)) c.in_ok-push.ensures.items
    ∙ map-append (λ (v : Vec ℕ Global). length v.items) rows (row ∷ [])
    ∙ counts_more c.args.whole.now c.pids-pid-items.result.now c.loop-pid.pid-index none
    c.events.result.now (map (λ (v : Vec ℕ Global). length v.items) rows) (length row.items)
    c.pids-pid-items.ensures.streams.draft.rising c.pids-pid-items.ensures.value
    c.loop-pid-test.true c.events.ensures.value (sym row.ok.0 ∙ c.in_ok-vec.ensures.len)
    c.loop-pid.invariant
