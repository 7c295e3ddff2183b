-- The row that is written shows the same state as before.
use Rattle.std.proofs.Common.{◌<◌, length, get_or, ap, ◌∙◌, refl, rules}
use Rattle.std.proofs.lemmas.List.{get_or_default}
use Rattle.node_check.specs.Kept.{no_mark, zero_row}
use Rattle.node_check.proofs.Keeping.{refreshed_by}
use Rattle.node_check.proofs.processes.Processes.refresh.Goals as goal

pub returns-clause-refreshed : goal.returns-clause-refreshed
returns-clause-refreshed c = λ pids kept at.
    let old = c.args.self.now in
    let m = c.index-mark.result.now in
    let r = c.index.result.now in
    let in_nodes : c.from.result < length old.nodes.items = search rules in
    refreshed_by _ c.args.place c.args.pid kept at m r
    (c.index-mark.ensures ∙ get_or_default old.nodes.items c.from.result m no_mark in_nodes
    ∙ ap (λ k. get_or old.nodes.items k no_mark) (c.from.ensures ∙ c.node.ensures))
    (c.index.ensures ∙ get_or_default old.rows.items c.args.place r zero_row c.requires.rows)
    refl c.local_by.result c.local_by.ensures refl c.wipe_stale.ensures
