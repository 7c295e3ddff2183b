-- The last row has the last rank.
use Rattle.std.proofs.Common.{◌≡◌, ◌-◌, List, length, Some, ap, ◌∙◌, subst}
use Rattle.std.specs.Prelude.{slice_get}
use Rattle.st_log.specs.declared.row.LogRow.{LogRow}
use Rattle.st_log.specs.Entries.{Logged, last_rank}
use Rattle.st_log.proofs.RowLemmas.{last_rank-rows}
use Rattle.st_log.proofs.log.Log.last_rank.Goals as goal

pub returns-in-Some : goal.returns-in-Some
returns-in-Some c =
    let row = c.in-Some.row.now in
    let inside = c.self.inside in
    let last = subst (λ (rows : List LogRow). Some row ≡ slice_get rows (length rows - 1))
    c.deref.ensures.value
    c.in-Some.ensures.value in
    last_rank-rows 0 inside.rows.items inside.calls.calls inside.traced.items inside.apart.items row
    last
    ∙ ap (λ (log : Logged). last_rank 0 log.entries) c.self.view_is
