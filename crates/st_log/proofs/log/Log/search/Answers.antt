-- Each row has its entry's rank.
use Rattle.std.proofs.Common.{rules, List, length, subst}
use Rattle.std.specs.List.Sorted.{IsBinarySearchResult, IsSearchInRange}
use Rattle.std.specs.Ordering.{nat_cmp}
use Rattle.std.proofs.lemmas.List.Sorted.{answers_always}
use Rattle.st_log.specs.declared.entry.Entry.{Entry}
use Rattle.st_log.specs.declared.row.LogRow.{LogRow}
use Rattle.st_log.specs.Entries.{Logged}
use Rattle.st_log.specs.Rows.{row_entry}
use Rattle.st_log.proofs.ForCallers.{search_keys}
use Rattle.st_log.proofs.log.Log.search.Goals as goal

pub returns-clause-position : goal.returns-clause-position
returns-clause-position c =
    let n = c.args.rank in
    let r = c.binary_search_by_key.result in
    let found = c.binary_search_by_key.ensures in
    let rows = c.self.inside.rows.items in
    let bound = subst (λ (xs : List LogRow). IsSearchInRange r (length xs)) c.deref.ensures.value
    found.bound in
    let position = subst (λ (xs : List LogRow).
    IsBinarySearchResult (λ (x : LogRow). nat_cmp x.rank n) xs r)
    c.deref.ensures.value
    (found.position (λ (x : LogRow). x.rank) (answers_always _ _ _ (λ f a r h i. search rules))) in
    subst (λ (log : Logged). IsBinarySearchResult (λ (e : Entry). nat_cmp e.rank n) log.entries r)
    c.self.view_is
    (search_keys (row_entry c.self.inside.calls.calls c.self.inside.traced.items
    c.self.inside.apart.items)
    (λ (e : Entry). nat_cmp e.rank n) rows r bound position)
