-- The chain of a list holds its items in order, so a search of the chain is a search of the list.
use Rattle.std.proofs.Common.{ap}
use Rattle.st_arena.proofs.CallLemmas.{position-any}
use Rattle.st_arena.proofs.ListLemmas.{chained, list_is, len_is}
use Rattle.st_arena.proofs.lists.Lists.find_any.Goals as goal

pub any_answered-requires-clause-chained : goal.any_answered-requires-clause-chained
any_answered-requires-clause-chained g c =
    chained _ _ _ _ c.self.invariant.0 _ (ap (λ a. a.lists) c.self.view_is) c.args.list
    c.requires.in_range _
    c.index.ensures

pub returns-clause-found : goal.returns-clause-found
returns-clause-found g c =
    let is =
    list_is _ _ _ _ c.self.invariant.0 _ (ap (λ a. a.lists) c.self.view_is) c.args.list
    c.requires.in_range _
    c.index.ensures in
    rw is c.any_answered.ensures.found

pub returns-clause-absent : goal.returns-clause-absent
returns-clause-absent g c =
    let is =
    list_is _ _ _ _ c.self.invariant.0 _ (ap (λ a. a.lists) c.self.view_is) c.args.list
    c.requires.in_range _
    c.index.ensures in
    let len =
    len_is _ _ _ _ c.self.invariant.0 _ (ap (λ a. a.lists) c.self.view_is) c.args.list
    c.requires.in_range _
    c.index.ensures in
    rw (← len, is) c.any_answered.ensures.absent

pub returns-clause-position : goal.returns-clause-position
returns-clause-position g c test computes once =
    let is =
    list_is _ _ _ _ c.self.invariant.0 _ (ap (λ a. a.lists) c.self.view_is) c.args.list
    c.requires.in_range _
    c.index.ensures in
    let len =
    len_is _ _ _ _ c.self.invariant.0 _ (ap (λ a. a.lists) c.self.view_is) c.args.list
    c.requires.in_range _
    c.index.ensures in
    position-any _ test _ computes once c.any_answered.result
    (rw is c.any_answered.ensures.found)
    (rw (← len, is) c.any_answered.ensures.absent)
