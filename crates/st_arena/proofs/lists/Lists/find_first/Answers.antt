-- The chain of a list holds its items in order, so a search of the chain is a search of the list.
use Rattle.std.proofs.Common.{ap}
use Rattle.st_arena.proofs.CallLemmas.{position-found}
use Rattle.st_arena.proofs.ListLemmas.{whole, list_is, len_is}
use Rattle.st_arena.proofs.lists.Lists.find_first.Goals as goal

pub first_answered-requires-clause-whole : goal.first_answered-requires-clause-whole
first_answered-requires-clause-whole g c =
    whole _ _ _ _ c.self.invariant.0 _ (ap (λ a. a.lists) c.self.view_is) c.args.list
    c.requires.in_range _
    c.index.ensures

pub returns-clause-absent : goal.returns-clause-absent
returns-clause-absent g c =
    let is =
    list_is _ _ _ _ c.self.invariant.0 _ (ap (λ a. a.lists) c.self.view_is) c.args.list
    c.requires.in_range _
    c.index.ensures in
    let len =
    len_is _ _ _ _ c.self.invariant.0 _ (ap (λ a. a.lists) c.self.view_is) c.args.list
    c.requires.in_range _
    c.index.ensures in
    rw (← len, is) c.first_answered.ensures.absent

pub returns-clause-position : goal.returns-clause-position
returns-clause-position g c test computes =
    let is =
    list_is _ _ _ _ c.self.invariant.0 _ (ap (λ a. a.lists) c.self.view_is) c.args.list
    c.requires.in_range _
    c.index.ensures in
    let len =
    len_is _ _ _ _ c.self.invariant.0 _ (ap (λ a. a.lists) c.self.view_is) c.args.list
    c.requires.in_range _
    c.index.ensures in
    position-found _ test _ computes c.first_answered.result
    (rw is c.first_answered.ensures.found)
    (rw (← len, is) c.first_answered.ensures.absent)
