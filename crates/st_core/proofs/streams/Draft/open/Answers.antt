-- A pid above the last of pids that rise is above them all, so both lists may grow by it.
use Rattle.std.proofs.Common.{sym, ◌∙◌, []}
use Rattle.std.proofs.lemmas.Bool.{false≢true}
use Rattle.st_core.proofs.Collections.{ComesLast-collected, ComesLast-pids, collected-push}
use Rattle.st_core.proofs.Collections.{IsCollected-push}
use Rattle.st_core.proofs.streams.Draft.open.Goals as goal

pub returns-then-not-comes_last-clause-fault : goal.returns-then-not-comes_last-clause-fault
returns-then-not-comes_last-clause-fault c all =
    let below = ComesLast-pids _ _ _ c.self.invariant.even (rw c.self.view_is all) in
    false≢true (sym c.if-not-comes_last.true
    ∙ c.comes_last.ensures.1 (rw c.deref.ensures.value below))

pub returns-in_default-clause-fault : goal.returns-in_default-clause-fault
returns-in_default-clause-fault c =
    let below = rw c.deref.ensures.value at (c.comes_last.ensures.0 c.if-not-comes_last.false) in
    rw (← c.self.view_is) (ComesLast-collected _ _ _ below)

pub returns-in_default-push-clause-fault : goal.returns-in_default-push-clause-fault
returns-in_default-push-clause-fault c =
    let below = rw c.deref.ensures.value at (c.comes_last.ensures.0 c.if-not-comes_last.false) in
    rw (← c.self.view_is) (ComesLast-collected _ _ _ below)

pub invariant_of-self-2 : goal.invariant_of-self-2
invariant_of-self-2 c =
    let below = rw c.deref.ensures.value at (c.comes_last.ensures.0 c.if-not-comes_last.false) in
    let pids = rw (c.unwrap.ensures, c.reserve.ensures.items) at c.push-2.ensures.items in
    let lists = rw c.new.ensures at c.in-Ok-push.ensures.items in
    rw (pids, lists) (IsCollected-push _ _ _ _ c.self.invariant below)

pub returns-clause-ok : goal.returns-clause-ok
returns-clause-ok c =
    let pids = rw (c.unwrap.ensures, c.reserve.ensures.items) at c.push-2.ensures.items in
    let lists = rw c.new.ensures at c.in-Ok-push.ensures.items in
    rw (pids, lists, ← c.self.view_is) (collected-push _ _ _ [] c.self.invariant.even)

pub returns-clause-rising : goal.returns-clause-rising
returns-clause-rising c =
    let below = rw c.deref.ensures.value at (c.comes_last.ensures.0 c.if-not-comes_last.false) in
    rw (← c.self.view_is) (ComesLast-collected _ _ _ below)
