-- Lanes rise, so a process has at most one.
use Rattle.st_core.proofs.ForCallers.{missing_from_search}
use Rattle.st_chart.proofs.Cuts.{found_once, found_never}
use Rattle.st_chart.proofs.lanes.lanes_to.Goals as goal

pub returns-in-Ok-clause-others : goal.returns-in-Ok-clause-others
returns-in-Ok-clause-others c =
    let lanes = c.args.lanes.now in
    let found = rw c.in-Ok.is at c.binary_search.ensures.position in
    let within = rw c.in-Ok.is at c.binary_search.ensures.bound in
    rw c.in-Some.is (found_once lanes c.in-Some.pid c.in-Ok.lane c.requires within found)

pub returns-in-Err-clause-others : goal.returns-in-Err-clause-others
returns-in-Err-clause-others c =
    let lanes = c.args.lanes.now in
    let searched =
    missing_from_search lanes c.in-Some.pid c.binary_search.result c.requires
    c.binary_search.ensures.position in
    let none = rw c.in-Err.is at searched in
    rw c.in-Some.is (found_never lanes c.in-Some.pid _ none)
