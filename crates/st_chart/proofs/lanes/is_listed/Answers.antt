-- The pids rise, so a pid that the search doesn't find isn't listed.
use Rattle.std.proofs.Common.{◌∙◌}
use Rattle.st_chart.proofs.Common.{found_among}
use Rattle.st_chart.proofs.lanes.is_listed.Goals as goal

pub returns : goal.returns
returns c =
    c.is_ok.ensures.value
    ∙ found_among c.args.pids.now c.args.pid c.binary_search.result c.requires
    c.binary_search.ensures.bound
    c.binary_search.ensures.position
