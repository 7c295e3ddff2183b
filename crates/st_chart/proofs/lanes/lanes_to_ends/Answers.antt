-- An end is the event's from or its to.
use Rattle.st_chart.proofs.Cuts.{cut_at_ends}
use Rattle.st_chart.proofs.lanes.lanes_to_ends.Goals as goal

pub returns : goal.returns
returns c =
    cut_at_ends c.args.event.now c.args.lanes.now c.lanes_to-from.result c.lanes_to-to.result
    c.min.result
    c.max.result c.min.ensures c.max.ensures c.lanes_to-from.ensures.within
    c.lanes_to-to.ensures.within
    c.lanes_to-from.ensures.others c.lanes_to-to.ensures.others
