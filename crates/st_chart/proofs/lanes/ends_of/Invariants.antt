-- The processes that were noted are the ends of the items so far.
use Rattle.std.proofs.Common.{◌≡◌, take}
use Rattle.std.specs.BTreeSet.{contains}
use Rattle.std.specs.List.{list_any}
use Rattle.st_core.specs.declared.types.Pid.{Pid}
use Rattle.st_core.specs.Pid.{pid_cmp}
use Rattle.st_chart.specs.Parts.{is_end_in}
use Rattle.st_chart.proofs.lanes.ends_of.Given as goal

abbrev pub invariant-loop-item : goal.invariant-loop-item
invariant-loop-item l =
    (p : Pid) → contains pid_cmp l.ends p
    ≡ list_any (is_end_in l.streams l.label p) (take l.item-index l.items)
