-- The items are put in order and charted, or `fault memory` is written if memory ran out.
use Rattle.std.proofs.Common.{sym, subst}
use Rattle.st_order.specs.Order.{IsOrder}
use Rattle.st_commands.specs.Output.{no_memory}
use Rattle.st_commands.specs.Parts.{OfOrder, NoRoomToOrder}
use Rattle.st_commands.proofs.chart.chart_paired.Goals as goal

pub returns-in_default : goal.returns-in_default
returns-in_default g c =
    record { output = no_memory; owed = NoRoomToOrder; delivered = c.tell_fault.ensures }

pub returns-in-Ok-order : goal.returns-in-Ok-order
returns-in-Ok-order g c =
    let drawn = c.tell_chart.ensures in
    let order = subst (IsOrder c.args.streams.now) (sym c.as_slice.ensures) c.in-Ok-order.ensures in
    record {
      output = drawn.output;
      owed = OfOrder c.as_slice.result.now drawn.output c.requires.accepted order drawn.owed;
      delivered = drawn.delivered;
    }

pub returns : goal.returns
returns g c = record {
  output = no_memory;
  owed = NoRoomToOrder;
  delivered = c.tell_fault-in-Err.ensures;
}
