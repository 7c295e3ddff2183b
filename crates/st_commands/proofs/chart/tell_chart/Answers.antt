-- The chart's result says how it ended: it was written whole, or the writer failed, or the writer
-- wasn't touched; in the last case a line is written instead.
use Rattle.st_commands.specs.Charted.{drawn, no_label}
use Rattle.st_commands.specs.Command.{Whole, Part}
use Rattle.st_commands.specs.Output.{no_memory}
use Rattle.st_commands.specs.Parts.{Draws, LacksLabel, NoRoomToDraw}
use Rattle.st_chart.specs.declared.fault.ChartFault.TheVariants as fault
use Rattle.std.proofs.Common.{refl}
use Rattle.std.specs.Prelude.{Ok, Err}
use Rattle.st_commands.proofs.Charts.{labelled, from_there}
use Rattle.st_commands.proofs.chart.tell_chart.Goals as goal

pub returns-in-Ok : goal.returns-in-Ok
returns-in-Ok g c =
    record {
      output = drawn c.args.streams.now c.args.items.now c.args.label;
      owed = Draws (labelled (Ok c.in-Ok.field-0) _ (λ e. absurd (cc)) c.in-Ok.ensures.no_label);
      delivered = Whole c.in-Ok.ensures.written;
    }

pub returns-in-Err-NoLabel : goal.returns-in-Err-NoLabel
returns-in-Err-NoLabel g c =
    let none = (rw c.in-Err-NoLabel.field-0-is at c.in-Err-NoLabel.ensures.no_label).0 refl in
    let same = rw c.in-Err-NoLabel.field-0-is at c.in-Err-NoLabel.ensures.written in
    record {
      output = no_label c.args.label;
      owed = LacksLabel none;
      delivered = from_there _ _ _ _ _ _ same c.tell_line.ensures;
    }

pub returns-in-Err-Memory : goal.returns-in-Err-Memory
returns-in-Err-Memory g c =
    let same = rw c.in-Err-Memory.field-0-is at c.in-Err-Memory.ensures.written in
    record {
      output = no_memory;
      owed = NoRoomToDraw;
      delivered = from_there _ _ _ _ _ _ same c.tell_fault.ensures;
    }

pub returns-in-Err-Device : goal.returns-in-Err-Device
returns-in-Err-Device g c =
    let unlike = rw c.in-Err-Device.field-0-is at c.in-Err-Device.ensures.no_label in
    let part = rw c.in-Err-Device.field-0-is at c.in-Err-Device.ensures.written in
    record {
      output = drawn c.args.streams.now c.args.items.now c.args.label;
      owed = Draws (labelled (Err fault.Device) _ (λ e. absurd (cc)) unlike);
      delivered = Part part;
    }
