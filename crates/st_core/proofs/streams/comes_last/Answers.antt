-- The last of rising pids is the greatest.
use Rattle.std.proofs.Common.{sym, ◌∙◌, ap}
use Rattle.std.specs.Option.{option_copied}
use Rattle.st_core.proofs.Pids.{below_decides}
use Rattle.std.specs.Ordering.{is_lt}
use Rattle.st_core.proofs.streams.comes_last.Goals as goal

pub returns-in-Some : goal.returns-in-Some
returns-in-Some c =
    below_decides c.args.pids.now c.in-Some.last.now c.args.pid c.is_lt.result c.requires
    (sym c.last.ensures.value ∙ ap option_copied c.in-Some.is)
    (c.is_lt.ensures ∙ ap is_lt c.cmp.ensures)
