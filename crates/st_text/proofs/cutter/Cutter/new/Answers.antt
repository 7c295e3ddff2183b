-- Without bytes there is no line, and no unfinished line.
use Rattle.st_text.proofs.CutterSteps.{holds_nothing}
use Rattle.st_text.proofs.cutter.Cutter.new.Goals as goal

pub returns-clause-holds : goal.returns-clause-holds
returns-clause-holds c = λ limits. holds_nothing limits _ c.new.ensures.items
