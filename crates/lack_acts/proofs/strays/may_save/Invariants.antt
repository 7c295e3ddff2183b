-- No process taken so far saves anything, so the remaining ones decide.
use Rattle.std.proofs.Common.{◌≡◌, drop}
use Rattle.lack_needs.specs.Completions.{wholes_with}
use Rattle.lack_acts.specs.Strays.{may_save}
use Rattle.lack_acts.proofs.strays.may_save.Given as goal

abbrev pub invariant-loop-place : goal.invariant-loop-place
invariant-loop-place l = may_save (drop l.place (wholes_with l.fn.streams l.fn.marks))
    ≡ may_save (wholes_with l.fn.streams l.fn.marks)
