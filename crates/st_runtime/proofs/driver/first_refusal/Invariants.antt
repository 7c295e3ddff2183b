-- None so far was refused.
use Rattle.std.proofs.Common.{◌≡◌, None, take}
use Rattle.std.specs.Prelude.{All}
use Rattle.st_runtime.proofs.driver.first_refusal.Given as goal

abbrev pub invariant-loop-end : goal.invariant-loop-end
invariant-loop-end l = All (λ end. end.fault ≡ None) (take l.end-index l.ends)
