-- After the loop the acts that were taken are all the acts.
use Rattle.std.proofs.Common.{ℕ, ◌≤◌, List, length, take, subst, take_all}
use Rattle.st_core.specs.declared.types.Act.{Act}
use Rattle.st_core.specs.State.{State}
use Rattle.st_core.specs.Run.{Stream}
use Rattle.st_check.specs.Progress.{IsPassedBy}
use Rattle.st_check.specs.declared.comparison.Comparison.{Comparison}

pub all : (top : ℕ) (streams : List Stream) (acts : List Act) (n : ℕ) (s : State) (c : Comparison)
    → length acts ≤ n
    → IsPassedBy top streams (take n acts) s c → IsPassedBy top streams acts s c
all top streams acts n s c whole p =
    subst (λ xs. IsPassedBy top streams xs s c) (take_all n acts whole) p
