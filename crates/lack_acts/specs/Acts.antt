-- Acts that have a run, and how they grow.
use Rattle.std.specs.Prelude.{◌≡◌, ℕ, ◌≤◌, List, [], ◌++◌, length, Some}
use Rattle.st_core.specs.declared.types.Pid.{Pid}
use Rattle.st_core.specs.declared.types.Act.{Act}
use Rattle.st_core.specs.State.{zero_state}
use Rattle.st_core.specs.Step.{Outcome}
use Rattle.st_core.specs.Run.{run, run_from}
use Rattle.st_core.specs.Laws.{NoReset}
use Rattle.st_plan.specs.Build.{state_after}
use Rattle.lack_acts.specs.declared.lean.Acts.{Acts}

-- The acts have a run from zero clocks over these pids, so each act is one of a listed process.
-- None is a reset, and there are at most `most`.
pub record RunsWithin (top most : ℕ) (pids : List Pid) (acts : List Act) : Type 0 where
  pub outcomes : List Outcome
  pub runs : run top pids acts ≡ Some outcomes
  pub no_reset : NoReset acts
  pub within : length acts ≤ most

-- no act was written yet, and the world is at zero clocks
pub record IsBegun {top : ℕ} (pids : List Pid) (most : ℕ) (begun : Acts top) : Type 0 where
  pub world : begun.world ≡ zero_state pids
  pub acts : begun.acts ≡ []
  pub limit : begun.most ≡ most

-- Acts were added that lead from the old world to the new one. None of them is a reset, and if the
-- old acts were within the caller's limit, the new ones are too.
pub record Extends {top : ℕ} (old new : Acts top) : Type 0 where
  pub added : List Act
  pub outcomes : List Outcome
  pub appended : new.acts ≡ old.acts ++ added
  pub runs : run_from top old.world added ≡ Some outcomes
  pub leads : new.world ≡ state_after old.world outcomes
  pub no_reset : NoReset added
  pub most : new.most ≡ old.most
  pub within : length old.acts ≤ old.most → length new.acts ≤ new.most
