-- `is_sorted_by` returns whether each pid is below the next, and so whether they rise.
use Rattle.std.proofs.Common.{rules}
use Rattle.std.specs.Ordering.{is_lt}
use Rattle.std.proofs.lemmas.Fn.{always_returns_same}
use Rattle.st_core.specs.Pid.{pid_cmp}
use Rattle.st_core.proofs.RisingPids.{rising_from_answer}
use Rattle.st_core.proofs.rising.is_rising.Goals as goal

pub returns : goal.returns
returns c =
    let same = always_returns_same _ _ _ (λ a r f k. search rules) in
    rising_from_answer c.args.pids.now c.is_sorted_by.result
    (c.is_sorted_by.ensures.cases (λ x y. is_lt (pid_cmp x y)) same)
