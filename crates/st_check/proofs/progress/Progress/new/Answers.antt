-- Without acts the world is at zero.
use Rattle.std.proofs.Common.{[], sym, ap, ◌∙◌, subst}
use Rattle.st_core.specs.State.{zero_state}
use Rattle.st_check.specs.Progress.{IsPassedBy}
use Rattle.st_check.proofs.progress.Progress.new.Goals as goal

pub returns : goal.returns
returns g c =
    subst (λ s. IsPassedBy g.row.TOP c.args.streams.now [] s c.in_ok-comparison.comparison)
    (sym (c.in-Ok.ensures.zero ∙ ap zero_state c.pids.ensures.value))
    (c.in_ok-comparison.ensures g.row.TOP)
