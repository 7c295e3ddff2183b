-- Pids are ordered by two numbers, one after the other, and numbers totally.
use Rattle.std.specs.Cmp.{IsTotalOrder}
use Rattle.std.proofs.lemmas.Cmp.{nat_cmp_total, on_total, then_total}
use Rattle.st_core.specs.declared.types.Pid.{Pid}
use Rattle.st_core.specs.Pid.{pid_cmp}

pub pid_total : IsTotalOrder pid_cmp
pid_total = then_total (on_total (λ (p : Pid). p.node) nat_cmp_total)
    (on_total (λ (p : Pid). p.number) nat_cmp_total)
