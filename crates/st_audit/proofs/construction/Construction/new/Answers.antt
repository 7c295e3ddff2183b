-- In a new world all counts are zero, and no event has its acts yet.
use Rattle.std.proofs.Common.{length, refl, sym, ◌∙◌, ap, subst, IfSome}
use Rattle.std.proofs.Math.ListN.{length-map}
use Rattle.std.proofs.lemmas.List.{length-replicate}
use Rattle.st_core.specs.Run.{pids_of, Stream}
use Rattle.st_core.specs.State.{zero_state}
use Rattle.st_check.specs.Progress.{IsPassedBy}
use Rattle.st_audit.proofs.FirstCounts.{begins}
use Rattle.st_audit.proofs.ToldCounts.{none_told}
use Rattle.st_audit.proofs.construction.Construction.new.Goals as goal

pub returns-clause-so_far : goal.returns-clause-so_far
returns-clause-so_far g c =
    let streams = c.args.streams.now in
    let pids = c.pids-pids.result.now in
    let zeros = c.in_ok-told.ensures.items_if_clones_equal (λ y same. same) in
    record {
      counted = begins pids c.in-Ok.world c.in-Ok.ensures.zero;
      missed = refl;
      listed = ap length zeros ∙ length-replicate (length pids) 0
          ∙ ap length c.pids-pids.ensures.value
          ∙ length-map streams (λ (x : Stream). x.pid);
      told = none_told streams pids c.in_ok-told.told.items zeros c.pids-pids.ensures.value;
    }

pub returns-clause-matched : goal.returns-clause-matched
returns-clause-matched g c =
    let passes = IsPassedBy g.row.TOP c.args.streams.now in
    let zero = c.in-Ok.ensures.zero ∙ ap zero_state c.pids-pids.ensures.value in
    subst (λ s. IfSome c.args.comparison (passes c.new-2.result s)) (sym zero)
    (subst (λ acts. IfSome c.args.comparison
    (passes acts (zero_state (pids_of c.args.streams.now))))
    (sym c.new-2.ensures) c.requires)
