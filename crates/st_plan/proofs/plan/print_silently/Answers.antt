-- One more print is added at the end.
use Rattle.std.proofs.Common.{◌∷◌, [], ◌++◌, append_assoc, sym, ◌∙◌, ap}
use Rattle.st_core.specs.declared.types.Act.TheVariants as act
use Rattle.st_plan.specs.Build.{silent_prints}
use Rattle.st_plan.proofs.SilentPrints.{silent_more}
use Rattle.st_plan.proofs.plan.print_silently.Goals as goal

pub loop-preserved : goal.loop-preserved
loop-preserved c =
    let one = act.Print c.args.pid 0 ∷ [] in
    c.in_ok-push.ensures.items ∙ ap (λ xs. xs ++ one) c.loop.invariant
    ∙ append_assoc c.args.plan.now.items (silent_prints c.args.pid c.loop.counter) one
    ∙ ap (λ xs. c.args.plan.now.items ++ xs) (sym (silent_more c.args.pid c.loop.counter))
