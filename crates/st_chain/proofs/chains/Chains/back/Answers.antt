-- Each turn adds the cause of the last place, and the loop ends if the cause isn't an event; no
-- cause has a greater count than its event.
use Rattle.std.proofs.Common.{List, ℕ, [], subst, append-nil}
use Rattle.st_core.specs.declared.types.Pid.{Pid}
use Rattle.st_chain.specs.Causes.{place_at, IsBackFrom}
use Rattle.st_chain.proofs.Weights.{back_smaller}
use Rattle.st_chain.proofs.chains.Chains.back.Goals as goal

pub loop-at-smaller : goal.loop-at-smaller
loop-at-smaller c = rw (c.before-at.ensures.before, c.in-Some.is)
    (back_smaller c.args.self.now c.before-at.ensures.accepted c.in-Some.p c.in-Some.i)

pub returns : goal.returns
returns c = subst (λ (xs : List (Pid × ℕ)). IsBackFrom c.args.self.now
    (place_at c.args.self.now c.args.pid c.args.index) xs) (append-nil c.loop-at.list.items)
    (c.loop-at.invariant [] c.in_default.is)
