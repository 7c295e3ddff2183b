-- The stamps change in nothing but their messages.
use Rattle.std.proofs.Common.{◌≡◌}
use Rattle.lack_search.specs.Inventions.{without_messages}
use Rattle.lack_search.proofs.inventions.set_prevs.Given as goal

abbrev pub invariant-loop-number : goal.invariant-loop-number
invariant-loop-number l = without_messages l.fed ≡ without_messages l.fn.fed
