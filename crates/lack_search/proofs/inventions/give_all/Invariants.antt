-- The stamps change in nothing but their messages.
use Rattle.std.proofs.Common.{◌≡◌}
use Rattle.lack_search.specs.Inventions.{without_messages}
use Rattle.lack_search.proofs.inventions.give_all.Given as goal

abbrev pub invariant-loop-turn : goal.invariant-loop-turn
invariant-loop-turn l = without_messages l.fed ≡ without_messages l.fn.fed
