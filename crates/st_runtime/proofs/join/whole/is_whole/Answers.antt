-- Who the act touches is the actor alone, its node, or the actor and the receiver, and each of
-- these is asked.
use Rattle.st_runtime.proofs.PartLemmas.{match_test}
use Rattle.st_runtime.proofs.Legal.{on_false}
use Rattle.st_runtime.proofs.Wholeness.{whole_actor}
use Rattle.st_runtime.proofs.join.whole.is_whole.Goals as goal

pub returns-else-is_made : goal.returns-else-is_made
returns-else-is_made g c =
    match_test c.is_made.result _ _
    (λ yes. cc)
    (λ no whole. on_false c.is_made.result _ _ no c.is_made.ensures
    (whole_actor c.args.processes.now c.args.entry.now whole))
