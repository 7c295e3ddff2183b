-- A stamp whose message gets another prev changes in nothing else.
use Rattle.std.proofs.Common.{◌∙◌, ap}
use Rattle.lack_search.specs.Inventions.{without_messages}
use Rattle.lack_search.proofs.Lists.{message_given}
use Rattle.lack_search.proofs.inventions.set_prevs.Goals as goal

pub loop-number-preserved : goal.loop-number-preserved
loop-number-preserved c =
    elim c.if-prev-ne0.branch [
      | goal.then-prev-ne0+then-number-sends+then-place-fed w ↦
          message_given c.loop-number.fed c.if-prev-ne0.fed _ _ w.fed-is ∙ c.loop-number.invariant
      | goal.then-prev-ne0+then-number-sends+else-place-fed w ↦
          ap without_messages w.fed-is ∙ c.loop-number.invariant
      | goal.else-prev-ne0 w ↦ ap without_messages w.fed-is ∙ c.loop-number.invariant
    ]
