-- The lemma says it.
use Rattle.std.proofs.Common.{refl}
use Rattle.node_machine.proofs.Labels.{gift_brings}
use Rattle.node_machine.proofs.laws.a_label_that_is_never_given_is_brought.Goals as goal

pub returns : goal.returns
returns c = λ sent es i stamp at h can. gift_brings sent stamp.label es i stamp at refl h can
