-- No act taken so far is a reset.
use Rattle.std.proofs.Common.{◌≡◌, ℕ, ◌<◌, false, slice_get, Some}
use Rattle.st_core.specs.declared.types.Act.{Act}
use Rattle.st_core.specs.Laws.{is_reset}
use Rattle.lack_decide.proofs.certificates.has_no_reset.Given as goal

abbrev pub invariant-loop-act : goal.invariant-loop-act
invariant-loop-act l = (k : ℕ) (a : Act) → k < l.act-index → slice_get l.acts k ≡ Some a
    → is_reset a ≡ false
