-- The pid at a place is the same however it is read.
use Rattle.std.proofs.Common.{◌≡◌, ℕ, ◌<◌, List, length, get_or, refl, sym, ◌∙◌}
use Rattle.std.proofs.lemmas.Option.{same_Some, slice_get_read}
use Rattle.st_core.specs.declared.types.Pid.{Pid}

-- two readings of a place give one pid
pub read_same : (ps : List Pid) (k : ℕ) (p q : Pid) → k < length ps → p ≡ get_or ps k p
    → q ≡ get_or ps k q → p ≡ q
read_same ps k p q within one other =
    let first = slice_get_read ps (length ps) k p refl within one in
    let second = slice_get_read ps (length ps) k q refl within other in
    same_Some p q (sym first ∙ second)
