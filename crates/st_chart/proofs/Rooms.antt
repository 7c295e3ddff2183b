-- If the waiting bytes can't be written after a front that was, a prefix of the whole was written.
use Rattle.std.proofs.Common.{◌≡◌, ℕ, Bool, List, [], ◌++◌, subst}
use Rattle.st_text.specs.Writing.{WritesPart, Goes}
use Rattle.st_text.proofs.ForCallers.{part_longer, part_then}

pub no_room_before : {S : Type 0} (puts : S → List ℕ → S → Type 0)
    (failed : S → Bool) {before : List ℕ}
    (after : List ℕ) {whole : List ℕ} {a b c : S} {x y : List ℕ}
    → before ++ after ≡ whole → Goes puts failed before a b x y
    → WritesPart puts failed (y ++ []) b c
    → WritesPart puts failed (x ++ whole) a c
no_room_before puts failed {before} after {a} {c} {x} {y} e g h =
    subst (λ (t : List ℕ). WritesPart puts failed (x ++ t) a c) e
    (part_then puts failed before after g (part_longer puts failed [] after y h))
