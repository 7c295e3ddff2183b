-- One more silent print may as well be added at the end, since all silent prints are the same act.
use Rattle.std.proofs.Common.{◌≡◌, ℕ, ◌+◌, zero, suc, [], ◌∷◌, ◌++◌, refl, ◌∙◌, ap, arith}
use Rattle.st_core.specs.declared.types.Pid.{Pid}
use Rattle.st_core.specs.declared.types.Act.TheVariants as act
use Rattle.st_plan.specs.Build.{silent_prints}

last_print : (p : Pid) (n : ℕ) → silent_prints p (suc n) ≡ silent_prints p n ++ act.Print p 0 ∷ []
last_print p zero = refl
last_print p (suc n) = ap (λ acts. act.Print p 0 ∷ acts) (last_print p n)

pub silent_more : (p : Pid) (n : ℕ)
    → silent_prints p (n + 1) ≡ silent_prints p n ++ act.Print p 0 ∷ []
silent_more p n = let next : n + 1 ≡ suc n = omega arith in
    ap (silent_prints p) next ∙ last_print p n
