-- The result of a call says whether a list grew or memory ran out.
use Rattle.std.proofs.Common.{◌≡◌, ℕ, true, false, cond, List}
use Rattle.std.specs.Prelude.{Result, Ok, Err, OnErr}
use Rattle.std.specs.Result.{is_ok, is_err}

pub added_on : {A E : Type 0} (r : Result A E) (items xs ys : List ℕ) → items ≡ cond (is_ok r) xs ys
    → is_err r ≡ false
    → items ≡ xs
added_on (Ok x) items xs ys e ok = e
added_on (Err d) items xs ys e ok = absurd cc

-- what a failed call promises holds if the call failed
pub refused : {A E : Type 0} (r : Result A E) (P : Type 0) → is_err r ≡ true → OnErr r P → P
refused (Ok x) P bad h = absurd cc
refused (Err d) P bad h = h
