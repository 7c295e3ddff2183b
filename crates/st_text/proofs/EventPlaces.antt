-- The line of an event is found by counting process by process, and its number fits in a word if
-- that of the text's last line does.
use Rattle.std.proofs.Common.{◌≡◌, ℕ, ◌+◌, ◌-◌, ◌^◌, ◌<◌, ◌≤◌, Bool, true, false, cond, List, []}
use Rattle.std.proofs.Common.{◌∷◌, length, drop}
use Rattle.std.proofs.Common.{get_or, refl, sym, ap, ◌∙◌, arith, add-one, drop-cons}
use Rattle.std.specs.Prelude.{min}
use Rattle.st_core.specs.declared.types.Pid.{Pid}
use Rattle.st_core.specs.Pid.{pid_eq}
use Rattle.st_text.specs.Parts.Finish.{line_at_place}

pub line_ge : (f : Pid → ℕ) (n : ℕ) (ps : List Pid) (p : Pid) (i : ℕ) → n ≤ line_at_place f n ps p i
line_ge f n [] p i = omega arith
line_ge f n (q ∷ ps) p i = by (pid_eq q p) (line_ge f (n + 1 + f q) ps p i)
  where
    by : (t : Bool) → n + 1 + f q ≤ line_at_place f (n + 1 + f q) ps p i
        → n ≤ cond t (n + 1 + i) (line_at_place f (n + 1 + f q) ps p i)
    by true le = omega arith
    by false le = omega arith

front : (f : Pid → ℕ) (n : ℕ) (ps : List Pid) (p : Pid) (i k : ℕ) (d : Pid) → k < length ps
    → line_at_place f n (drop k ps) p i ≡ line_at_place f n (get_or ps k d ∷ drop (k + 1) ps) p i
front f n ps p i k d lt =
    ap (λ (x : List Pid). line_at_place f n x p i)
    (drop-cons ps k d lt ∙ ap (λ j. get_or ps k d ∷ drop j ps) (sym (add-one k)))

pub line_here : (f : Pid → ℕ) (n : ℕ) (ps : List Pid) (p : Pid) (i k : ℕ) (d : Pid) → k < length ps
    → pid_eq (get_or ps k d) p ≡ true → line_at_place f n (drop k ps) p i ≡ n + 1 + i
line_here f n ps p i k d lt t = front f n ps p i k d lt ∙ rw t refl

pub line_later : (f : Pid → ℕ) (n : ℕ) (ps : List Pid) (p : Pid) (i k : ℕ) (d : Pid) → k < length ps
    → pid_eq (get_or ps k d) p ≡ false
    → line_at_place f n (drop k ps) p i
    ≡ line_at_place f (n + 1 + f (get_or ps k d)) (drop (k + 1) ps) p i
line_later f n ps p i k d lt t = front f n ps p i k d lt ∙ rw t refl

-- a sum that stops at the greatest number is the sum, if that is smaller
pub exact : (a b s t : ℕ) → s ≡ min (a + 1) (2 ^ 64 - 1) → t ≡ min (s + b) (2 ^ 64 - 1)
    → a + 1 + b < 2 ^ 64
    → t ≡ a + 1 + b
exact a b s t e f small = omega arith
