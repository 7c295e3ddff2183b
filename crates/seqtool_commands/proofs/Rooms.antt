-- The texts below a number are those below any lower one, then its own, then the rest: so texts go
-- one after the other.
use Rattle.std.proofs.Common.{◌≡◌, ℕ, zero, suc, ◌+◌, ◌<◌, Bool, List, [], ◌++◌, sym, ap, subst}
use Rattle.std.proofs.Common.{◌∙◌, append_assoc, inl, inr, arith, add-one}
use Rattle.std.proofs.lemmas.Bool.{cases_lt}
use Rattle.std.proofs.lemmas.List.{append-nil}
use Rattle.st_text.specs.Writing.{WritesPart, Goes}
use Rattle.st_text.proofs.ForCallers.{part_longer, part_then, goes_then}
use Rattle.seqtool_commands.specs.Lines.{up_to}

module _ (f : ℕ → List ℕ) where
  pub next_text : (i : ℕ) → up_to f (i + 1) ≡ up_to f i ++ f i
  next_text i = ap (up_to f) (add-one i)

  -- the texts below n are those below i, then text i, then the rest
  split : (i n : ℕ) → i < n → (rest : List ℕ) × (up_to f n ≡ up_to f i ++ f i ++ rest)
  split i zero lt = absurd (omega (arith, lt))
  split i (suc n) lt = elim (cases_lt i n) [
    | inl less ↦
        let before = split i n less in (
          before.0 ++ f n,
          ap (λ (t : List ℕ). t ++ f n) before.1 ∙ append_assoc (up_to f i ++ f i)
              before.0 (f n),
        )
    | inr ge ↦
        let same : n ≡ i = omega (arith, lt, ge) in
        ([], ap (λ k. up_to f k ++ f k) same ∙ sym (append-nil (up_to f i ++ f i)))
  ]

module _ {S : Type 0} (puts : S → List ℕ → S → Type 0) (failed : S → Bool) where
  -- the texts so far went, and the next one failed
  pub part_among : (f : ℕ → List ℕ) (i n : ℕ) {a b c : S} {x y : List ℕ} → i < n
      → Goes puts failed (up_to f i) a b x y
      → WritesPart puts failed (y ++ f i) b c → WritesPart puts failed (x ++ up_to f n) a c
  part_among f i n {a} {c} {x} lt g h =
      let all = split f i n lt in
      subst (λ (t : List ℕ). WritesPart puts failed (x ++ t) a c) (sym all.1)
      (part_longer puts failed (up_to f i ++ f i) all.0 x
      (part_then puts failed (up_to f i) (f i) g h))

  -- the texts so far went, and so did the next one
  pub goes_next : (f : ℕ → List ℕ) (i : ℕ) {a b c : S} {x y z : List ℕ}
      → Goes puts failed (up_to f i) a b x y
      → Goes puts failed (f i) b c y z → Goes puts failed (up_to f (i + 1)) a c x z
  goes_next f i {a} {c} {x} {z} g h =
      subst (λ (t : List ℕ). Goes puts failed t a c x z) (sym (next_text f i))
      (goes_then puts failed (up_to f i) (f i) g h)
