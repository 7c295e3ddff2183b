-- A table with one serial more has it beside those that it had.
use Rattle.std.proofs.Common.{◌≡◌, ℕ, ◌⊎◌, ◌==◌, cond, nat_eq, Bool, true, false, List, ◌∷◌, Option}
use Rattle.std.proofs.Common.{Some, IsSome, inl, inr, refl, sym, ◌∙◌, ap, subst}
use Rattle.std.specs.HashMap.{get}
use Rattle.std.specs.HashSet.{contains}
use Rattle.std.proofs.lemmas.Bool.{and_parts, eq-eqb, eqb-true}
use Rattle.std.proofs.lemmas.Option.{same_Some}
use Rattle.st_core.specs.declared.types.Serial.{Serial}
use Rattle.st_core.proofs.ForCallers.{both_true}
use Rattle.node_machine.specs.Premises.{IsAmong}
use Rattle.node_given.specs.declared.tokens.Tokens.{Tokens}
use Rattle.node_given.specs.Tables.{AreTokens, same_pair}

same_self : (x : Serial) → same_pair (x.prev, x.this) (x.prev, x.this) ≡ true
same_self x = both_true (x.prev == x.prev) (x.this == x.this) (eq-eqb x.prev x.prev refl)
    (eq-eqb x.this x.this refl)

pair_same : (a b : ℕ) (x : Serial) → same_pair (a, b) (x.prev, x.this) ≡ true
    → (let y : Serial = record { prev = a; this = b } in y ≡ x)
pair_same a b x is =
    let parts = and_parts (a == x.prev) (b == x.this) is in
    let prevs = eqb-true a x.prev parts.0 in
    let counts = eqb-true b x.this parts.1 in
    λ i. record { prev = prevs i; this = counts i }

either : (b : Bool) {c : Bool} → c ≡ true → cond b true c ≡ true
either true is = refl
either false is = is

split : (b c : Bool) → cond b true c ≡ true → {A B : Type 0} → (b ≡ true → A) → (c ≡ true → B)
    → A ⊎ B
split true c is one two = inl (one refl)
split false c is one two = inr (two is)

some_either : (b : Bool) (v : ℕ) (o : Option ℕ) → IsSome o → IsSome (cond b (Some v) o)
some_either true v o is = refl
some_either false v o is = is

found : (xs : List Serial) (prev this : ℕ) (b : Bool) (count before : ℕ) (o : Option ℕ)
    → (b ≡ true → this ≡ count) → cond b (Some prev) o ≡ Some before
    → (o ≡ Some before → IsAmong xs (record { prev = before; this = count }))
    → IsAmong (record { prev = prev; this = this } ∷ xs) (record { prev = before; this = count })
found xs prev this true count before o same is old =
    let prevs = same_Some prev before is in
    let counts = same refl in
    inl (λ i. record { prev = prevs i; this = counts i })
found xs prev this false count before o same is old = inr (old is)

pub noted : (xs : List Serial) (prev this : ℕ) (t u : Tokens) → AreTokens xs t
    → ((q : ℕ × ℕ) → contains same_pair u.serials q
    ≡ cond (same_pair (prev, this) q) true (contains same_pair t.serials q))
    → ((q : ℕ) → get nat_eq u.prevs q ≡ cond (this == q) (Some prev) (get nat_eq t.prevs q))
    → AreTokens (record { prev = prev; this = this } ∷ xs) u
noted xs prev this t u are set map = record {
  known = λ x is. set (x.prev, x.this) ∙ (elim is as (λ _.
      cond (same_pair (prev, this) (x.prev, x.this)) true
      (contains same_pair t.serials (x.prev, x.this)) ≡ true) [
        | inl same ↦ ap (λ b. cond b true (contains same_pair t.serials (x.prev, x.this)))
            (subst (λ (y : Serial). same_pair (prev, this) (y.prev, y.this) ≡ true) same
            (same_self (record { prev = prev; this = this })))
        | inr old ↦ either (same_pair (prev, this) (x.prev, x.this)) (are.known x old)
      ]);
  sound = λ x is. split (same_pair (prev, this) (x.prev, x.this))
      (contains same_pair t.serials (x.prev, x.this)) (sym (set (x.prev, x.this)) ∙ is)
      (λ h. pair_same prev this x h) (are.sound x);
  counted = λ x is. subst IsSome (sym (map x.this)) (elim is as (λ _.
      IsSome (cond (this == x.this) (Some prev) (get nat_eq t.prevs x.this))) [
        | inl same ↦ subst (λ b. IsSome (cond b (Some prev) (get nat_eq t.prevs x.this)))
            (sym (eq-eqb this x.this (ap (λ (y : Serial). y.this) same))) refl
        | inr old ↦ some_either (this == x.this) prev (get nat_eq t.prevs x.this)
            (are.counted x old)
      ]);
  had = λ count before is. found xs prev this (this == count) count before
      (get nat_eq t.prevs count)
      (λ h. eqb-true this count h) (sym (map count) ∙ is) (are.had count before);
}
