-- Pairs are ordered by key and then slot. So the first pair from (key, start) on has the key's
-- least slot, or another key if the key has no slot there.
use Rattle.std.proofs.Common.{◌≡◌, ℕ, ◌≤◌, Bool, true, false, cond, not, ◌==◌, ◌&&◌, ◌||◌}
use Rattle.std.proofs.Common.{List, [], ◌∷◌, Option, Some, None, refl, sym, ap, subst, ◌∙◌, arith}
use Rattle.std.specs.declared.cmp.Ordering.{Ordering}
use Rattle.std.specs.declared.cmp.Ordering.TheVariants.{Less, Equal, Greater}
use Rattle.std.specs.declared.ops.Bound.TheVariants.{Included, Unbounded}
use Rattle.std.specs.Ordering.{nat_cmp, ordering_then, ordering_reverse, is_eq, is_gt}
use Rattle.std.specs.Cmp.{IsTotalOrder}
use Rattle.std.specs.BTreeSet.{BTreeSet, contains, contains_by, IsKeyRangeOf}
use Rattle.std.proofs.lemmas.Bool.Decides.{nat_tests}
use Rattle.std.proofs.lemmas.Cmp.{then_total, on_total, nat_cmp_total, tied_itself, tied_back}
use Rattle.std.proofs.lemmas.Map.Keys.{le_from_not_gt}
use Rattle.std.specs.Option.{option_map_or}
use Rattle.st_core.proofs.ForCallers.{is_eq-Equal}
use Rattle.st_mail.specs.declared.keyed_slots.KeyedSlots.{KeyedSlots}
use Rattle.st_mail.specs.KeyedSlots.{pair_cmp, has_key, IsFirst}

-- PAIRS

pub nat_cmp-is_eq : (a b : ℕ) → is_eq (nat_cmp a b) ≡ (a == b)
nat_cmp-is_eq a b = grind (arith, nat_tests)

-- two pairs are equal if both parts are
pub both_equal : (o : Ordering) (a b : ℕ)
    → is_eq (ordering_then o (nat_cmp a b)) ≡ (is_eq o && a == b)
both_equal Less a b = refl
both_equal Equal a b = nat_cmp-is_eq a b
both_equal Greater a b = refl

pub cond_or : (b c d : Bool) → b ≡ d → cond b true c ≡ (d || c)
cond_or true c d e = rw (← e) refl
cond_or false c d e = rw (← e) refl

pub cond_and : (b c d : Bool) → b ≡ d → cond b false c ≡ (not d && c)
cond_and true c d e = rw (← e) refl
cond_and false c d e = rw (← e) refl

-- if the keys differ and a pair isn't greater, its key is less
less_else : (o p : Ordering) → is_eq o ≡ false → is_gt (ordering_then o p) ≡ false → o ≡ Less
less_else Less p e h = refl
less_else Equal p e h = absurd (cc)
less_else Greater p e h = absurd (cc)

not_gt : (a b : ℕ) → a ≤ b → is_gt (nat_cmp a b) ≡ false
not_gt a b h = grind (arith, nat_tests)

-- KEYS THAT ARE KEPT

module _ {K : Type 0} (cmp : K → K → Ordering) (keyed : KeyedSlots K) (set : BTreeSet (K × ℕ))
    (is : keyed.pairs ≡ Some set)
  where
    -- if keys are kept, a slot has the keys that the set says
    pub kept_keys : (k : K) (s : ℕ) → has_key cmp keyed k s ≡ contains (pair_cmp cmp) set (k, s)
    kept_keys k s =
        ap (λ (o : Option (BTreeSet (K × ℕ))).
        option_map_or (λ pairs. contains (pair_cmp cmp) pairs (k, s)) o false) is

    pub kept_first : (key : K) (start : ℕ) (found : Option ℕ)
        → IsFirst (λ s. contains (pair_cmp cmp) set (key, s)) start found
        → IsFirst (has_key cmp keyed key) start found
    kept_first key start found first =
        subst (λ (test : ℕ → Bool). IsFirst test start found) (λ i s. sym (kept_keys key s) i) first

-- THE PAIRS OF A KEY

module _ {K : Type 0} (cmp : K → K → Ordering) (total : IsTotalOrder cmp) where
  pub pair_total : IsTotalOrder (pair_cmp cmp)
  pair_total = then_total (on_total (λ (p : K × ℕ). p.0) total)
      (on_total (λ (p : K × ℕ). p.1) nat_cmp_total)

  module _ (set : BTreeSet (K × ℕ)) (key : K) (start : ℕ) where
    abbrev in_set : ℕ → Bool
    in_set k = contains (pair_cmp cmp) set (key, k)

    -- `pairs` are the pairs of the set from (key, start) on
    abbrev pub AreFrom : List (K × ℕ) → Type 0
    AreFrom pairs = IsKeyRangeOf (pair_cmp cmp) (Included (key, start)) Unbounded set pairs

    -- each slot of the key from `start` on comes at or after (key, start)
    in_from : (k : ℕ) → start ≤ k → is_gt (pair_cmp cmp (key, start) (key, k)) ≡ false
    in_from k after = rw (tied_itself total key) (not_gt start k after)

    -- if there are no such pairs, the key has no slot from `start` on
    pub none_from : (pairs : List (K × ℕ)) → pairs ≡ [] → AreFrom pairs → IsFirst in_set start None
    none_from pairs none from = (tt, λ k after. from.5 none (key, k) (in_from k after, tt))

    -- the first such pair comes at or before that of each slot of the key
    up_to : (x : K × ℕ) (rest : List (K × ℕ)) → AreFrom (x ∷ rest) → (k : ℕ) → start ≤ k
        → in_set k ≡ true
        → is_gt (pair_cmp cmp x (key, k)) ≡ false
    up_to x rest from k after there = from.2 (key, k) (in_from k after, tt) there

    -- if the first pair has the key, its slot is the key's first
    pub first_from : (pairs : List (K × ℕ)) (x : K × ℕ) (rest : List (K × ℕ)) → pairs ≡ x ∷ rest
        → AreFrom pairs
        → is_eq (cmp x.0 key) ≡ true → IsFirst in_set start (Some x.1)
    first_from pairs x rest is all same =
        let from : AreFrom (x ∷ rest) = subst AreFrom is all in
        let eq : cmp x.0 key ≡ Equal = is_eq-Equal _ same in
        let back : cmp key x.0 ≡ Equal = tied_back total x.0 key eq in
        let le : start ≤ x.1 = le_from_not_gt start x.1 (rw back at from.1.0.0) in
        let alike : pair_cmp cmp x (key, x.1) ≡ Equal = rw eq
        (is_eq-Equal _ (nat_cmp-is_eq x.1 x.1 ∙ grind (arith, nat_tests))) in
        let there : in_set x.1 ≡ true =
        sym (ap (λ (f : K × ℕ → Ordering). contains_by f set)
        (λ i z. pair_total.congr x (key, x.1) z alike i))
        ∙ from.1.1 in (
          (
            le,
            there,
            λ k after before.
                elim (in_set k) as (λ b. in_set k ≡ b → b ≡ false) [
                  | true ↦ λ is.
                      let at : x.1 ≤ k = le_from_not_gt x.1 k
                      (rw eq at (up_to x rest from k after is)) in
                      absurd (omega arith)
                  | false ↦ λ is. refl
                ] refl,
          ),
          tt,
        )

    -- if the first pair has another key, the key has no slot from `start` on
    pub none_first : (pairs : List (K × ℕ)) (x : K × ℕ) (rest : List (K × ℕ)) → pairs ≡ x ∷ rest
        → AreFrom pairs
        → is_eq (cmp x.0 key) ≡ false → IsFirst in_set start None
    none_first pairs x rest is all other =
        let from : AreFrom (x ∷ rest) = subst AreFrom is all in (
          tt,
          λ k after.
              elim (in_set k) as (λ b. in_set k ≡ b → b ≡ false) [
                | true ↦ λ is.
                    let less : cmp x.0 key ≡ Less = less_else (cmp x.0 key) (nat_cmp x.1 k) other
                    (up_to x rest from k after is) in
                    let greater : cmp key x.0 ≡ Greater =
                    total.antisymm key x.0 ∙ ap ordering_reverse less in
                    absurd (cc (rw greater at from.1.0.0))
                | false ↦ λ is. refl
              ] refl,
        )
