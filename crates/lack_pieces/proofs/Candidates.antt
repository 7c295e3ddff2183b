-- The first of the candidates is the first of all reasons, since each reason has a candidate at
-- its place.
use Rattle.std.proofs.Common.{◌≡◌, ◌⊎◌, ℕ, ◌+◌, ◌<◌, ◌≤◌, zero, suc, List, [], ◌∷◌, ◌++◌, Option}
use Rattle.std.proofs.Common.{Some, None, inl, inr, length, slice_get, sym, ◌∙◌, subst, arith}
use Rattle.std.proofs.lemmas.Bool.{cases_lt}
use Rattle.std.proofs.lemmas.Option.{same_Some}
use Rattle.st_core.specs.declared.types.Pid.{Pid}
use Rattle.st_pair.specs.Laws.{IsEarlier}
use Rattle.lack_decide.specs.Answers.{reason_rank}
use Rattle.lack_pieces.specs.declared.placed_reason.PlacedReason.{PlacedReason}
use Rattle.lack_pieces.specs.Firsts.{IsEarliest, IsFirstWith}
use Rattle.lack_pieces.specs.Verdicts.{ComesBefore, IsVerdictAmong, IsFirstAmong}
use Rattle.lack_pieces.proofs.Order.{not_before, not_both, not_earlier, not_earlier_back}
use Rattle.lack_laws.proofs.ForCallers.{at_front, at_seam}

pub record IsBeside (a b : PlacedReason) : Type 0 where
  pub pid : a.pid ≡ b.pid
  pub index : a.index ≡ b.index

beside_not_earlier : (a b c : PlacedReason) → IsBeside a b → ¬ IsEarlier b.pid b.index c.pid c.index
    → ¬ IsEarlier a.pid a.index c.pid c.index
beside_not_earlier a b c beside none earlier = none
    (subst (λ (q : Pid). IsEarlier q b.index c.pid c.index) beside.pid
    (subst (λ (n : ℕ). IsEarlier a.pid n c.pid c.index) beside.index earlier))

pub not_before_itself : (a : PlacedReason) → ¬ IsEarlier a.pid a.index a.pid a.index
not_before_itself a earlier = not_earlier_back a a earlier earlier

module _ (Is More : PlacedReason → Type 0) where
  pub first_still : (least : Option PlacedReason) → ((r : PlacedReason) → Is r → More r)
      → ((r : PlacedReason) → More r → Is r) → IsEarliest Is least → IsEarliest More least
  first_still None more less none = λ other is. none other (less other is)
  first_still (Some found) more less first =
      (more found first.0, λ other is. first.1 other (less other is))

  -- if each reason has a candidate at its place, the first candidate is the first reason
  pub first_of_all : (least : Option PlacedReason) → ((r : PlacedReason) → Is r → More r)
      → ((r : PlacedReason) → More r → (c : PlacedReason) × Is c × IsBeside r c)
      → IsEarliest Is least → IsEarliest More least
  first_of_all None more has none = λ other is. let c = has other is in none c.0 c.1
  first_of_all (Some found) more has first = (
    more found first.0,
    λ other is. let c = has other is in
        beside_not_earlier other c.0 found c.2 (first.1 c.0 c.1),
  )

  -- if one candidate comes, the first one is the earlier of it and the first so far
  module _ (rank : ℕ) (next : PlacedReason)
      (ranked : (r : PlacedReason) → Is r → reason_rank r.never ≡ rank)
      (same : reason_rank next.never ≡ rank) (here : More next)
      (more : (r : PlacedReason) → Is r → More r)
      (less : (r : PlacedReason) → More r → Is r ⊎ IsBeside r next) where
    earlier_if : (found : PlacedReason) → Is found → ComesBefore next found
        → IsEarlier next.pid next.index found.pid found.index
    earlier_if found is before = elim before [
      | inl lower ↦ let a = ranked found is in absurd (omega (arith, lower, a, same))
      | inr both ↦ both.1
    ]

    pub first_with : (least : Option PlacedReason) (result : PlacedReason)
        → IsFirstWith least next result → IsEarliest Is least → IsEarliest More (Some result)
    first_with None result with none = (
      subst More (sym with) here,
      λ other is. elim (less other is) [
        | inl old ↦ absurd (none other old)
        | inr beside ↦ subst (λ (r : PlacedReason). ¬ IsEarlier other.pid other.index r.pid r.index)
            (sym with) (beside_not_earlier other next next beside (not_before_itself next))
      ],
    )
    first_with (Some found) result with first = elim with [
      | inl kept ↦ subst (λ (r : PlacedReason). IsEarliest More (Some r)) (sym kept.0) (
        more found first.0,
        λ other is. elim (less other is) [
          | inl old ↦ first.1 other old
          | inr beside ↦ beside_not_earlier other next found beside
              (λ earlier. kept.1 (inr (same ∙ sym (ranked found first.0), earlier)))
        ],
      )
      | inr new ↦ subst (λ (r : PlacedReason). IsEarliest More (Some r)) (sym new.0) (
        here,
        λ other is. elim (less other is) [
          | inl old ↦ not_earlier other found next (first.1 other old)
              (not_earlier_back next found (earlier_if found first.0 new.1))
          | inr beside ↦ beside_not_earlier other next next beside (not_before_itself next)
        ],
      )
    ]

-- ONE PLACE MORE

-- the candidate holds by an item at a place before n
pub record IsFoundBelow (Is : PlacedReason → Type 0) (place : (r : PlacedReason) → Is r → ℕ)
    (n : ℕ) (r : PlacedReason) : Type 0 where
  pub is : Is r
  pub within : place r is < n

module _ (Is : PlacedReason → Type 0) (place : (r : PlacedReason) → Is r → ℕ) where
  abbrev Below : ℕ → PlacedReason → Type 0
  Below n r = IsFoundBelow Is place n r

  pub found_wider : (m n : ℕ) (r : PlacedReason) → m ≤ n → Below m r → Below n r
  found_wider m n r wide c =
      record { is = c.is; within = let less = c.within in omega (arith, less, wide) }

  below_or : (n : ℕ) (r : PlacedReason) (c : Below (n + 1) r) → Below n r ⊎ (place r c.is ≡ n)
  below_or n r c = elim (cases_lt (place r c.is) n) [
    | inl less ↦ inl (record { is = c.is; within = less })
    | inr high ↦ let within = c.within in inr (omega (arith, within, high))
  ]

  module _ (n : ℕ) (least : Option PlacedReason) (first : IsEarliest (Below n) least) where
    older : (r : PlacedReason) → Below n r → Below (n + 1) r
    older r = found_wider n (n + 1) r (omega arith)

    pub found_still : ((r : PlacedReason) (c : Is r) → place r c ≡ n → ⊥)
        → IsEarliest (Below (n + 1)) least
    found_still none = first_still (Below n) (Below (n + 1)) least older
        (λ r c. elim (below_or n r c) [
          | inl old ↦ old
          | inr new ↦ absurd (none r c.is new)
        ]) first

    pub found_more : (rank : ℕ) → ((r : PlacedReason) → Is r → reason_rank r.never ≡ rank)
        → (next result : PlacedReason) (here : Is next) → place next here ≡ n
        → ((r : PlacedReason) (c : Is r) → place r c ≡ n → IsBeside r next)
        → IsFirstWith least next result → IsEarliest (Below (n + 1)) (Some result)
    found_more rank ranked next result here at beside with =
        first_with (Below n) (Below (n + 1)) rank next (λ r c. ranked r c.is) (ranked next here)
        (record { is = here; within = omega (arith, at) }) older
        (λ r c. elim (below_or n r c) [
          | inl old ↦ inl old
          | inr new ↦ inr (beside r c.is new)
        ]) least result with first

-- THE FIRST OF VERDICTS

get_either : {A : Type 0} (xs : List A) (y : A) (k : ℕ) (x : A)
    → slice_get (xs ++ y ∷ []) k ≡ Some x → (slice_get xs k ≡ Some x) ⊎ (y ≡ x)
get_either [] y zero x at = inr (same_Some y x at)
get_either [] y (suc k) x at = absurd (cc)
get_either (z ∷ xs) y zero x at = inl at
get_either (z ∷ xs) y (suc k) x at = get_either xs y k x at

module _ (verdicts : List (Option PlacedReason)) where
  among_more : (next : Option PlacedReason) (r : PlacedReason) → IsVerdictAmong verdicts r
      → IsVerdictAmong (verdicts ++ next ∷ []) r
  among_more next r a = record {
    place = a.place;
    at = at_front verdicts (next ∷ []) a.place (Some r) a.at;
  }

  among_last : (r : PlacedReason) → IsVerdictAmong (verdicts ++ Some r ∷ []) r
  among_last r = record { place = length verdicts; at = at_seam verdicts [] (Some r) }

  among_either : (next : Option PlacedReason) (r : PlacedReason)
      → IsVerdictAmong (verdicts ++ next ∷ []) r → IsVerdictAmong verdicts r ⊎ (next ≡ Some r)
  among_either next r a = elim (get_either verdicts next a.place (Some r) a.at) [
    | inl old ↦ inl (record { place = a.place; at = old })
    | inr new ↦ inr new
  ]

  pub first_from_none : (next : Option PlacedReason) → IsFirstAmong verdicts None
      → IsFirstAmong (verdicts ++ next ∷ []) next
  first_from_none None none = λ other a. elim (among_either None other a) [
    | inl old ↦ none other old
    | inr new ↦ cc
  ]
  first_from_none (Some r) none = (
    among_last r,
    λ other a before. elim (among_either (Some r) other a) [
      | inl old ↦ none other old
      | inr new ↦ not_both other r before
          (subst (λ (x : PlacedReason). ComesBefore x other) (sym (same_Some r other new))
          (subst (λ (x : PlacedReason). ComesBefore other x) (same_Some r other new) before))
    ],
  )

  pub first_and_none : (found : PlacedReason) → IsFirstAmong verdicts (Some found)
      → IsFirstAmong (verdicts ++ None ∷ []) (Some found)
  first_and_none found first = (
    among_more None found first.0,
    λ other a. elim (among_either None other a) [
      | inl old ↦ first.1 other old
      | inr new ↦ absurd (cc)
    ],
  )

  pub first_and_next : (found next result : PlacedReason) → IsFirstAmong verdicts (Some found)
      → ((result ≡ found) × ¬ ComesBefore next found)
      ⊎ ((result ≡ next) × ComesBefore next found)
      → IsFirstAmong (verdicts ++ Some next ∷ []) (Some result)
  first_and_next found next result first (inl kept) =
      subst (λ r. IsFirstAmong (verdicts ++ Some next ∷ []) (Some r)) (sym kept.0) (
        among_more (Some next) found first.0,
        λ other a. elim (among_either (Some next) other a) [
          | inl old ↦ first.1 other old
          | inr new ↦ subst (λ (r : PlacedReason). ¬ ComesBefore r found) (same_Some next other new)
              kept.1
        ],
      )
  first_and_next found next result first (inr new) =
      subst (λ r. IsFirstAmong (verdicts ++ Some next ∷ []) (Some r)) (sym new.0) (
        among_last next,
        λ other a. elim (among_either (Some next) other a) [
          | inl old ↦ not_before other found next (first.1 other old) (not_both next found new.1)
          | inr same ↦ subst (λ (r : PlacedReason). ¬ ComesBefore r next)
              (same_Some next other same)
              (λ before. not_both next next before before)
        ],
      )
