-- Reasons are ordered by four numbers, one after the other: so if a doesn't come before b, nor b
-- before c, a doesn't come before c.
use Rattle.std.specs.Cmp.{IsTotalOrder}
use Rattle.std.specs.declared.cmp.Ordering.{Ordering}
use Rattle.std.specs.declared.cmp.Ordering.TheVariants.{Less, Equal, Greater}
use Rattle.std.specs.Ordering.{nat_cmp, ordering_reverse, ordering_then}
use Rattle.std.proofs.Common.{◌≡◌, ◌⊎◌, ℕ, ◌<◌, inl, inr, refl, sym, ◌∙◌, ap, subst, arith}
use Rattle.std.proofs.lemmas.Bool.Decides.{nat_tests}
use Rattle.std.proofs.lemmas.Cmp.{nat_cmp_total, on_total, then_total}
use Rattle.st_core.specs.declared.types.Pid.{Pid}
use Rattle.st_core.specs.Pid.{pid_cmp}
use Rattle.st_core.proofs.ForCallers.{nat_cmp-below, nat_cmp-Equal, nat_cmp-same, pid_cmp-Equal}
use Rattle.st_core.proofs.ForCallers.{pid_cmp-same}
use Rattle.st_pair.specs.Laws.{IsEarlier}
use Rattle.st_pair.proofs.ForCallers.{pid_total}
use Rattle.lack_decide.specs.Answers.{reason_rank}
use Rattle.lack_pieces.specs.declared.placed_reason.PlacedReason.{PlacedReason}
use Rattle.lack_pieces.specs.Verdicts.{ComesBefore}

then_less : (a b : Ordering) → ordering_then a b ≡ Less → (a ≡ Less) ⊎ ((a ≡ Equal) × (b ≡ Less))
then_less Less b h = inl refl
then_less Equal b h = inr (refl, h)
then_less Greater b h = absurd (cc)

nat_less : (m n : ℕ) → nat_cmp m n ≡ Less → m < n
nat_less m n h = grind (arith, nat_tests)

-- BY ONE COMPARISON

abbrev place_cmp : PlacedReason → PlacedReason → Ordering
place_cmp a b = ordering_then (pid_cmp a.pid b.pid) (nat_cmp a.index b.index)

abbrev reason_cmp : PlacedReason → PlacedReason → Ordering
reason_cmp a b =
    ordering_then (nat_cmp (reason_rank a.never) (reason_rank b.never)) (place_cmp a b)

place_total : IsTotalOrder place_cmp
place_total = then_total (on_total (λ (a : PlacedReason). a.pid) pid_total)
    (on_total (λ (a : PlacedReason). a.index) nat_cmp_total)

reason_total : IsTotalOrder reason_cmp
reason_total = then_total (on_total (λ (a : PlacedReason). reason_rank a.never) nat_cmp_total)
    place_total

module _ (a b : PlacedReason) where
  earlier_if : place_cmp a b ≡ Less → IsEarlier a.pid a.index b.pid b.index
  earlier_if h = elim (then_less _ _ h) [
    | inl below ↦ inl below
    | inr both ↦ inr (pid_cmp-Equal a.pid b.pid both.0, nat_less a.index b.index both.1)
  ]

  same_pid : a.pid ≡ b.pid → pid_cmp a.pid b.pid ≡ Equal
  same_pid same = subst (λ (q : Pid). pid_cmp a.pid q ≡ Equal) same (pid_cmp-same a.pid)

  if_earlier : IsEarlier a.pid a.index b.pid b.index → place_cmp a b ≡ Less
  if_earlier h = elim h [
    | inl below ↦ ap (λ o. ordering_then o (nat_cmp a.index b.index)) below
    | inr both ↦
        ap (λ o. ordering_then o (nat_cmp a.index b.index)) (same_pid both.0)
        ∙ nat_cmp-below a.index b.index both.1
  ]

  before_if : reason_cmp a b ≡ Less → ComesBefore a b
  before_if h = elim (then_less _ _ h) [
    | inl below ↦ inl (nat_less (reason_rank a.never) (reason_rank b.never) below)
    | inr both ↦ inr (
      nat_cmp-Equal (reason_rank a.never) (reason_rank b.never) both.0,
      earlier_if both.1,
    )
  ]

  if_before : ComesBefore a b → reason_cmp a b ≡ Less
  if_before h = elim h [
    | inl below ↦ ap (λ o. ordering_then o (place_cmp a b))
        (nat_cmp-below (reason_rank a.never) (reason_rank b.never) below)
    | inr both ↦ ap (λ o. ordering_then o (place_cmp a b))
        (nat_cmp-same (reason_rank a.never) (reason_rank b.never) both.0)
        ∙ if_earlier both.1
  ]

-- WHAT DOESN'T COME BEFORE

not_less : {K : Type 0} (R : K → K → Ordering) → IsTotalOrder R → (x y z : K)
    → ¬ (R x y ≡ Less) → ¬ (R y z ≡ Less) → ¬ (R x z ≡ Less)
not_less {K} R total x y z first second less = elim (R x y) as (λ o. R x y ≡ o → ⊥) [
  | Less ↦ λ is. first is
  | Equal ↦ λ is. second (sym (total.congr x y z is) ∙ less)
  | Greater ↦ λ is.
      let back : R y x ≡ Less = total.antisymm y x ∙ ap ordering_reverse is in
      second (total.trans y x z back less)
] refl

pub not_before : (a b c : PlacedReason) → ¬ ComesBefore a b → ¬ ComesBefore b c → ¬ ComesBefore a c
not_before a b c first second before = not_less reason_cmp reason_total a b c
    (λ less. first (before_if a b less)) (λ less. second (before_if b c less))
    (if_before a c before)

pub not_earlier : (a b c : PlacedReason) → ¬ IsEarlier a.pid a.index b.pid b.index
    → ¬ IsEarlier b.pid b.index c.pid c.index → ¬ IsEarlier a.pid a.index c.pid c.index
not_earlier a b c first second earlier = not_less place_cmp place_total a b c
    (λ less. first (earlier_if a b less)) (λ less. second (earlier_if b c less))
    (if_earlier a c earlier)

pub not_both : (a b : PlacedReason) → ComesBefore a b → ¬ ComesBefore b a
not_both a b before after =
    let back : reason_cmp a b ≡ Greater =
    reason_total.antisymm a b ∙ ap ordering_reverse (if_before b a after) in
    absurd (let clash : Less ≡ Greater = sym (if_before a b before) ∙ back in cc)

pub not_earlier_back : (a b : PlacedReason) → IsEarlier a.pid a.index b.pid b.index
    → ¬ IsEarlier b.pid b.index a.pid a.index
not_earlier_back a b before after =
    let back : place_cmp a b ≡ Greater =
    place_total.antisymm a b ∙ ap ordering_reverse (if_earlier b a after) in
    absurd (let clash : Less ≡ Greater = sym (if_earlier a b before) ∙ back in cc)
