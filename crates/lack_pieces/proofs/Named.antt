-- Two first reasons are of one kind and at one place, where each kind names one other place: so
-- there is one verdict on streams.
use Rattle.std.proofs.Common.{◌≡◌, ℕ, List, Option, Some, None}
use Rattle.std.proofs.Common.{inl, inr, refl, sym, ◌∙◌, ap, subst, arith}
use Rattle.std.proofs.lemmas.Bool.{cases_order}
use Rattle.std.proofs.lemmas.Option.{same_Some}
use Rattle.std.specs.declared.cmp.Ordering.TheVariants.{Less, Equal, Greater}
use Rattle.std.specs.Ordering.{ordering_reverse}
use Rattle.st_core.specs.declared.types.Pid.{Pid}
use Rattle.st_core.specs.declared.types.Event.{Event}
use Rattle.st_core.specs.Pid.{pid_cmp}
use Rattle.st_core.specs.Run.{Stream}
use Rattle.st_core.proofs.ForCallers.{pid_cmp-Equal}
use Rattle.st_pair.specs.Laws.{IsEarlier}
use Rattle.st_pair.specs.Pairing.{stamp_of}
use Rattle.st_pair.specs.Places.{event_at}
use Rattle.st_pair.proofs.ForCallers.{pid_total}
use Rattle.lack_decide.specs.declared.answer.Never.{Never}
use Rattle.lack_decide.specs.declared.answer.Never.TheVariants as never
use Rattle.lack_decide.specs.declared.answer.Answer.{Answer}
use Rattle.lack_decide.specs.declared.answer.Answer.TheVariants as answer
use Rattle.lack_decide.specs.Answers.{reason_rank, IsAgainst, IsAnswer, IsFirstReason, IsLast}
use Rattle.lack_pieces.specs.declared.placed_reason.PlacedReason.{PlacedReason}
use Rattle.lack_pieces.specs.Verdicts.{IsNamed, IsVerdictOn}
use Rattle.lack_pieces.proofs.Walks.{kind_of, IsOfKind}

-- ONE PLACE

one_place : (q p : Pid) (j i : ℕ) → ¬ IsEarlier q j p i → ¬ IsEarlier p i q j → (q ≡ p) × (j ≡ i)
one_place q p j i first second = elim (pid_cmp q p) as (λ o. pid_cmp q p ≡ o → (q ≡ p) × (j ≡ i)) [
  | Less ↦ λ is. absurd (first (inl is))
  | Equal ↦ λ is.
      let same = pid_cmp-Equal q p is in (
        same,
        elim (cases_order j i) [
          | inl one ↦ one
          | inr (inl less) ↦ absurd (first (inr (same, less)))
          | inr (inr less) ↦ absurd (second (inr (sym same, less)))
        ],
      )
  | Greater ↦ λ is. absurd (second (inl (pid_total.antisymm p q ∙ ap ordering_reverse is)))
] refl

one_last : (streams : List Stream) (p : Pid) (i : ℕ) (Is : Event → Type 0) (j k : ℕ)
    → IsLast streams p i Is j → IsLast streams p i Is k → j ≡ k
one_last streams p i Is j k a b = elim (cases_order j k) [
  | inl one ↦ one
  | inr (inl less) ↦ absurd (a.last k b.event less b.before b.at b.is)
  | inr (inr less) ↦ absurd (b.last j a.event less a.before a.at a.is)
]

-- ONE REASON

abbrev placed : Pid → ℕ → Never → Option PlacedReason
placed p i reason = Some (record { pid = p; index = i; never = reason })

module _ (top : ℕ) (streams : List Stream) where
  module _ (p : Pid) (i : ℕ) (e : Event) where
    -- no reason of the kind is against an earlier event
    abbrev IsLeastHere : Never → Type 0
    IsLeastHere a = (other : Never) (q : Pid) (j : ℕ) (f : Event) → event_at streams q j ≡ Some f
        → IsAgainst top streams q j f other → reason_rank a ≡ reason_rank other
        → ¬ IsEarlier q j p i

    -- if two earlier receives have the count of a third, one repeats the other
    not_two : (q r : Pid) (j k : ℕ) → IsLeastHere (never.Repeated q j)
        → IsAgainst top streams p i e (never.Repeated q j)
        → IsAgainst top streams p i e (never.Repeated r k) → ¬ IsEarlier q j r k
    not_two q r j k least a b earlier = least (never.Repeated q j) r k b.2 b.3
        (b.4, earlier, a.2, a.3, a.4, a.5 ∙ sym b.5, a.6 ∙ sym b.6) refl b.1

    one_reason : (a b : Never) → IsLeastHere a → reason_rank a ≡ reason_rank b
        → IsAgainst top streams p i e a → IsAgainst top streams p i e b → a ≡ b
    one_reason never.PrevNotBefore b least rank x y =
        sym (subst (λ (n : ℕ). IsOfKind n b) (sym rank) (kind_of b))
    one_reason (never.NotRising j) b least rank x y =
        let k = subst (λ (n : ℕ). IsOfKind n b) (sym rank) (kind_of b) in
        let z = subst (IsAgainst top streams p i e) k.1 y in
        ap (λ (n : ℕ). never.NotRising n) (one_last streams p i _ j k.0 x.1 z.1) ∙ sym k.1
    one_reason (never.Repeated q j) b least rank x y =
        let k = subst (λ (n : ℕ). IsOfKind n b) (sym rank) (kind_of b) in
        let z = subst (IsAgainst top streams p i e) k.2 y in
        let same = one_place q k.0 j k.1 (not_two q k.0 j k.1 least x z)
        (not_two k.0 q k.1 j least z x) in
        ap (λ (r : Pid). never.Repeated r j) same.0 ∙ ap (λ (n : ℕ). never.Repeated k.0 n) same.1
        ∙ sym k.2
    one_reason (never.Mismatch q j) b least rank x y =
        let k = subst (λ (n : ℕ). IsOfKind n b) (sym rank) (kind_of b) in
        let z = subst (IsAgainst top streams p i e) k.2 y in
        let pid : q ≡ k.0 = x.1 ∙ sym z.1 in
        let found = same_Some (j, x.2) (k.1, z.2) (sym x.3
        ∙ ap (λ (r : Pid). stamp_of streams r e.serial.this) pid ∙ z.3) in
        ap (λ (r : Pid). never.Mismatch r j) pid
        ∙ ap (λ (n : ℕ). never.Mismatch k.0 n) (ap (λ (f : ℕ × Event). f.0) found) ∙ sym k.2
    one_reason (never.Late j) b least rank x y =
        let k = subst (λ (n : ℕ). IsOfKind n b) (sym rank) (kind_of b) in
        let z = subst (IsAgainst top streams p i e) k.1 y in
        ap (λ (n : ℕ). never.Late n) (one_last streams p i _ j k.0 x.1 z.1) ∙ sym k.1
    one_reason never.Unfounded b least rank x y =
        sym (subst (λ (n : ℕ). IsOfKind n b) (sym rank) (kind_of b))
    one_reason never.TooHigh b least rank x y =
        sym (subst (λ (n : ℕ). IsOfKind n b) (sym rank) (kind_of b))

  one_first : (p q : Pid) (i j : ℕ) (a b : Never) → IsFirstReason top streams p i a
      → IsFirstReason top streams q j b → placed p i a ≡ placed q j b
  one_first p q i j a b x y =
      let low = x.first b q j y.event y.at y.holds in
      let high = y.first a p i x.event x.at x.holds in
      let rank : reason_rank a ≡ reason_rank b = omega (arith, low, high) in
      let place = one_place p q i j (y.least a p i x.event x.at x.holds (sym rank))
      (x.least b q j y.event y.at y.holds rank) in
      let there : event_at streams p i ≡ Some y.event =
      subst (λ (r : Pid). event_at streams r i ≡ Some y.event) (sym place.0)
      (subst (λ (n : ℕ). event_at streams q n ≡ Some y.event) (sym place.1) y.at) in
      let event = same_Some y.event x.event (sym there ∙ x.at) in
      let against : IsAgainst top streams p i x.event b =
      subst (λ (f : Event). IsAgainst top streams p i f b) event
      (subst (λ (r : Pid). IsAgainst top streams r i y.event b) (sym place.0)
      (subst (λ (n : ℕ). IsAgainst top streams q n y.event b) (sym place.1) y.holds)) in
      let reason = one_reason p i x.event a b x.least rank x.holds against in
      ap (λ (r : Pid). placed r i a) place.0 ∙ ap (λ (n : ℕ). placed q n a) place.1
      ∙ ap (λ (s : Never). placed q j s) reason

  pub one_verdict : (one other : Option PlacedReason) → IsVerdictOn top streams one
      → IsVerdictOn top streams other → one ≡ other
  one_verdict None None a b = refl
  one_verdict None (Some found) a b =
      absurd (a found.pid found.index b.event found.never b.at b.holds)
  one_verdict (Some found) None a b =
      absurd (b found.pid found.index a.event found.never a.at a.holds)
  one_verdict (Some found) (Some other) a b =
      one_first found.pid other.pid found.index other.index found.never other.never a b

  -- the verdict is what `complete` names
  pub named : (found : Answer) (verdict : Option PlacedReason) → IsAnswer top streams found
      → IsVerdictOn top streams verdict → IsNamed found verdict
  named (answer.Whole completed) None is on = refl
  named (answer.Whole completed) (Some found) is on =
      absurd (is.unopposed found.never found.pid found.index on.event on.at on.holds)
  named (answer.Never p i reason) None is on =
      absurd (on p i is.holds.event reason is.holds.at is.holds.holds)
  named (answer.Never p i reason) (Some found) is on =
      one_first found.pid p found.index i found.never reason on is.holds
