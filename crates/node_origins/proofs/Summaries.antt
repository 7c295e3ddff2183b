-- Two sets of origins together have none, one or several, by cases of what each has.
use Rattle.std.proofs.Common.{◌≡◌, ◌≢◌, ℕ, ◌⊎◌, List, cond, true, false, inl, inr, refl, sym, ◌∙◌}
use Rattle.std.proofs.Common.{ap}
use Rattle.std.proofs.lemmas.Bool.{eqb-false, eqb-true, false≢true}
use Rattle.node_machine.specs.declared.types.Seen.{Seen}
use Rattle.node_machine.specs.Readings.{is_receipt}
use Rattle.node_machine.specs.Origins.{Can, TokenOrigin}
use Rattle.node_origins.specs.declared.origin.EventOrigins.{EventOrigins}
use Rattle.node_origins.specs.declared.origin.EventOrigins.TheVariants as origins
use Rattle.node_origins.specs.declared.origin.StampOrigin.{StampOrigin}
use Rattle.node_origins.specs.declared.origin.StampOrigin.TheVariants as stamp_origin
use Rattle.node_origins.specs.Summary.{either_origins, HasNoOrigin, IsEntry, IsSummary, origin_eq}
use Rattle.node_origins.specs.Summary.{origin_of}

-- ORIGINS

pub origin_once : (a b : StampOrigin) → origin_of a ≡ origin_of b → a ≡ b
origin_once stamp_origin.Home stamp_origin.Home is = refl
origin_once stamp_origin.Home (stamp_origin.Follows k) is = absurd (cc)
origin_once (stamp_origin.Follows j) stamp_origin.Home is = absurd (cc)
origin_once (stamp_origin.Follows j) (stamp_origin.Follows k) is =
    let same : j ≡ k = cc in
    ap stamp_origin.Follows same

pub eq_same : (a b : StampOrigin) → origin_eq a b ≡ true → a ≡ b
eq_same stamp_origin.Home stamp_origin.Home is = refl
eq_same stamp_origin.Home (stamp_origin.Follows k) is = absurd (false≢true is)
eq_same (stamp_origin.Follows j) stamp_origin.Home is = absurd (false≢true is)
eq_same (stamp_origin.Follows j) (stamp_origin.Follows k) is =
    ap stamp_origin.Follows (eqb-true j k is)

pub eq_apart : (a b : StampOrigin) → origin_eq a b ≡ false → a ≢ b
eq_apart stamp_origin.Home stamp_origin.Home is = λ _. false≢true (sym is)
eq_apart stamp_origin.Home (stamp_origin.Follows k) is = λ same. absurd (cc)
eq_apart (stamp_origin.Follows j) stamp_origin.Home is = λ same. absurd (cc)
eq_apart (stamp_origin.Follows j) (stamp_origin.Follows k) is = λ same.
    let equal : j ≡ k = cc in
    eqb-false j k is equal

-- SETS

module _ (P Q : TokenOrigin → Type 0) (to : (h : TokenOrigin) → P h → Q h)
    (from : (h : TokenOrigin) → Q h → P h) where
  -- sets with the same members have the same summary
  pub same_summary : (o : EventOrigins) → IsSummary P o → IsSummary Q o
  same_summary origins.Receive is = absurd is
  same_summary origins.Unknown is = λ h there. is h (from h there)
  same_summary (origins.One a) is = (to (origin_of a) is.0, λ h there. is.1 h (from h there))
  same_summary (origins.Several a b) is =
      (to (origin_of a) is.0, to (origin_of b) is.1, is.2)

module _ (P Q : TokenOrigin → Type 0) where
  abbrev Either : TokenOrigin → Type 0
  Either h = P h ⊎ Q h

  only_second : HasNoOrigin P → (o : EventOrigins) → IsSummary Q o → IsSummary Either o
  only_second none = same_summary Q Either (λ h there. inr there)
      (λ h there. elim there [ inl first ↦ absurd (none h first) | inr second ↦ second ])

  only_first : HasNoOrigin Q → (o : EventOrigins) → IsSummary P o → IsSummary Either o
  only_first none = same_summary P Either (λ h there. inl there)
      (λ h there. elim there [ inl first ↦ first | inr second ↦ absurd (none h second) ])

  both_ones : (a b : StampOrigin) → IsSummary P (origins.One a) → IsSummary Q (origins.One b)
      → IsSummary Either (cond (origin_eq a b) (origins.One b) (origins.Several a b))
  both_ones a b first second =
      elim (origin_eq a b) as (λ t. origin_eq a b ≡ t
      → IsSummary Either (cond t (origins.One b) (origins.Several a b))) [
        | true ↦ λ is. (
          inr second.0,
          λ h there. elim there [
            | inl by ↦ first.1 h by ∙ ap origin_of (eq_same a b is)
            | inr by ↦ second.1 h by
          ],
        )
        | false ↦ λ is. (inl first.0, inr second.0, eq_apart a b is)
      ] refl

  pub either_summary : (x y : EventOrigins) → IsSummary P x → IsSummary Q y
      → IsSummary Either (either_origins x y)
  either_summary origins.Receive y first second = absurd first
  either_summary origins.Unknown y first second = only_second first y second
  either_summary (origins.One a) origins.Receive first second = absurd second
  either_summary (origins.One a) origins.Unknown first second =
      only_first second (origins.One a) first
  either_summary (origins.One a) (origins.One b) first second = both_ones a b first second
  either_summary (origins.One a) (origins.Several b c) first second =
      (inr second.0, inr second.1, second.2)
  either_summary (origins.Several a b) y first second = (inl first.0, inl first.1, first.2)

-- ENTRIES

module _ (es : List Seen) (i : ℕ) (e : Seen) where
  pub entry_summary : is_receipt e ≡ false → (o : EventOrigins) → IsEntry es i e o
      → IsSummary (Can es i) o
  entry_summary stamp origins.Receive is = absurd (false≢true (sym stamp ∙ is))
  entry_summary stamp origins.Unknown is = is.1
  entry_summary stamp (origins.One a) is = is.1
  entry_summary stamp (origins.Several a b) is = is.1

  pub stamp_entry : is_receipt e ≡ false → (o : EventOrigins) → IsSummary (Can es i) o
      → IsEntry es i e o
  stamp_entry stamp origins.Receive is = absurd is
  stamp_entry stamp origins.Unknown is = (stamp, is)
  stamp_entry stamp (origins.One a) is = (stamp, is)
  stamp_entry stamp (origins.Several a b) is = (stamp, is)
