-- An event's entry stands for the origins that are allowed, by cases of the entry.
use Rattle.std.proofs.Common.{◌≡◌, ◌↔◌, ℕ, true, false, List, refl, sym, ◌∙◌, ap, subst}
use Rattle.std.proofs.lemmas.Bool.{false≢true}
use Rattle.node_machine.specs.declared.types.Seen.{Seen}
use Rattle.node_machine.specs.Readings.{is_receipt}
use Rattle.node_machine.specs.Origins.{Can}
use Rattle.node_origins.specs.declared.origin.EventOrigins.{EventOrigins}
use Rattle.node_origins.specs.declared.origin.EventOrigins.TheVariants as origins
use Rattle.node_origins.specs.declared.origin.StampOrigin.{StampOrigin}
use Rattle.node_origins.specs.Summary.{HasBothOrigins, HasNoOrigin, HasOneOrigin, IsEntry}
use Rattle.node_origins.specs.Summary.{origin_of}
use Rattle.node_origins.proofs.Summaries.{origin_once}

module _ (es : List Seen) (i : ℕ) (e : Seen) where
  pub entry_receive : (o : EventOrigins) → IsEntry es i e o
      → (o ≡ origins.Receive) ↔ (is_receipt e ≡ true)
  entry_receive origins.Receive is = (λ _. is, λ _. refl)
  entry_receive origins.Unknown is =
      (λ same. absurd (cc), λ receive. absurd (false≢true (sym is.0 ∙ receive)))
  entry_receive (origins.One a) is =
      (λ same. absurd (cc), λ receive. absurd (false≢true (sym is.0 ∙ receive)))
  entry_receive (origins.Several a b) is =
      (λ same. absurd (cc), λ receive. absurd (false≢true (sym is.0 ∙ receive)))

  module _ (stamp : is_receipt e ≡ false) where
    pub entry_unknown : (o : EventOrigins) → IsEntry es i e o
        → (o ≡ origins.Unknown) ↔ HasNoOrigin (Can es i)
    entry_unknown origins.Receive is = absurd (false≢true (sym stamp ∙ is))
    entry_unknown origins.Unknown is = (λ _. is.1, λ _. refl)
    entry_unknown (origins.One a) is =
        (λ same. absurd (cc), λ none. absurd (none (origin_of a) is.1.0))
    entry_unknown (origins.Several a b) is =
        (λ same. absurd (cc), λ none. absurd (none (origin_of a) is.1.0))

    pub entry_one : (o : EventOrigins) → IsEntry es i e o → (h : StampOrigin)
        → (o ≡ origins.One h) ↔ HasOneOrigin (Can es i) h
    entry_one origins.Receive is h = absurd (false≢true (sym stamp ∙ is))
    entry_one origins.Unknown is h =
        (λ same. absurd (cc), λ one. absurd (is.1 (origin_of h) one.0))
    entry_one (origins.One a) is h = (
      λ same. let origin : a ≡ h = cc in subst (HasOneOrigin (Can es i)) origin is.1,
      λ one. ap origins.One (origin_once a h (one.1 (origin_of a) is.1.0)),
    )
    entry_one (origins.Several a b) is h = (
      λ same. absurd (cc),
      λ one. absurd (is.1.2 (origin_once a b
          (one.1 (origin_of a) is.1.0 ∙ sym (one.1 (origin_of b) is.1.1)))),
    )

  pub entry_several : (o : EventOrigins) → IsEntry es i e o → (a b : StampOrigin)
      → o ≡ origins.Several a b
      → HasBothOrigins (Can es i) a b
  entry_several origins.Receive is a b same = absurd (cc)
  entry_several origins.Unknown is a b same = absurd (cc)
  entry_several (origins.One c) is a b same = absurd (cc)
  entry_several (origins.Several c d) is a b same =
      let first : c ≡ a = cc in
      let second : d ≡ b = cc in
      subst (λ x. HasBothOrigins (Can es i) x b) first
      (subst (λ x. HasBothOrigins (Can es i) c x) second is.1)

  pub one_parts : (h : StampOrigin) → IsEntry es i e (origins.One h)
      → (is_receipt e ≡ false) × HasOneOrigin (Can es i) h
  one_parts h is = is

  pub unknown_parts : IsEntry es i e origins.Unknown
      → (is_receipt e ≡ false) × HasNoOrigin (Can es i)
  unknown_parts is = is
