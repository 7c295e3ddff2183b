-- The table keeps the first bearer of each label, since a later event doesn't come before it.
use Rattle.std.proofs.Common.{◌≡◌, ℕ, ◌==◌, zero, suc, cond, Bool, true, false, List, [], ◌∷◌, ◌++◌}
use Rattle.std.proofs.Common.{length, take, Option, Some, None, refl, arith, sym, ◌∙◌, ap, subst}
use Rattle.std.specs.List.{slice_get}
use Rattle.std.proofs.lemmas.Bool.{eq-eqb, eqb-true, false≢true}
use Rattle.std.proofs.lemmas.List.{take-append-le}
use Rattle.std.proofs.lemmas.Option.{none-some, slice_get_within as at_below}
use Rattle.std.proofs.Math.Seq.{take-append_seam}
use Rattle.st_core.specs.declared.types.Label.{Label}
use Rattle.node_machine.specs.declared.types.Seen.{Seen}
use Rattle.node_machine.specs.Readings.{is_receipt}
use Rattle.node_machine.specs.Origins.{Bears}
use Rattle.node_machine.proofs.ForCallers.{all_append, item_behind}
use Rattle.node_origins.specs.declared.first_labels.FirstBearer.{FirstBearer}
use Rattle.node_origins.specs.Tables.{IsBearer, IsFirstBearer, NoneBears}

at_front : {A : Type 0} (xs ys : List A) (i : ℕ) (x : A) → slice_get xs i ≡ Some x
    → slice_get (xs ++ ys) i ≡ Some x
at_front [] ys i x at = absurd (none-some x at)
at_front (z ∷ xs) ys zero x at = at
at_front (z ∷ xs) ys (suc i) x at = at_front xs ys i x at

module _ (es : List Seen) (e : Seen) where
  pub bearer_stays : (label : Label) (first : FirstBearer) → IsBearer es label first
      → IsBearer (es ++ e ∷ []) label first
  bearer_stays label first is =
      let within = at_below es first.index is.event is.at in
      record {
        event = is.event;
        at = at_front es (e ∷ []) first.index is.event is.at;
        bears = is.bears;
        kind = is.kind;
        new = subst (NoneBears label)
            (sym (take-append-le first.index es (e ∷ []) (omega arith))) is.new;
      }

  -- an event that doesn't bear a label leaves it without a bearer
  pub none_still : (label : Label) → ¬ (Bears label e) → NoneBears label es
      → NoneBears label (es ++ e ∷ [])
  none_still label never none = all_append (λ d. ¬ (Bears label d)) es (e ∷ []) none (never, tt)

  -- the event is the first bearer of its label
  pub bearer_now : (label : Label) (index : ℕ) (receives : Bool) → index ≡ length es
      → is_receipt e ≡ receives → Bears label e → NoneBears label es
      → IsBearer (es ++ e ∷ []) label (record { index = index; receives = receives })
  bearer_now label index receives at kind bears none = record {
    event = e;
    at = ap (slice_get (es ++ e ∷ [])) at ∙ item_behind es [] e;
    bears = bears;
    kind = kind;
    new = subst (NoneBears label) (sym (ap (λ n. take n (es ++ e ∷ [])) at
        ∙ take-append_seam es (e ∷ []))) none;
  }

  first_stays : (label : Label) (o : Option FirstBearer) → (o ≡ None → ¬ (Bears label e))
      → IsFirstBearer es label o → IsFirstBearer (es ++ e ∷ []) label o
  first_stays label None never is = none_still label (never refl) is
  first_stays label (Some first) never is = bearer_stays label first is

  pub labels_answer : e.answer ≡ true → (label : Label) (o : Option FirstBearer)
      → IsFirstBearer es label o → IsFirstBearer (es ++ e ∷ []) label o
  labels_answer answer label o =
      first_stays label o (λ _ bears. false≢true (sym bears.0 ∙ answer))

  module _ (t : ℕ → Option FirstBearer) (are : (label : Label) → IsFirstBearer es label (t label.0))
    where
      -- if the label has a bearer, it keeps that
      pub labels_same : (first : FirstBearer) → t e.label.0 ≡ Some first → (label : Label)
          → IsFirstBearer (es ++ e ∷ []) label (t label.0)
      labels_same first there label =
          first_stays label (t label.0)
          (λ none bears. none-some first
          (sym none ∙ ap (λ (l : Label). t l.0) (sym bears.1) ∙ there)) (are label)

      module _ (u : ℕ → Option FirstBearer) (index : ℕ) (receives : Bool) (at : index ≡ length es)
          (kind : is_receipt e ≡ receives) (own : e.answer ≡ false) (none : t e.label.0 ≡ None)
          (now : (n : ℕ) → u n ≡ cond (e.label.0 == n)
          (Some (record { index = index; receives = receives })) (t n)) where
        by_label : (label : Label) (b : Bool) → (e.label.0 == label.0) ≡ b
            → IsFirstBearer (es ++ e ∷ []) label
            (cond b (Some (record { index = index; receives = receives })) (t label.0))
        by_label label true same =
            let equal : e.label ≡ label =
            ap (λ n. record { 0 = n }) (eqb-true e.label.0 label.0 same) in
            bearer_now label index receives at kind (own, equal)
            (subst (λ o. IsFirstBearer es label o)
            (ap (λ (l : Label). t l.0) (sym equal) ∙ none) (are label))
        by_label label false other = first_stays label (t label.0)
            (λ _ bears. false≢true
            (sym other ∙ eq-eqb e.label.0 label.0 (ap (λ (l : Label). l.0) bears.1)))
            (are label)

        -- else the event becomes its bearer
        pub labels_more : (label : Label) → IsFirstBearer (es ++ e ∷ []) label (u label.0)
        labels_more label = subst (IsFirstBearer (es ++ e ∷ []) label) (sym (now label.0))
            (by_label label (e.label.0 == label.0) refl)
