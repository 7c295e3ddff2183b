-- The event at an index is the first of the events from that index on.
use Rattle.std.proofs.Common.{◌≡◌, ◌≢◌, ℕ, ◌+◌, ◌≤◌, zero, suc, cond, List, [], ◌∷◌, drop, length}
use Rattle.std.proofs.Common.{Some, slice_get, refl, ◌∙◌, ap, arith}
use Rattle.std.proofs.lemmas.Bool.{eq-eqb, ne_eqb}
use Rattle.std.proofs.lemmas.Option.{same_Some}
use Rattle.st_core.specs.declared.types.Event.{Event}
use Rattle.st_core.specs.declared.types.Label.{Label}
use Rattle.st_chain.specs.Labels.{indexes_from, labelled_indexes}

front : (label : Label) (i k : ℕ) (es : List Event) (e : Event) → slice_get es k ≡ Some e
    → labelled_indexes label i (drop k es) ≡ labelled_indexes label i (e ∷ drop (suc k) es)
front label i k [] e at = absurd (cc)
front label i zero (f ∷ es) e at =
    ap (λ (x : Event). labelled_indexes label i (x ∷ es)) (same_Some f e at)
front label i (suc k) (f ∷ es) e at = front label i k es e at

module _ (label : Label) (i : ℕ) (es : List Event) (e : Event) (at : slice_get es i ≡ Some e) where
  next : suc i ≡ i + 1
  next = omega arith

  -- an event with the label is the first
  pub labelled_here : e.label.0 ≡ label.0
      → indexes_from label i es ≡ i ∷ indexes_from label (i + 1) es
  labelled_here is = front label i i es e at
      ∙ ap (λ b. cond b (i ∷ labelled_indexes label (i + 1) (drop (suc i) es))
      (labelled_indexes label (i + 1) (drop (suc i) es))) (eq-eqb e.label.0 label.0 is)
      ∙ ap (λ (n : ℕ). i ∷ labelled_indexes label (i + 1) (drop n es)) next

  -- an event with another label is passed over
  pub passed_over : e.label.0 ≢ label.0
      → indexes_from label i es ≡ indexes_from label (i + 1) es
  passed_over is = front label i i es e at
      ∙ ap (λ b. cond b (i ∷ labelled_indexes label (i + 1) (drop (suc i) es))
      (labelled_indexes label (i + 1) (drop (suc i) es))) (ne_eqb e.label.0 label.0 is)
      ∙ ap (λ (n : ℕ). labelled_indexes label (i + 1) (drop n es)) next

nothing_left : (label : Label) (i k : ℕ) (es : List Event) → length es ≤ k
    → labelled_indexes label i (drop k es) ≡ []
nothing_left label i zero [] past = refl
nothing_left label i (suc k) [] past = refl
nothing_left label i zero (e ∷ es) past = absurd (omega arith)
nothing_left label i (suc k) (e ∷ es) past = nothing_left label i k es (omega arith)

-- past the last event no index is left
pub none_labelled : (label : Label) (i : ℕ) (es : List Event) → length es ≤ i
    → indexes_from label i es ≡ []
none_labelled label i es past = nothing_left label i i es past
