-- A list of results has the result for each event at the event's index, and for one event more one
-- result more.
use Rattle.std.proofs.Common.{◌≡◌, ℕ, ◌+◌, zero, suc, List, [], ◌∷◌, ◌++◌, take, drop, Some, arith}
use Rattle.std.proofs.Common.{sym, ◌∙◌, ap, append_assoc, append-nil}
use Rattle.std.specs.List.{slice_get}
use Rattle.std.proofs.lemmas.Option.{same_Some, none-some}
use Rattle.st_core.specs.declared.types.Event.{Event}
use Rattle.node_streams.specs.Messages.{each_from}
use Rattle.node_streams.proofs.Counting.{taken_next}
use Rattle.node_streams.proofs.Unsents.{first_left}

module _ {A : Type 0} (f : List Event → Event → A) where
  pub each_step : (es : List Event) (i : ℕ) (e : Event) (old new all : List A)
      (o : A) → slice_get es i ≡ Some e
      → old ++ each_from f (take i es) (drop i es) ≡ all
      → new ≡ old ++ o ∷ [] → o ≡ f (take i es) e
      → new ++ each_from f (take (i + 1) es) (drop (i + 1) es) ≡ all
  each_step es i e old new all o at so_far now is =
      let next : i + 1 ≡ suc i = omega arith in
      let rest = λ (xs : List Event) (n : ℕ). each_from f xs (drop n es) in
      ap (λ xs. xs ++ rest (take (i + 1) es) (i + 1)) now
      ∙ append_assoc old (o ∷ []) (rest (take (i + 1) es) (i + 1))
      ∙ ap (λ x. old ++ x ∷ rest (take (i + 1) es) (i + 1)) is
      ∙ ap (λ n. old ++ f (take i es) e ∷ rest (take (i + 1) es) n) next
      ∙ ap (λ xs. old ++ f (take i es) e ∷ rest xs (suc i)) (taken_next es i e at)
      ∙ ap (λ xs. old ++ each_from f (take i es) xs) (sym (first_left es i e at))
      ∙ so_far

  each_after : (before es : List Event) (i : ℕ) (e : Event) → slice_get es i ≡ Some e
      → slice_get (each_from f before es) i ≡ Some (f (before ++ take i es) e)
  each_after before [] i e at = absurd (none-some e at)
  each_after before (d ∷ es) zero e at =
      ap (λ x. Some (f before x)) (same_Some d e at)
      ∙ ap (λ xs. Some (f xs e)) (sym (append-nil before))
  each_after before (d ∷ es) (suc i) e at =
      each_after (before ++ d ∷ []) es i e at
      ∙ ap (λ xs. Some (f xs e)) (append_assoc before (d ∷ []) (take i es))

  pub each_at : (es : List Event) (i : ℕ) (e : Event) → slice_get es i ≡ Some e
      → slice_get (each_from f [] es) i ≡ Some (f (take i es) e)
  each_at es i e at = each_after [] es i e at
