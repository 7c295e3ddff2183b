-- One event more adds its place if it is unsent.
use Rattle.std.proofs.Common.{◌≡◌, ℕ, ◌+◌, ◌≤◌, zero, suc, cond, Bool, List, [], ◌∷◌, ◌++◌, length}
use Rattle.std.proofs.Common.{take, drop, Some, refl, arith, sym, ◌∙◌, ap, append_assoc}
use Rattle.std.specs.List.{slice_get}
use Rattle.std.proofs.lemmas.Option.{same_Some}
use Rattle.st_core.specs.declared.types.Pid.{Pid}
use Rattle.st_core.specs.declared.types.Event.{Event}
use Rattle.st_core.specs.Run.{Stream}
use Rattle.node_streams.specs.Messages.{is_unsent, unsent_from}
use Rattle.node_streams.proofs.Counting.{taken_next}

pub first_left : {A : Type 0} (xs : List A) (i : ℕ) (x : A) → slice_get xs i ≡ Some x
    → drop i xs ≡ x ∷ drop (suc i) xs
first_left [] i x at = absurd (cc)
first_left (y ∷ xs) zero x at = ap (λ z. z ∷ xs) (same_Some y x at)
first_left (y ∷ xs) (suc i) x at = first_left xs i x at

pub length_taken : {A : Type 0} (xs : List A) (i : ℕ) (x : A) → slice_get xs i ≡ Some x
    → length (take i xs) ≡ i
length_taken [] i x at = absurd (cc)
length_taken (y ∷ xs) zero x at = refl
length_taken (y ∷ xs) (suc i) x at = ap suc (length_taken xs i x at)

pub none_left : {A : Type 0} (xs : List A) (i : ℕ) → length xs ≤ i → drop i xs ≡ []
none_left [] zero most = refl
none_left [] (suc i) most = refl
none_left (x ∷ xs) zero most = absurd (omega arith)
none_left (x ∷ xs) (suc i) most = none_left xs i (omega arith)

module _ (streams : List Stream) (p : Pid) (es : List Event) (i : ℕ) (e : Event)
    (at : slice_get es i ≡ Some e) where
  abbrev place_if : Bool → List (Pid × ℕ)
  place_if b = cond b ((p, i) ∷ []) []

  piece : place_if (is_unsent streams (take i es) e)
      ++ unsent_from streams p (take (i + 1) es) (drop (i + 1) es)
      ≡ unsent_from streams p (take i es) (drop i es)
  piece =
      let next : i + 1 ≡ suc i = omega arith in
      ap (λ n. place_if (is_unsent streams (take i es) e) ++ unsent_from streams p
      (take (i + 1) es) (drop n es)) next
      ∙ ap (λ xs. place_if (is_unsent streams (take i es) e) ++ unsent_from streams p xs
      (drop (suc i) es)) (taken_next es i e at)
      ∙ ap (λ n. cond (is_unsent streams (take i es) e) ((p, n) ∷ []) []
      ++ unsent_from streams p (take i es ++ e ∷ []) (drop (suc i) es))
      (sym (length_taken es i e at))
      ∙ ap (unsent_from streams p (take i es)) (sym (first_left es i e at))

  pub unsent_step : (old new all : List (Pid × ℕ))
      → old ++ unsent_from streams p (take i es) (drop i es) ≡ all
      → new ≡ old ++ place_if (is_unsent streams (take i es) e)
      → new ++ unsent_from streams p (take (i + 1) es) (drop (i + 1) es) ≡ all
  unsent_step old new all so_far now =
      ap (λ xs. xs ++ unsent_from streams p (take (i + 1) es) (drop (i + 1) es)) now
      ∙ append_assoc old (place_if (is_unsent streams (take i es) e))
      (unsent_from streams p (take (i + 1) es) (drop (i + 1) es))
      ∙ ap (λ xs. old ++ xs) piece ∙ so_far
