-- The item after a front of a list has the front's length as its index.
use Rattle.std.proofs.Common.{◌≡◌, List, [], ◌∷◌, ◌++◌, length, Some, refl, sym, ◌∙◌, ap}
use Rattle.std.proofs.Common.{append_assoc}
use mathlib.Core.List.{IsPrefix}
use Rattle.std.specs.List.{slice_get}
use Rattle.std.proofs.lemmas.Option.{same_Some, none-some}

-- the element after a front
pub slice_get_behind : {A : Type 0} (xs zs : List A)
    → slice_get (xs ++ zs) (length xs) ≡ slice_get zs 0
slice_get_behind [] zs = refl
slice_get_behind (x ∷ xs) zs = slice_get_behind xs zs

first_is : {A : Type 0} (zs : List A) (e : A) → slice_get zs 0 ≡ Some e
    → (rest : List A) × (e ∷ rest ≡ zs)
first_is [] e h = absurd (none-some e h)
first_is (z ∷ zs) e h = (zs, ap (λ x. x ∷ zs) (sym (same_Some z e h)))

-- a front with the next element is a front
pub front_more : {A : Type 0} (xs ys : List A) (e : A) → IsPrefix xs ys
    → slice_get ys (length xs) ≡ Some e
    → IsPrefix (xs ++ e ∷ []) ys
front_more xs ys e front next =
    let zs = front.0 in
    let found = first_is zs e
    (sym (slice_get_behind xs zs) ∙ ap (λ l. slice_get l (length xs)) front.1 ∙ next) in
    (found.0, append_assoc xs (e ∷ []) found.0 ∙ ap (λ l. xs ++ l) found.1 ∙ front.1)

-- the last element of a front is the one after the front without it
pub front_next : {A : Type 0} (xs ys : List A) (e : A) → IsPrefix (xs ++ e ∷ []) ys
    → slice_get ys (length xs) ≡ Some e
front_next xs ys e front =
    ap (λ l. slice_get l (length xs)) (sym front.1 ∙ append_assoc xs (e ∷ []) front.0)
    ∙ slice_get_behind xs (e ∷ front.0)
