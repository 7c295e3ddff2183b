-- Lists in an arena as contracts see them.
use Rattle.std.specs.Prelude.{ℕ, List, [], slice_index_or, refl}
use Rattle.std.specs.Coded.{Coded, code_by, coded×, coded_ℕ, coded_list}

-- the lists, and the number of values for which there is room already
pub record Arena (T : Type 0) : Type 0 where
  pub lists : List (List T)
  pub spare : ℕ

-- an arena is coded as the pair of its fields
abbrev pub arena_code : {T : Type 0} → Coded T → Coded (Arena T)
arena_code {T} code =
    code_by
    (List (List T) × ℕ)
    (coded× (coded_list (coded_list code)) coded_ℕ)
    (λ a. (a.lists, a.spare))
    (λ p. record { lists = p.0; spare = p.1 })
    (λ _. refl)

-- the list with the number `list`, which each clause requires to be below the number of lists
abbrev pub list_at : {T : Type 0} → Arena T → ℕ → List T
list_at arena list = slice_index_or arena.lists list []
