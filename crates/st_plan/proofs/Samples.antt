-- A sample for worked cases: a function looked at move by move.
use Rattle.std.specs.Prelude.{List, [], ◌∷◌}
use Rattle.st_plan.specs.Moves.{Move}

-- what the function gives at each of these moves, after the moves before it
abbrev pub along : {X : Type 0} → (List Move → Move → X) → List Move → List Move → List X
along f earlier [] = []
along f earlier (m ∷ ms) = f earlier m ∷ along f (m ∷ earlier) ms
