-- The definitions computed on worked cases, which show that they say what is meant. Nothing cites
-- this file.
use Rattle.std.specs.Prelude.{◌≡◌, ℕ, Bool, true, false, List, [], ◌∷◌, ◌++◌, Some, refl}
use Rattle.st_core.specs.declared.types.Pid.{Pid}
use Rattle.st_core.specs.declared.types.Event.{Event}
use Rattle.st_core.specs.declared.types.Act.{Act}
use Rattle.st_core.specs.declared.types.Act.TheVariants as act
use Rattle.st_core.specs.declared.types.Component.TheVariants as component
use Rattle.st_core.specs.declared.types.Want.TheVariants as want
use Rattle.st_core.specs.Run.{Stream}
use Rattle.st_order.specs.Order.{order}
use Rattle.st_plan.specs.Marks.{all_streams, all_told, marks_of, told_streams, Marked, Whole}
use Rattle.st_plan.specs.Moves.{clock, last, moves, Move}
use Rattle.st_plan.specs.Reasons.{too_wide, uncaused}
use Rattle.st_plan.specs.Plain.{out_of_turn, told_of_moves}
use Rattle.st_plan.specs.Build.{construction, unstamped_token}
use Rattle.st_core.proofs.Samples.{top, a, b, c, sent, got, printed, of, hidden_sends}
use Rattle.st_plan.proofs.Samples.{along}

abbrev restored : Pid → ℕ → Bool → Bool → Bool → Act
restored p n s r q =
    act.Restore p (unstamped_token p (record { 0 = n })
    (record { send = s; receive = r; print = q }))

abbrev hidden : List Move
hidden = moves hidden_sends (order hidden_sends)

hidden_clocks : along (λ e m. clock m.who e) [] hidden ≡ 0 ∷ 1 ∷ 0 ∷ 2 ∷ 3 ∷ 2 ∷ []
hidden_clocks = refl

hidden_lasts : along (λ e m. last m.who e) [] hidden ≡ 0 ∷ 0 ∷ 0 ∷ 2 ∷ 2 ∷ 0 ∷ []
hidden_lasts = refl

hidden_uncaused : along uncaused [] hidden ≡ false ∷ false ∷ false ∷ false ∷ false ∷ false ∷ []
hidden_uncaused = refl

hidden_too_wide : along too_wide [] hidden ≡ false ∷ false ∷ false ∷ false ∷ false ∷ false ∷ []
hidden_too_wide = refl

-- what a process tells: its own events and no hidden send
hidden_told : told_of_moves all_told b hidden ≡ got 17 0 2 a b 5 ∷ printed 17 2 3 b 8 ∷ []
hidden_told = refl

-- the certificate of the hidden sends
hidden_acts : construction top hidden_sends all_told hidden ≡ Some (
    act.Tracer a true ∷ restored a 17 false false true ∷ act.Print a 7
    ∷ restored a 17 false true false ∷ act.Send a b 5 ∷ act.Receive b (want.Place 0)
    ∷ restored b 17 false false true ∷ act.Print b 8
    ∷ restored b 17 false true false ∷ act.Send b a 6 ∷ act.Receive a (want.Place 0) ∷ [])
hidden_acts = refl

-- a process takes a message before its hidden send; the hidden send has the place of its receive
abbrev crossing : List Stream
crossing = of a (got 1 0 1 b a 4 ∷ []) ∷ of b (got 1 0 2 a b 5 ∷ []) ∷ []

crossing_uncaused : along uncaused [] (moves crossing (order crossing))
    ≡ false ∷ false ∷ true ∷ false ∷ []
crossing_uncaused = refl

-- a thousand counts may be missing before one item, and no more
abbrev wide : ℕ → List Stream
wide this = of a (printed 17 0 this a 7 ∷ []) ∷ []

widest : along too_wide [] (moves (wide 1001) (order (wide 1001))) ≡ false ∷ []
widest = refl

too_wide_by_one : along too_wide [] (moves (wide 1002) (order (wide 1002))) ≡ true ∷ []
too_wide_by_one = refl

-- a new trace begins at a prev that is above the clock
new_trace : construction top (of a (printed 17 2 3 a 5 ∷ []) ∷ []) all_told
    (moves (of a (printed 17 2 3 a 5 ∷ []) ∷ [])
    (order (of a (printed 17 2 3 a 5 ∷ []) ∷ [])))
    ≡ Some (act.Tracer a true ∷ restored a 17 false false false ∷ act.Print a 0 ∷ act.Print a 0
    ∷ act.Clear a ∷ act.Set a (component.Label (record { 0 = 17 }))
    ∷ restored a 17 false false true ∷ act.Print a 5 ∷ [])
new_trace = refl

-- receives of one height: the order doesn't list their process's events by index, and an act for
-- each is no way through them
abbrev one_height : List Stream
one_height = of a [] ∷ of b (got 1 0 2 a b 5 ∷ got 1 0 1 c b 4 ∷ printed 1 1 2 b 9 ∷ []) ∷ of c []
    ∷ []

one_height_free : along uncaused [] (moves one_height (order one_height))
    ++ along too_wide [] (moves one_height (order one_height))
    ≡ false ∷ false ∷ false ∷ false ∷ false ∷ false ∷ false ∷ false ∷ false ∷ false ∷ []
one_height_free = refl

one_height_late : along out_of_turn [] (moves one_height (order one_height))
    ≡ false ∷ false ∷ true ∷ true ∷ true ∷ []
one_height_late = refl

-- COMPLETIONS

abbrev told : Event → Marked
told e = record { event = e; told = true }

abbrev untold : Event → Marked
untold e = record { event = e; told = false }

abbrev all : Pid → List Marked → Whole
all p ms = record { pid = p; marked = ms }

abbrev whole_moves : List Whole → List Move
whole_moves wholes = moves (all_streams wholes) (order (all_streams wholes))

-- what the crossing lacks: each sent before it received
abbrev crossed : List Whole
crossed = all a (untold (sent 1 0 2 a b 5) ∷ told (got 1 0 1 b a 4) ∷ [])
    ∷ all b (untold (sent 1 0 1 b a 4) ∷ told (got 1 0 2 a b 5) ∷ []) ∷ []

crossed_told : told_streams crossed ≡ crossing
crossed_told = refl

crossed_free : along uncaused [] (whole_moves crossed) ++ along out_of_turn [] (whole_moves crossed)
    ≡ false ∷ false ∷ false ∷ false ∷ false ∷ false ∷ false ∷ false ∷ []
crossed_free = refl

crossed_acts : construction top (all_streams crossed) (marks_of crossed) (whole_moves crossed)
    ≡ Some (
    act.Tracer a true ∷ restored b 1 false true false ∷ act.Send b a 4
    ∷ restored a 1 false false false ∷ act.Print a 0 ∷ restored a 1 false true false
    ∷ act.Send a b 5
    ∷ act.Receive a (want.Place 0) ∷ act.Receive b (want.Place 0) ∷ [])
crossed_acts = refl

-- a prev is below the clock: a message came between, which nobody told of
abbrev fallen : List Stream
fallen = of a (printed 1 0 2 a 7 ∷ printed 1 1 3 a 8 ∷ []) ∷ of b [] ∷ []

fallen_uncaused : along uncaused [] (moves fallen (order fallen)) ≡ false ∷ true ∷ []
fallen_uncaused = refl

abbrev completed : List Whole
completed = all a (told (printed 1 0 2 a 7) ∷ untold (got 1 0 1 b a 0) ∷ told (printed 1 1 3 a 8)
    ∷ [])
    ∷ all b (untold (sent 1 0 1 b a 0) ∷ []) ∷ []

completed_told : told_streams completed ≡ fallen
completed_told = refl

completed_acts : construction top (all_streams completed) (marks_of completed)
    (whole_moves completed) ≡ Some (
    act.Tracer a true ∷ restored b 1 false false false ∷ act.Send b a 0
    ∷ restored a 1 false false false ∷ act.Print a 0 ∷ restored a 1 false false true ∷ act.Print a 7
    ∷ act.Receive a (want.Place 0) ∷ restored a 1 false false true ∷ act.Print a 8 ∷ [])
completed_acts = refl
