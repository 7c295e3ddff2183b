-- Worked cases: the definitions computed. Nothing cites this file; it shows that the definitions
-- say what is meant.
use Rattle.std.specs.Prelude.{◌≡◌, List, [], ◌∷◌, Some, None, refl}
use Rattle.st_core.specs.Run.{Stream}
use Rattle.st_chain.specs.declared.cause.Cause.TheVariants as cause
use Rattle.st_chain.specs.Causes.{cause_at, place_at, IsBackFrom}
use Rattle.st_chain.specs.Labels.{chain}
use Rattle.st_core.proofs.Samples.{a, b, sent, got, printed, of, hidden_sends}

hidden_start : cause_at hidden_sends a 0 ≡ Some cause.Start
hidden_start = refl

hidden_cause : cause_at hidden_sends a 1 ≡ Some cause.Hidden
hidden_cause = refl

hidden_print : cause_at hidden_sends b 1 ≡ Some (cause.Event b 0)
hidden_print = refl

hidden_back : IsBackFrom hidden_sends (place_at hidden_sends b 1) ((b, 1) ∷ (b, 0) ∷ [])
hidden_back = (refl, (refl, refl))

hidden_chain : chain hidden_sends a (record { 0 = 17 }) ≡ 0 ∷ 1 ∷ []
hidden_chain = refl

hidden_other : chain hidden_sends a (record { 0 = 18 }) ≡ []
hidden_other = refl

-- two labels of one process in turn
in_turn : chain (of a (printed 18 0 1 a 7 ∷ printed 17 0 2 a 7 ∷ printed 18 0 3 a 7 ∷ []) ∷ of b []
    ∷ []) a
    (record { 0 = 18 }) ≡ 0 ∷ 2 ∷ []
in_turn = refl

-- a send and its receive
abbrev passed : List Stream
passed = of a (sent 17 0 1 a b 5 ∷ []) ∷ of b (got 17 0 1 a b 5 ∷ []) ∷ []

passed_cause : cause_at passed b 0 ≡ Some (cause.Event a 0)
passed_cause = refl

passed_back : IsBackFrom passed (place_at passed b 0) ((b, 0) ∷ (a, 0) ∷ [])
passed_back = (refl, (refl, refl))

missing_cause : cause_at passed a 7 ≡ None
missing_cause = refl

missing_back : IsBackFrom passed (place_at passed a 7) []
missing_back = refl

-- the nearer of two earlier receives with one count is the cause, and no later one
abbrev twice : List Stream
twice = of a (got 17 0 2 b a 5 ∷ got 17 1 2 a a 5 ∷ printed 17 2 3 a 7 ∷ got 17 2 4 b a 6 ∷ [])
    ∷ of b [] ∷ []

twice_nearest : cause_at twice a 2 ≡ Some (cause.Event a 1)
twice_nearest = refl

later_receive : cause_at (of a (printed 17 2 3 a 7 ∷ got 17 0 2 b a 5 ∷ []) ∷ of b [] ∷ []) a 0
    ≡ Some cause.Start
later_receive = refl
