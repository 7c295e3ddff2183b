-- Worked cases of events that show a loss, computed. No proof cites them; they show that the
-- definition says what is meant.
use Rattle.std.specs.Prelude.{[], ◌≡◌, true, false, List, ◌∷◌}
use Rattle.std.proofs.Common.{refl}
use Rattle.st_core.specs.Run.{Stream}
use Rattle.st_core.proofs.Samples.{a, b, got, of, printed, sent}
use Rattle.lack_needs.specs.Losses.{shows_loss}

-- A client receives a message whose send nobody reported, and a server prints. Between its prints
-- {1,3} and {2,4} the server received a message with count 2.
abbrev unlisted : List Stream
unlisted =
    of a (sent 17 0 1 a b 5 ∷ printed 17 0 2 a 6 ∷ got 17 1 2 b a 7 ∷ [])
    ∷ of b (printed 17 1 3 b 8 ∷ printed 17 2 4 b 9 ∷ [])
    ∷ []

between_prints : shows_loss unlisted b 1 2 (b, 1) (b, 0) ≡ true
between_prints = refl

-- No event shows that it received a message with count 1 before: its send {1,2} may begin a trace.
none_before_send : shows_loss unlisted b 0 1 (a, 2) (b, 0) ≡ false
none_before_send = refl

-- After two prints a process sends {2,3} unreported, and then prints {1,4}: it had received a
-- message with count 1 again.
abbrev again : List Stream
again =
    of a (got 1 2 3 b a 0 ∷ [])
    ∷ of b (got 1 0 1 a b 0 ∷ printed 1 1 2 b 0 ∷ printed 1 1 4 b 0 ∷ [])
    ∷ []

after_send : shows_loss again b 2 1 (b, 2) (a, 0) ≡ true
after_send = refl

-- If the process received between the prints, the unreported send may come before that receive.
abbrev between : List Stream
between =
    of a (got 1 2 3 b a 0 ∷ [])
    ∷ of b (printed 1 0 2 b 0 ∷ got 1 0 1 a b 0 ∷ printed 1 1 4 b 0 ∷ [])
    ∷ []

none_after_receive : shows_loss between b 2 1 (b, 2) (a, 0) ≡ false
none_after_receive = refl
