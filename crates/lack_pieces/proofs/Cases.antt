-- Worked cases: reasons in pieces of a few events, computed. Nothing cites this file; it shows that
-- the definitions say what is meant.
use Rattle.std.proofs.Common.{◌≡◌, [], ◌∷◌, inl, inr, refl, arith}
use Rattle.st_core.proofs.Samples.{a, b, got, printed, sent}
use Rattle.lack_decide.specs.declared.answer.Never.TheVariants as never
use Rattle.lack_pieces.specs.Pieces.{Piece}
use Rattle.lack_pieces.specs.Reasons.{IsAgainstIn}

-- b received a message of a with another value than a sent
other_value : Piece
other_value = record {
  pid = a;
  events = printed 1 0 2 a 8 ∷ sent 1 2 3 a b 5 ∷ [];
  receipts = record { pid = b; index = 0; event = got 1 2 3 a b 6 } ∷ [];
}

mismatch : IsAgainstIn 9 other_value b 0 (got 1 2 3 a b 6) (never.Mismatch a 1)
unfolding other_value
mismatch = (
  record { place = 0; at = refl },
  refl,
  sent 1 2 3 a b 5,
  refl,
  λ is. let clash : 5 ≡ 6 = is.4 in omega (arith, clash),
)

-- b received a message twice
two_receipts : Piece
two_receipts = record {
  pid = a;
  events = [];
  receipts =
      record { pid = b; index = 0; event = got 1 0 2 a b 6 }
      ∷ record { pid = b; index = 4; event = got 1 0 2 a b 6 }
      ∷ [];
}

repeated : IsAgainstIn 9 two_receipts b 4 (got 1 0 2 a b 6) (never.Repeated b 0)
unfolding two_receipts
repeated = (
  record { place = 1; at = refl },
  inr (refl, omega arith),
  got 1 0 2 a b 6,
  record { place = 0; at = refl },
  refl,
)

-- b received an unreported message with prev 0, and a had printed with another prev before it
hidden_zero : Piece
hidden_zero = record {
  pid = a;
  events = printed 1 1 2 a 8 ∷ [];
  receipts = record { pid = b; index = 0; event = got 1 0 4 a b 6 } ∷ [];
}

unfounded : IsAgainstIn 9 hidden_zero b 0 (got 1 0 4 a b 6) never.Unfounded
unfolding hidden_zero
unfounded = (
  refl,
  inr (
    inr (record { place = 0; at = refl }, refl),
    record {
      pid = a;
      index = 0;
      first = printed 1 1 2 a 8;
      tells = inl (record { own = refl; at = refl }, refl);
      lower = omega arith;
      above = omega arith;
    },
  ),
)
