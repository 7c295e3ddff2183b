-- Each way in which events allow an origin is one of the four sources.
use Rattle.std.proofs.Common.{◌⊎◌, ℕ, List, inl, inr, refl, sym, subst}
use Rattle.node_machine.specs.declared.types.Seen.{Seen}
use Rattle.node_machine.specs.Origins.{answered, Can, home, received, stamped, taken, TokenOrigin}
use Rattle.node_origins.specs.Sources.{FromHome, FromPredecessor, FromReceive, FromRequest}

abbrev pub FromSome : List Seen → ℕ → TokenOrigin → Type 0
FromSome es i h =
    (FromPredecessor es i h ⊎ FromReceive es i h) ⊎ (FromRequest es i h ⊎ FromHome es i h)

pub can_source : (es : List Seen) (i : ℕ) (h : TokenOrigin) → Can es i h → FromSome es i h
can_source es i h (taken _ k is) = inl (inr (k, is, refl))
can_source es i h (received _ k is) = inl (inl (k, inl (is, refl)))
can_source es i h (stamped _ k _ is can) = inl (inl (k, inr (is, can)))
can_source es i h (answered _ k _ is can) = inr (inl (k, is, can))
can_source es i h (home _ is) = inr (inr (is, refl))

from_predecessor : (es : List Seen) (i : ℕ) (h : TokenOrigin) → FromPredecessor es i h → Can es i h
from_predecessor es i h from = elim from.1 [
  | inl by ↦ subst (Can es i) (sym by.1) (received i from.0 by.0)
  | inr can ↦ stamped i from.0 h can.0 can.1
]

pub source_can : (es : List Seen) (i : ℕ) (h : TokenOrigin) → FromSome es i h → Can es i h
source_can es i h (inl (inl from)) = from_predecessor es i h from
source_can es i h (inl (inr from)) = subst (Can es i) (sym from.2) (taken i from.0 from.1)
source_can es i h (inr (inl from)) = answered i from.0 h from.1 from.2
source_can es i h (inr (inr from)) = subst (Can es i) (sym from.1) (home i from.0)
