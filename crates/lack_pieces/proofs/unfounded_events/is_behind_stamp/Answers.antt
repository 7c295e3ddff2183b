-- A lower count with another prev is there exactly if one of the lowest is lower.
use Rattle.std.proofs.Common.{inl, inr, sym, ◌∙◌}
use Rattle.std.proofs.lemmas.Bool.{false≢true}
use Rattle.lack_pieces.proofs.Founding.{behind_known, known_behind}
use Rattle.lack_pieces.proofs.unfounded_events.is_behind_stamp.Goals as goal

pub returns-then-is_below : goal.returns-then-is_below
returns-then-is_below c = λ piece is. (
  λ yes. behind_known piece c.args.lowest is c.args.event.now
      (inl (c.is_below.ensures.0 c.if-is_below.true)),
  λ behind. c.if-is_below.true,
)

pub returns-else-is_below : goal.returns-else-is_below
returns-else-is_below c = λ piece is. (
  λ yes. behind_known piece c.args.lowest is c.args.event.now
      (inr (c.is_below-else-is_below.ensures.0 yes)),
  λ behind. elim (known_behind piece c.args.lowest is c.args.event.now behind) [
    | inl known ↦ absurd (false≢true (sym c.if-is_below.false ∙ c.is_below.ensures.1 known))
    | inr known ↦ c.is_below-else-is_below.ensures.1 known
  ],
)
