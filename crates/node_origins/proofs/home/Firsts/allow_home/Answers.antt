-- The first event that bears a stamp's label decides whether the stamp can be at home.
use Rattle.std.proofs.Common.{◌≤◌, length, not, inl, inr, refl, arith, sym, ◌∙◌, ap, subst}
use Rattle.st_core.proofs.ForCallers.{not_true}
use Rattle.std.proofs.lemmas.Bool.{false≢true, le-leb}
use Rattle.node_origins.specs.Tables.{IsFirstBearer}
use Rattle.node_origins.proofs.Homes.{home_back, home_new, home_saved, home_unborne}
use Rattle.node_origins.proofs.home.Firsts.allow_home.Goals as goal
use Rattle.std.proofs.lemmas.Option.{slice_get_within as at_below}

pub returns-in-None : goal.returns-in-None
returns-in-None c = λ es are at.
    let e = c.args.stamp in (
      λ _. home_unborne es c.args.index e at
          (subst (IsFirstBearer es e.label) (sym c.in-None.ensures) (are.0 e.label)),
      λ _. refl,
    )

pub returns-then-index-first : goal.returns-then-index-first
returns-then-index-first c = λ es are at.
    let e = c.args.stamp in
    let first = c.in-Some.first in
    let is = subst (IsFirstBearer es e.label) (sym c.in-Some.ensures) (are.0 e.label) in (
      λ _. home_new es c.args.index e at first is (not_true first.receives c.if-not-first.true)
          c.if-index-first.true,
      λ _. le-leb c.args.index first.index c.if-index-first.true,
    )

pub returns-else-index-first : goal.returns-else-index-first
returns-else-index-first c = λ es are at.
    let e = c.args.stamp in
    let first = c.in-Some.first in
    let is = subst (IsFirstBearer es e.label) (sym c.in-Some.ensures) (are.0 e.label) in
    let below = at_below es first.index is.event is.at in
    let within : first.index ≤ length es = omega arith in
    let other = c.if-index-first.false in
    let less : first.index ≤ c.args.index = omega arith in
    let has = c.has.ensures es are.1 within in (
      λ yes. home_saved es c.args.index e at first is
          (not_true first.receives c.if-not-first.true) less (has.0 yes),
      λ home. elim (home_back es c.args.index e at first is home).1 [
        | inl most ↦ absurd (omega arith)
        | inr saved ↦ has.1 saved
      ],
    )

pub returns-else-not-first : goal.returns-else-not-first
returns-else-not-first c = λ es are at.
    let e = c.args.stamp in
    let first = c.in-Some.first in
    let is = subst (IsFirstBearer es e.label) (sym c.in-Some.ensures) (are.0 e.label) in (
      λ yes. absurd (false≢true (sym c.if-not-first.false ∙ yes)),
      λ home. ap not (home_back es c.args.index e at first is home).0,
    )
