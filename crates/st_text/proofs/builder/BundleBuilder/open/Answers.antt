-- The tests come in the order of the faults, and a process that passes them all has none.
use Rattle.std.proofs.Common.{◌≡◌, ◌+◌, ◌∙◌, ◌&&◌, ◌||◌, not, true, false, refl, sym, ap}
use Rattle.std.specs.Prelude.{is_some}
use Rattle.st_text.specs.Text.{is_away}
use Rattle.st_text.proofs.BuilderFaults.{open_fault, open_good, needs_room, no_line, no_order}
use Rattle.st_text.proofs.BuilderFaults.{too_many, begun_out}
use Rattle.st_text.proofs.BuilderFaults.{away_out, let_in, not_begun, none_of_acts, at_most}
use Rattle.st_text.proofs.BuilderSteps.{sound_open}
use Rattle.st_text.proofs.builder.BundleBuilder.open.Goals as goal

pub returns-then-is_some : goal.returns-then-is_some
returns-then-is_some c = λ ls s.
    let p = c.args.self.now in
    open_fault c.args.limits p ls c.args.pid s
    ∙ no_line (p.lines + 1) _ _ _ _ (begun_out _ _ (sym c.is_some.ensures ∙ c.if-is_some.true))

pub returns-then-keeps_out : goal.returns-then-keeps_out
returns-then-keeps_out c = λ ls s.
    let p = c.args.self.now in
    let out : (is_away c.args.pid && not p.wide) ≡ true =
    ap (λ b. b && not p.wide) (sym c.is_away-away.ensures) ∙ sym c.keeps_out.ensures
    ∙ c.if-keeps_out.true in
    open_fault c.args.limits p ls c.args.pid s ∙ no_line (p.lines + 1) _ _ _ _ (away_out _ _ _ out)

pub returns-then-is_out_of_order : goal.returns-then-is_out_of_order
returns-then-is_out_of_order c = λ ls s.
    let p = c.args.self.now in
    let out : (is_away c.args.pid && not p.wide) ≡ false =
    ap (λ b. b && not p.wide) (sym c.is_away-away.ensures) ∙ sym c.keeps_out.ensures
    ∙ c.if-keeps_out.false in
    let stands =
    let_in (not (is_some p.acts)) p.wide (is_away c.args.pid)
    (not_begun _ (sym c.is_some.ensures ∙ c.if-is_some.false)) out in
    open_fault c.args.limits p ls c.args.pid s
    ∙ no_order (p.lines + 1) _ _ _ _ stands
    (sym c.is_out_of_order.ensures ∙ c.if-is_out_of_order.true)

pub returns-then-self-limits : goal.returns-then-self-limits
returns-then-self-limits c = λ ls s.
    let p = c.args.self.now in
    let out : (is_away c.args.pid && not p.wide) ≡ false =
    ap (λ b. b && not p.wide) (sym c.is_away-away.ensures) ∙ sym c.keeps_out.ensures
    ∙ c.if-keeps_out.false in
    let stands =
    let_in (not (is_some p.acts)) p.wide (is_away c.args.pid)
    (not_begun _ (sym c.is_some.ensures ∙ c.if-is_some.false)) out in
    open_fault c.args.limits p ls c.args.pid s
    ∙ too_many (p.lines + 1) _ _ _ _ stands
    (sym c.is_out_of_order.ensures ∙ c.if-is_out_of_order.false) refl
    (at_most c.args.limits.processes p.processes c.if-self-limits.true)

pub returns-in_default : goal.returns-in_default
returns-in_default c = λ ls s.
    let p = c.args.self.now in
    let begun : is_some p.acts ≡ false = sym c.is_some.ensures ∙ c.if-is_some.false in
    let out : (is_away c.args.pid && not p.wide) ≡ false =
    ap (λ b. b && not p.wide) (sym c.is_away-away.ensures) ∙ sym c.keeps_out.ensures
    ∙ c.if-keeps_out.false in
    let order = sym c.is_out_of_order.ensures ∙ c.if-is_out_of_order.false in
    needs_room c.args.limits ls _
    (open_good c.args.limits p ls c.args.pid s begun out order c.if-self-limits.false)
    refl

pub returns : goal.returns
returns c = λ ls s.
    let p = c.args.self.now in
    let begun : is_some p.acts ≡ false = sym c.is_some.ensures ∙ c.if-is_some.false in
    let out : (is_away c.args.pid && not p.wide) ≡ false =
    ap (λ b. b && not p.wide) (sym c.is_away-away.ensures) ∙ sym c.keeps_out.ensures
    ∙ c.if-keeps_out.false in
    let order = sym c.is_out_of_order.ensures ∙ c.if-is_out_of_order.false in
    let remote = c.is_either-self.ensures ∙ ap (λ b. p.remote || b) c.is_away-away.ensures in (
      open_good c.args.limits p ls c.args.pid s begun out order c.if-self-limits.false,
      sound_open p _ ls c.args.pid s (none_of_acts p.acts begun) refl refl c.in-Ok.ensures.ok refl
          refl refl refl
          remote c.in-Ok.ensures.rising,
    )
