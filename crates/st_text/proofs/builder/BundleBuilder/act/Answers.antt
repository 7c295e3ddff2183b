-- The tests come in the order of the faults, and an act that passes them all has none.
use Rattle.std.proofs.Common.{◌≡◌, ◌+◌, ◌∙◌, ◌&&◌, ◌||◌, not, true, false, refl, sym, ap, Some}
use Rattle.std.proofs.Common.{arith}
use Rattle.std.specs.Prelude.{is_some}
use Rattle.st_text.specs.Parts.Counts.{acts_len}
use Rattle.st_text.specs.Parts.Remote.{is_act_remote}
use Rattle.st_text.proofs.BuilderFaults.{act_fault, act_good, needs_room, no_line, too_many}
use Rattle.st_text.proofs.BuilderFaults.{away_out, let_in, at_most}
use Rattle.st_text.proofs.BuilderSteps.{sound_act}
use Rattle.st_text.proofs.builder.BundleBuilder.act.Goals as goal

pub returns-then-keeps_out : goal.returns-then-keeps_out
returns-then-keeps_out c = λ ls s.
    let p = c.args.self.now in
    let out : (is_act_remote c.args.act.now && not p.wide) ≡ true =
    ap (λ b. b && not p.wide) (sym c.is_act_remote-away.ensures) ∙ sym c.keeps_out.ensures
    ∙ c.if-keeps_out.true in
    act_fault c.args.limits p ls c.args.act.now s ∙ no_line (p.lines + 1) _ _ _ _
    (away_out _ _ _ out)

pub returns-in-None : goal.returns-in-None
returns-in-None c = λ ls s.
    let p = c.args.self.now in
    act_fault c.args.limits p ls c.args.act.now s
    ∙ no_line (p.lines + 1) _ _ _ _
    (ap (λ b. is_some b && (p.wide || not (is_act_remote c.args.act.now)))
    c.in-None.is)

pub returns-then-len-limits : goal.returns-then-len-limits
returns-then-len-limits c = λ ls s.
    let p = c.args.self.now in
    let out : (is_act_remote c.args.act.now && not p.wide) ≡ false =
    ap (λ b. b && not p.wide) (sym c.is_act_remote-away.ensures) ∙ sym c.keeps_out.ensures
    ∙ c.if-keeps_out.false in
    let count : acts_len p.acts ≡ c.len.result = ap acts_len c.in-Some.is ∙ sym c.len.ensures in
    act_fault c.args.limits p ls c.args.act.now s
    ∙ too_many (p.lines + 1) _ _ _ _
    (let_in _ p.wide (is_act_remote c.args.act.now) (ap is_some c.in-Some.is) out)
    refl refl (at_most c.args.limits.acts (acts_len p.acts)
    (omega (arith, count, c.if-len-limits.true)))

pub returns-in_default : goal.returns-in_default
returns-in_default c = λ ls s.
    let p = c.args.self.now in
    let out : (is_act_remote c.args.act.now && not p.wide) ≡ false =
    ap (λ b. b && not p.wide) (sym c.is_act_remote-away.ensures) ∙ sym c.keeps_out.ensures
    ∙ c.if-keeps_out.false in
    let count : acts_len p.acts ≡ c.len.result = ap acts_len c.in-Some.is ∙ sym c.len.ensures in
    needs_room c.args.limits ls _
    (act_good c.args.limits p ls c.args.act.now c.in-Some.acts s c.in-Some.is out
    (omega (arith, count, c.if-len-limits.false))) refl

pub returns : goal.returns
returns c = λ ls s.
    let p = c.args.self.now in
    let out : (is_act_remote c.args.act.now && not p.wide) ≡ false =
    ap (λ b. b && not p.wide) (sym c.is_act_remote-away.ensures) ∙ sym c.keeps_out.ensures
    ∙ c.if-keeps_out.false in
    let count : acts_len p.acts ≡ c.len.result = ap acts_len c.in-Some.is ∙ sym c.len.ensures in
    let remote =
    c.is_either-self.ensures ∙ ap (λ b. p.remote || b) c.is_act_remote-away.ensures in (
      act_good c.args.limits p ls c.args.act.now c.in-Some.acts s c.in-Some.is out
          (omega (arith, count, c.if-len-limits.false)),
      sound_act p _ ls c.in-Some.acts c.args.act.now s c.in-Some.is refl
          (ap Some c.in-Ok.ensures.ok) refl refl refl
          refl refl remote,
    )
