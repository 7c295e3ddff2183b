-- The act at this index ran after those before it.
use Rattle.std.proofs.Common.{List, [], ◌∷◌, drop, get_or, suc, take, refl, sym, ◌∙◌, subst, Err}
use Rattle.std.proofs.Common.{arith}
use Rattle.std.proofs.lemmas.List.{take_all, take_more}
use Rattle.std.proofs.lemmas.Option.{slice_get-get_or}
use Rattle.st_core.specs.declared.types.Act.{Act}
use Rattle.st_core.specs.declared.types.Act.TheVariants as act
use Rattle.st_core.specs.Pid.{pid_on}
use Rattle.st_audit.specs.Progress.{acts_turn, Meets, SaysNothing, TellsLast}
use Rattle.st_audit.proofs.Attempts.{done_by, goes_through, halts_after, halts_before}
use Rattle.st_audit.proofs.Attempts.{none_performed, then_performed, Performed}
use Rattle.st_audit.proofs.ItemPlaces.{cut}
use Rattle.st_audit.proofs.MoveOutcomes.{on_err}
use Rattle.st_audit.proofs.construction.Construction.perform_all.Goals as goal

pub loop-act-init : goal.loop-act-init
loop-act-init g c = (none_performed c.args.self.now, refl, refl, c.requires)

-- what stands for an act if there is none
abbrev none : Act
none = act.Send (pid_on 0 0) (pid_on 0 0) 0

pub loop-act-preserved : goal.loop-act-preserved
loop-act-preserved g c =
    let done = c.in_ok-perform.ensures in
    let plan = c.args.plan.now in
    let n = c.loop-act.act-index in
    let old = c.args.self.now in
    let mid = c.loop-act.self in
    let new = c.perform.new.self in
    let a = get_or plan n none in
    let made = (done_by TellsLast (a ∷ []) mid c.in_ok-perform.field-0 new done.exact).made in (
      subst (λ (acts : List Act). Performed acts old new)
          (sym (take_more plan n none c.loop-act-test.true))
          (then_performed (take n plan) (a ∷ []) old mid new c.loop-act.invariant.0 made),
      done.skipped ∙ c.loop-act.invariant.1,
      done.told ∙ c.loop-act.invariant.2,
      done.matched,
    )

pub returns-in_err-perform-clause-exact : goal.returns-in_err-perform-clause-exact
returns-in_err-perform-clause-exact g c =
    let top = g.row.TOP in
    let plan = c.args.plan.now in
    let n = c.loop-act.act-index in
    let old = c.args.self.now in
    let mid = c.loop-act.self in
    let new = c.perform.new.self in
    let h = c.in_err-perform.field-0.0 in
    let a = get_or plan n none in
    let rest = drop (suc n) plan in
    let is = cut plan n a (slice_get-get_or plan n none c.loop-act-test.true) in
    let one : Meets TellsLast (acts_turn top mid.world (a ∷ rest)) mid (Err h) new =
    halts_before TellsLast TellsLast (a ∷ []) rest mid h new c.in_err-perform.ensures.exact in
    on_err c.from_residual.result h
    (λ r. Meets {T = Unit {0}} SaysNothing (acts_turn top old.world plan) old r new)
    c.from_residual.ensures.1
    (subst (λ xs. Meets {T = Unit {0}} SaysNothing (acts_turn top old.world xs) old (Err h) new)
    (sym is)
    (halts_after {U = Unit {0}} TellsLast SaysNothing (take n plan) a rest old mid h new
    c.loop-act.invariant.0 one))

pub returns-clause-exact : goal.returns-clause-exact
returns-clause-exact g c =
    let plan = c.args.plan.now in
    let n = c.loop-act.act-index in
    let old = c.args.self.now in
    let new = c.loop-act.self in
    goes_through {T = Unit {0}} SaysNothing plan old tt new
    (subst (λ (acts : List Act). Performed acts old new) (take_all n plan (omega arith))
    c.loop-act.invariant.0) tt
