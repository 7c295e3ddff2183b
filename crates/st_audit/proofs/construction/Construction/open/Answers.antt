-- A tracer that was put changed no count, and is the next of all tracers.
use Rattle.std.proofs.Common.{◌≡◌, ℕ, ◌+◌, ◌∷◌, [], List, true, not, Option, Some, ◌==◌, drop}
use Rattle.std.proofs.Common.{get_or, arith, sym, ◌∙◌, ap, subst}
use Rattle.std.specs.Option.{option_eq}
use Rattle.st_core.specs.declared.types.Pid.{Pid}
use Rattle.st_core.specs.Run.{Stream}
use Rattle.st_core.specs.declared.types.Act.TheVariants as act
use Rattle.st_plan.specs.Build.{tracers_after}
use Rattle.st_audit.specs.declared.construction.Construction.{Construction}
use Rattle.st_audit.specs.Progress.{acts_turn, IsMatched, IsSoFar, Meets, SaysNothing, TellsLast}
use Rattle.st_audit.proofs.Attempts.{done_by, goes_through}
use Rattle.st_audit.proofs.MoveOutcomes.{on_err}
use Rattle.st_audit.proofs.Tracers.{all_opened, next_left, none_opened, one_opened, opening_halts}
use Rattle.st_audit.proofs.Tracers.{seen_before, tracer_so_far, was_seen, Opens}
use Rattle.st_audit.proofs.construction.Construction.open.Goals as goal
use Rattle.st_audit.proofs.construction.Construction.open.Goals.{then-ne+in_ok-perform, else-ne}

pub loop-pid-init : goal.loop-pid-init
loop-pid-init g c =
    record {
      so_far = λ streams so. so;
      opens = none_opened c.args.pids.now c.args.self.now;
      matched = c.requires;
    }

pub loop-pid-preserved : goal.loop-pid-preserved
loop-pid-preserved g c =
    let old = c.args.self.now in
    let top = g.row.TOP in
    let pids = c.args.pids.now in
    let n = c.loop-pid.pid-index in
    let i = c.loop-pid.invariant in
    let now = c.loop-pid.self in
    let seen = c.loop-pid.node in
    let none : Pid = record { node = 0; number = 0 } in
    let p = get_or pids n none in
    let rest = drop (n + 1) pids in
    let opens : Opens pids seen (p ∷ rest) old now =
    subst (λ (left : List Pid). Opens pids seen left old now)
    (next_left pids n none c.loop-pid-test.true) i.opens in
    let test = was_seen seen p c.ne.result
    (c.ne.ensures ∙ ap (λ (m : ℕ). not (option_eq (λ x y. x == y) seen (Some m)))
    c.node.ensures) in
    elim c.if-ne.branch [
      | then-ne+in_ok-perform w ↦
          let done = w.in_ok-perform.ensures in
          let after = w.perform.new.self in
          let made = (done_by TellsLast (act.Tracer p true ∷ []) now w.in_ok-perform.field-0 after
          done.exact).made in
          let more = one_opened pids old seen p rest now opens (test ∙ ap not w.if-ne.true) after
          made in
          let node_is : c.if-ne.node ≡ Some p.node =
          w.node-is ∙ ap (λ (m : ℕ). Some m) w.node-then-ne.ensures in
          record {
            so_far = subst (λ (x : Construction top). (streams : List Stream)
                → IsSoFar streams [] old
                → IsSoFar streams [] x) (sym w.self-is)
                (λ streams was. tracer_so_far p now after made done.skipped done.told streams
                (i.so_far streams was));
            opens = subst (λ (x : Construction top). Opens pids c.if-ne.node rest old x)
                (sym w.self-is)
                (subst (λ (m : Option ℕ). Opens pids m rest old after) (sym node_is) more);
            matched = subst (λ (x : Construction top). IsMatched c.args.streams.now x)
                (sym w.self-is) done.matched;
          }
      | else-ne w ↦
          let more = seen_before pids old seen p rest now opens (test ∙ ap not w.if-ne.false) in
          record {
            so_far = subst (λ (x : Construction top). (streams : List Stream)
                → IsSoFar streams [] old
                → IsSoFar streams [] x) (sym w.self-is) i.so_far;
            opens = subst (λ (x : Construction top). Opens pids c.if-ne.node rest old x)
                (sym w.self-is)
                (subst (λ (m : Option ℕ). Opens pids m rest old now) (sym w.node-is) more);
            matched = subst (λ (x : Construction top). IsMatched c.args.streams.now x)
                (sym w.self-is) i.matched;
          }
    ]

pub returns-in_err-perform-clause-exact : goal.returns-in_err-perform-clause-exact
returns-in_err-perform-clause-exact g c =
    let old = c.args.self.now in
    let pids = c.args.pids.now in
    let n = c.loop-pid.pid-index in
    let now = c.loop-pid.self in
    let seen = c.loop-pid.node in
    let none : Pid = record { node = 0; number = 0 } in
    let p = get_or pids n none in
    let rest = drop (n + 1) pids in
    let opens : Opens pids seen (p ∷ rest) old now =
    subst (λ (left : List Pid). Opens pids seen left old now)
    (next_left pids n none c.loop-pid-test.true)
    c.loop-pid.invariant.opens in
    let test = was_seen seen p c.ne.result
    (c.ne.ensures ∙ ap (λ (m : ℕ). not (option_eq (λ x y. x == y) seen (Some m)))
    c.node.ensures) in
    let h = c.in_err-perform.field-0.0 in
    let new = c.perform.new.self in
    on_err c.from_residual.result h
    (λ r. Meets {T = Unit {0}} SaysNothing (acts_turn g.row.TOP old.world (tracers_after _ pids))
    old r new)
    c.from_residual.ensures.1
    (opening_halts pids old seen p rest now opens (test ∙ ap not c.if-ne.true) new h
    c.in_err-perform.ensures.exact)

pub returns-clause-exact : goal.returns-clause-exact
returns-clause-exact g c =
    let pids = c.args.pids.now in
    goes_through {T = Unit {0}} SaysNothing (tracers_after _ pids) c.args.self.now tt
    c.loop-pid.self
    (all_opened pids c.args.self.now c.loop-pid.node c.loop-pid.self c.loop-pid.pid-index
    (omega arith)
    c.loop-pid.invariant.opens) tt
