-- An act stops if its process isn't listed, if it has no step, or if it reports another event;
-- else the tables move with it.
use Rattle.std.proofs.Common.{sym, ◌∙◌, arith, subst, get_or, map, false, ◌≡◌}
use Rattle.std.specs.List.{AllByRecursion}
use Rattle.std.proofs.lemmas.Bool.{false≢true}
use Rattle.std.proofs.lemmas.Option.{slice_get_within}
use Rattle.st_core.specs.Pid.{pid_eq}
use Rattle.st_core.specs.Run.{pids_of}
use Rattle.node_check.specs.Acts.{node_act}
use Rattle.node_check.specs.Progress.{IsNextEvent}
use Rattle.node_check.proofs.NextActs.{act_at, act_within, differs_at, passes_at, undone_at}
use Rattle.node_check.proofs.NextActs.{unlisted_at}
use Rattle.node_check.proofs.progress.Progress.advance.Goals as goal

pub returns-in_default-clause-stop : goal.returns-in_default-clause-stop
returns-in_default-clause-stop g c =
    let f = g.A.ToNodeAct.on_node in
    let xs = c.args.acts.now in
    unlisted_at c.args.streams.now (map f xs) c.args.number (node_act c.to_node_act-act.result)
    c.args.self.now (act_within f xs c.args.number c.requires.within)
    (act_at f xs c.args.number _ _ c.requires.within c.index-acts-number.is
    c.to_node_act-act.ensures)
    c.requires.passed
    (subst (λ p. AllByRecursion (λ q. pid_eq q p ≡ false) (pids_of c.args.streams.now))
    c.actor-me.ensures c.in_default.ensures.missing)

pub step-requires-clause-rising : goal.step-requires-clause-rising
step-requires-clause-rising g c = c.requires.passed.rising

pub returns-in-Err-clause-stop : goal.returns-in-Err-clause-stop
returns-in-Err-clause-stop g c =
    let f = g.A.ToNodeAct.on_node in
    let xs = c.args.acts.now in
    rw c.stop_by.ensures
    (undone_at c.args.streams.now (map f xs) c.args.number (node_act c.to_node_act-act.result)
    c.args.self.now (act_within f xs c.args.number c.requires.within)
    (act_at f xs c.args.number _ _ c.requires.within c.index-acts-number.is
    c.to_node_act-act.ensures)
    c.requires.passed c.in-Err.fault c.in-Err.ensures.undone)

pub count-requires : goal.count-requires
count-requires g c =
    let len = c.requires.passed.passed.counts_len in
    let within = slice_get_within (pids_of c.args.streams.now) c.in-Some.place c.actor-me.result
    c.in-Some.ensures.found in
    omega arith

pub returns-then-not-count-clause-stop : goal.returns-then-not-count-clause-stop
returns-then-not-count-clause-stop g c =
    let f = g.A.ToNodeAct.on_node in
    let xs = c.args.acts.now in
    let kept = c.args.self.now in
    differs_at c.args.streams.now (map f xs) c.args.number (node_act c.to_node_act-act.result)
    kept (act_within f xs c.args.number c.requires.within)
    (act_at f xs c.args.number _ _ c.requires.within c.index-acts-number.is
    c.to_node_act-act.ensures)
    c.requires.passed
    c.in-Ok.report c.step.new.self c.in-Some.place c.actor-me.result c.in-Ok.ensures.done
    c.in-Some.ensures.found (sym c.actor-me.ensures)
    (λ next. false≢true (sym c.if-not-count.true ∙ c.count.ensures.next.1
    (subst (λ es. IsNextEvent es (get_or kept.counts.items c.in-Some.place 0) c.in-Ok.report)
    (sym c.events.ensures.value) next)))

pub returns-clause-passed : goal.returns-clause-passed
returns-clause-passed g c =
    let f = g.A.ToNodeAct.on_node in
    let xs = c.args.acts.now in
    let kept = c.args.self.now in
    passes_at c.args.streams.now (map f xs) c.args.number (node_act c.to_node_act-act.result)
    kept (act_within f xs c.args.number c.requires.within)
    (act_at f xs c.args.number _ _ c.requires.within c.index-acts-number.is
    c.to_node_act-act.ensures)
    c.requires.passed
    c.in-Ok.report c.step.new.self c.in-Some.place c.actor-me.result c.in-Ok.ensures.done
    c.in-Some.ensures.found (sym c.actor-me.ensures) _
    c.count.ensures.processes
    (c.count.ensures.counts c.if-not-count.false)
    (subst (λ es. IsNextEvent es (get_or kept.counts.items c.in-Some.place 0) c.in-Ok.report)
    c.events.ensures.value (c.count.ensures.next.0 c.if-not-count.false))
