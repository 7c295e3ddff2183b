-- Pids rise, so that the process that a search finds is the only one of its pid.
use Rattle.std.proofs.Common.{sym, subst}
use Rattle.std.specs.Prelude.{Contains}
use Rattle.st_runtime.proofs.PartLemmas.{match_test}
use Rattle.st_runtime.proofs.Legal.{on_true, on_false}
use Rattle.st_runtime.proofs.Wholeness.{control_at, has_at_one, not_among}
use Rattle.st_runtime.proofs.join.whole.has_at.Goals as goal

pub returns-in-Some : goal.returns-in-Some
returns-in-Some g c =
    let xs = c.args.processes.now in
    let p = c.args.pid in
    let e = c.args.entry.now in
    let x = c.index-processes-place.result in
    let at = c.in-Some.ensures.some in
    let found = control_at xs c.in-Some.place x p at.0 at.1 c.index-processes-place.is in
    let Log : Type 0 = Contains x.log e in
    match_test c.has_entry.result _ _
    (λ yes. record {
      control = x;
      among = found.0;
      pid = found.1;
      has = subst (λ log. Contains log e) c.log.ensures.value
          (on_true c.has_entry.result _ _ yes c.has_entry.ensures);
    })
    (λ no has. on_false c.has_entry.result _ _ no c.has_entry.ensures
    (subst (λ log. Contains log e) (sym c.log.ensures.value)
    (has_at_one xs x p e c.requires found.0 found.1 has)))

pub returns-in-None : goal.returns-in-None
returns-in-None g c = λ has. not_among c.args.processes.now c.args.pid c.args.entry.now
    (sym c.in-None.ensures.variant) has
