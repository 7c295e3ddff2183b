-- The first log with an entry that isn't whole has the least place, since the logs before it are
-- whole.
use Rattle.std.proofs.Common.{arith, ◌∙◌, ◌<◌, List, length, take, get_or, sym, ap, subst, Some}
use Rattle.std.proofs.Common.{None}
use Rattle.std.specs.Prelude.{All, slice_index_or}
use Rattle.std.proofs.lemmas.List.Elements.{All-more}
use Rattle.std.proofs.lemmas.Option.{slice_get-get_or}
use Rattle.st_core.specs.declared.types.Act.TheVariants.{Reset}
use Rattle.st_core.specs.declared.types.Reply.TheVariants.{Done}
use Rattle.st_log.specs.declared.entry.Entry.{Entry}
use Rattle.st_runtime.specs.Pcb.{Control}
use Rattle.st_runtime.specs.Pieces.{IsWholeEntry}
use Rattle.st_runtime.proofs.Members.{All-past}
use Rattle.st_runtime.proofs.join.whole.first_missing.Goals as goal

pub returns-in-Some : goal.returns-in-Some
returns-in-Some g c =
    let ps = c.args.processes.now in
    let p = c.index-processes-k.result in
    let i = c.in-Some.i in
    let Found : List Entry → Type 0 = λ es. (i < length es) × All (IsWholeEntry ps) (take i es)
    × ((d : Entry) → ¬ IsWholeEntry ps (slice_index_or es i d)) in
    let found : Found p.log = subst Found c.log.ensures.value c.in-Some.ensures in
    let none : Entry = record {
      rank = 0;
      act = Reset p.process.pid;
      reply = Done;
      report = None;
      carried = None;
    } in
    record {
      number = c.loop-k.k;
      before = c.loop-k.invariant;
      control = p;
      is_at = slice_get-get_or ps c.loop-k.k p c.loop-k-test.true
          ∙ ap Some (sym c.index-processes-k.is);
      pid = sym c.pid-in-Some.ensures;
      front = found.1;
      entry = get_or p.log i none;
      place = slice_get-get_or p.log i none found.0;
      missing = found.2 none;
    }

pub loop-k-preserved : goal.loop-k-preserved
loop-k-preserved g c =
    let ps = c.args.processes.now in
    let p = c.index-processes-k.result in
    All-more (λ (x : Control). All (IsWholeEntry ps) x.log) ps c.loop-k.k p c.loop-k-test.true
    c.loop-k.invariant
    (subst (All (IsWholeEntry ps))
    (c.log.ensures.value ∙ ap (λ (x : Control). x.log) c.index-processes-k.is)
    c.in_default.ensures)

pub returns : goal.returns
returns g c = let ps = c.args.processes.now in
    All-past (λ (x : Control). All (IsWholeEntry ps) x.log) c.loop-k.k ps
    (omega (arith, c.loop-k-test.false)) c.loop-k.invariant
