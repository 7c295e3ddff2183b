-- Pids rise, so that a process of the pid whose log the entry comes from is the one that has it.
use Rattle.std.proofs.Common.{arith, sym, subst}
use Rattle.std.proofs.lemmas.List.Elements.{All-more}
use Rattle.st_runtime.specs.Pieces.{HasIfTouched}
use Rattle.st_runtime.proofs.Members.{All-past}
use Rattle.st_runtime.proofs.Wholeness.{has_at_one}
use Rattle.st_runtime.proofs.join.whole.is_everywhere.Goals as goal

pub has_if_touched-requires : goal.has_if_touched-requires
has_if_touched-requires g c =
    let xs = c.args.processes.now in
    let x = c.process-item.result in (
      omega arith,
      (
        c.requires.wide,
        λ same. has_at_one xs x c.args.here c.args.entry.now c.requires.held.rising
            (c.loop-process.process-index, c.loop-process-test.true, sym c.process-item.is) same
            c.requires.held.here,
      ),
    )

pub loop-process-preserved : goal.loop-process-preserved
loop-process-preserved g c =
    let xs = c.args.processes.now in
    let e = c.args.entry.now in
    let x = c.process-item.result in
    All-more (HasIfTouched e) xs c.loop-process.process-index x c.loop-process-test.true
    c.loop-process.invariant
    (subst (HasIfTouched e) c.process-item.is c.if-not-has_if_touched.ensures)

pub returns : goal.returns
returns g c =
    All-past (HasIfTouched c.args.entry.now) c.loop-process.process-index c.args.processes.now
    (omega (arith, c.loop-process-test.false)) c.loop-process.invariant
