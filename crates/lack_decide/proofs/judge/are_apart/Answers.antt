-- The streams list no process that was taken, and in the end all were taken.
use Rattle.std.proofs.Common.{◌≡◌, false, get_or, sym, ◌∙◌, arith}
use Rattle.std.proofs.lemmas.Bool.{not-true}
use Rattle.std.proofs.lemmas.Option.{slice_get-get_or, slice_get_within}
use Rattle.st_core.specs.declared.types.Pid.{Pid}
use Rattle.st_core.specs.Streams.{lists}
use Rattle.lack_laws.proofs.ForCallers.{all_from}
use Rattle.lack_needs.proofs.ForCallers.{more_passed}
use Rattle.lack_decide.proofs.judge.are_apart.Goals as goal

abbrev none : Pid
none = record { node = 0; number = 0 }

pub loop-pid-preserved : goal.loop-pid-preserved
loop-pid-preserved c =
    let qs = c.args.unlisted.now in
    let i = c.loop-pid.pid-index in
    more_passed (λ _ q. lists c.args.streams.now q ≡ false) qs i (get_or qs i none)
    (slice_get-get_or qs i none c.loop-pid-test.true) c.loop-pid.invariant
    (not-true _ (sym c.is_unlisted.ensures ∙ c.if-not-is_unlisted.false))

pub returns-clause-apart : goal.returns-clause-apart
returns-clause-apart c = λ _.
    let qs = c.args.unlisted.now in
    all_from (λ q. lists c.args.streams.now q ≡ false) qs (λ k q at.
    c.loop-pid.invariant k q (omega (arith, slice_get_within qs k q at, c.loop-pid-test.false)) at)
