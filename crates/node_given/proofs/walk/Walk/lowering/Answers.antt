-- A token and a receive lead to a clock if the greater of their counts is that clock.
use Rattle.std.proofs.Common.{refl, arith, sym, ◌∙◌}
use Rattle.std.proofs.lemmas.Bool.{false≢true}
use Rattle.st_core.specs.declared.types.Serial.{Serial}
use Rattle.node_machine.specs.Given.{tokens}
use Rattle.node_given.proofs.Decisions.{lowered_by_receive, lowered_by_token, lowered_count}
use Rattle.node_given.proofs.Decisions.{lowered_ends, lowered_last, lowered_never}
use Rattle.node_given.proofs.walk.Walk.lowering.Goals as goal

pub returns-then-not-self-clause-missing : goal.returns-then-not-self-clause-missing
returns-then-not-self-clause-missing c = λ es known t low.
    sym c.if-not-self.true ∙ known.taking_is ∙ lowered_ends es c.args.stamp t low

pub returns-then-self-stamp-clause-missing : goal.returns-then-self-stamp-clause-missing
returns-then-self-stamp-clause-missing c = λ es known t low.
    absurd (c.if-self-stamp.true (known.last_is ∙ lowered_last es c.args.stamp t low))

pub returns-then-self-clock-clause-found : goal.returns-then-self-clock-clause-found
returns-then-self-clock-clause-found c = λ es known.
    let w = c.args.self.now in
    lowered_by_receive es w.clocks.items w.lift w.last w.takes w.tokens known c.args.stamp
    c.count_before-clock.result c.count_before-clock.ensures.next c.if-not-self.false
    c.if-self-stamp.false c.if-self-clock.true

pub returns-then-self-clock-2-clause-missing : goal.returns-then-self-clock-2-clause-missing
returns-then-self-clock-2-clause-missing c = λ es known t low.
    let w = c.args.self.now in
    absurd (lowered_never es w.clocks.items w.lift w.last w.takes w.tokens known c.args.stamp
    c.count_before-clock.result c.count_before-clock.ensures.next c.count_before-clock.ensures.fits
    c.if-self-clock-2.true t low)

pub returns-in_err-prev-clause-missing : goal.returns-in_err-prev-clause-missing
returns-in_err-prev-clause-missing c = λ es known t low.
    let w = c.args.self.now in
    let found = lowered_count es w.clocks.items w.lift w.last w.takes w.tokens known c.args.stamp
    c.count_before-clock.result c.count_before-clock.ensures.next c.count_before-clock.ensures.fits
    c.if-self-clock-2.false c.if-self-clock.false t low in
    absurd
    (false≢true (c.in_err-prev.ensures.missing (tokens es) known.tokens_are t found.0 found.1))

pub returns-clause-found : goal.returns-clause-found
returns-clause-found c = λ es known.
    let w = c.args.self.now in
    let least = c.if-self-clock-2.false in
    let other = c.if-self-clock.false in
    let clock = c.count_before-clock.result in
    let token : Serial = record { prev = c.in_ok-prev.prev; this = clock } in
    lowered_by_token es w.clocks.items w.lift w.last w.takes w.tokens known c.args.stamp clock
    c.count_before-clock.ensures.next c.if-not-self.false c.if-self-stamp.false (omega arith) token
    refl (c.in_ok-prev.ensures.found (tokens es) known.tokens_are)
