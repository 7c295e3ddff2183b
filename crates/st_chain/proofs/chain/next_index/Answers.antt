-- An event with the label is the first of those that are left, and another is passed over.
use Rattle.std.proofs.Common.{get_or, ◌∙◌}
use Rattle.st_pair.proofs.ForCallers.{at_get_or, blank}
use Rattle.st_chain.proofs.Labelled.{labelled_here, none_labelled, passed_over}
use Rattle.st_chain.proofs.chain.next_index.Goals as goal

pub returns-then-events-index-clause-some : goal.returns-then-events-index-clause-some
returns-then-events-index-clause-some c =
    let es = c.args.events.now in
    let i = c.loop-index.index in
    let at = at_get_or es i blank c.loop-index-test.true in
    c.loop-index.invariant
    ∙ labelled_here c.args.label i es (get_or es i blank) at c.if-events-index.true

pub loop-index-preserved : goal.loop-index-preserved
loop-index-preserved c =
    let es = c.args.events.now in
    let i = c.loop-index.index in
    let at = at_get_or es i blank c.loop-index-test.true in
    c.loop-index.invariant
    ∙ passed_over c.args.label i es (get_or es i blank) at c.if-events-index.false

pub returns-clause-none : goal.returns-clause-none
returns-clause-none c = c.loop-index.invariant
    ∙ none_labelled c.args.label c.loop-index.index c.args.events.now c.loop-index-test.false
