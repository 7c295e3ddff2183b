-- The processes added so far tell what they told.
use Rattle.lack_needs.specs.Completions.{wholes_with}
use Rattle.lack_acts.proofs.Telling.{IsToldSoFar}
use Rattle.lack_acts.proofs.insertion.with_insertions.Given as goal

abbrev pub invariant-loop-process : goal.invariant-loop-process
invariant-loop-process l = IsToldSoFar (wholes_with l.fn.streams l.fn.marks) l.draft.draft
    l.draft.marks.items l.process
