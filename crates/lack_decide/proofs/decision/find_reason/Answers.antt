-- No reason holds if no event is late, unfounded or above TOP.
use Rattle.std.proofs.lemmas.Bool.{ltb-false}
use Rattle.lack_decide.proofs.decision.find_reason.Goals as goal

pub returns-clause-none : goal.returns-clause-none
returns-clause-none g c = record {
  accepted = c.requires.accepted;
  timely = c.in_default.ensures.none;
  founded = rw c.in_default-2.is at c.in_ok-pid.ensures.none;
  within = λ p i e at. ltb-false g.row.TOP e.serial.this
      (c.in_default-find_flaw.ensures.none p i e at);
}
