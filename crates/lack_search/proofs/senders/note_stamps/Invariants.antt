-- A need may ask for the count of each stamp so far.
use Rattle.lack_search.specs.Senders.{AreAsked}
use Rattle.lack_search.proofs.senders.note_stamps.Given as goal

abbrev pub invariant-loop-event : goal.invariant-loop-event
invariant-loop-event l = AreAsked l.asked l.stamps.items
