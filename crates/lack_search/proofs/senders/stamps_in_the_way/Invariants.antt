-- A need may ask for the count of each stamp so far.
use Rattle.lack_search.specs.Senders.{AreAsked}
use Rattle.lack_search.proofs.senders.stamps_in_the_way.Given as goal

abbrev pub invariant-loop-pid : goal.invariant-loop-pid
invariant-loop-pid l = AreAsked l.asked l.stamps.items

abbrev pub invariant-loop-send : goal.invariant-loop-send
invariant-loop-send l = AreAsked l.asked l.stamps.items
