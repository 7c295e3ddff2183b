-- Each message so far is lost.
use Rattle.lack_search.specs.LostMessages.{AreLostIn}
use Rattle.lack_search.proofs.lost_messages.lost_messages.Given as goal

abbrev pub invariant-loop-pid : goal.invariant-loop-pid
invariant-loop-pid l = AreLostIn l.streams l.pairing l.lost.items
