-- Each message so far is lost.
use Rattle.lack_search.specs.LostMessages.{AreLostIn}
use Rattle.lack_search.proofs.lost_messages.note_lost.Given as goal

abbrev pub invariant-loop-place : goal.invariant-loop-place
invariant-loop-place l = AreLostIn l.streams l.pairing l.lost.items
