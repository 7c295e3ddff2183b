-- The processes added so far tell their events in the streams.
use Rattle.std.proofs.Common.{◌≡◌, []}
use Rattle.lack_search.proofs.Telling.{AreAssembled}
use Rattle.lack_search.proofs.assembly.Assembly.add_all.Given as goal

abbrev pub invariant-loop-pid : goal.invariant-loop-pid
invariant-loop-pid l = record {
  assembled : AreAssembled l.streams l.pids l.pid-index l.self.draft l.told.items;
  marks : l.self.marks.items ≡ [];
}
