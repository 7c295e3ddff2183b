-- One more process tells its events after those before it.
use Rattle.std.proofs.Common.{Bool, List, [], ◌∷◌, ◌++◌, ◌∙◌, ap}
use Rattle.st_core.specs.declared.types.Pid.{Pid}
use Rattle.lack_search.proofs.Telling.{process_assembled}
use Rattle.lack_search.proofs.assembly.Assembly.add_all.Goals as goal

pub loop-pid-preserved : goal.loop-pid-preserved
loop-pid-preserved c =
    let none : Pid = record { node = 0; number = 0 } in
    let lists = c.loop-pid.told.items in
    record {
      assembled = process_assembled c.args.streams.now c.args.pids.now c.loop-pid.pid-index none
          c.loop-pid.self.draft c.add_next.new.self.draft lists c.push.new.self.items
          c.in_ok-marks.marks.items c.loop-pid-test.true c.in_ok-marks.ensures.added
          (c.in_ok-push.ensures.items
          ∙ ap (λ (l : List Bool). lists ++ l ∷ []) c.from_vec.ensures)
          c.loop-pid.invariant.assembled;
      marks = c.in_ok-marks.ensures.marks;
    }
