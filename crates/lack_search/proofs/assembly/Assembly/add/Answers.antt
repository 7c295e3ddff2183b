-- The event goes to the end of the process, with its mark.
use Rattle.std.proofs.Common.{[], ◌∷◌, ◌++◌, ◌∙◌, ap}
use Rattle.lack_search.specs.declared.assembly.Assembly.{Assembly}
use Rattle.lack_search.proofs.Telling.{event_added}
use Rattle.lack_search.proofs.assembly.Assembly.add.Goals as goal

pub returns : goal.returns
returns c =
    let new : Assembly = record {
      draft = c.add.new.self;
      positions = c.note.new.self;
      marks = c.push.new.self;
      hidden_left = c.args.self.now.hidden_left;
      fed_left = c.args.self.now.fed_left;
      inventions_left = c.args.self.now.inventions_left;
    } in
    event_added c.args.pid c.args.event c.args.origin c.args.self.now new c.in-Ok.ensures.ok
    (c.in_ok-push.ensures.items
    ∙ ap (λ b. c.args.self.now.marks.items ++ b ∷ []) c.is_told.ensures)
