-- The list loses what is at the place, if anything does.
use Rattle.std.proofs.Common.{sym, ◌∙◌, ap}
use Rattle.st_check.specs.Progress.{without_tag}
use Rattle.st_check.proofs.TagLists.{take_leaves}
use Rattle.st_check.proofs.tags.take_tag.Goals as goal

pub returns-clause-lists : goal.returns-clause-lists
returns-clause-lists c =
    take_leaves c.args.tags.now c.take_at.new.self c.args.list c.in_ok-place.field-0
    c.take_at.result
    c.take_at.ensures.value c.take_at.ensures.taken c.take_at.ensures.nothing_there
    ∙ ap (without_tag c.args.tags.now.lists c.args.list) (sym c.in_ok-place.was)
