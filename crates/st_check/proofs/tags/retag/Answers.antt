-- Only a send and a receive change tags, each one list.
use Rattle.std.proofs.Common.{◌≡◌, Some, map, subst, sym, ◌∙◌, ap}
use Rattle.st_core.specs.declared.types.Act.{Act}
use Rattle.st_core.specs.Pairs.{tags_after, pair_at}
use Rattle.st_core.specs.Step.{actor}
use Rattle.st_check.specs.Progress.{pair_to}
use Rattle.st_check.proofs.TagLists.{without_is, pair_is}
use Rattle.st_core.specs.Run.{pids_of}
use Rattle.st_check.proofs.tags.retag.Goals as goal

pub returns-in-Receive-clause-tags : goal.returns-in-Receive-clause-tags
returns-in-Receive-clause-tags c = λ t are.
    let is = c.in-Receive.is in
    let at = c.requires.actor ∙ ap (λ (a : Act). Some (actor a)) is in
    subst (λ (a : Act). c.take_tag.new.tags.lists
    ≡ map (tags_after t c.args.number a c.args.place) (pids_of c.args.streams.now)) (sym is)
    (without_is t c.args.tags.now.lists c.take_tag.new.tags.lists (pids_of c.args.streams.now)
    c.args.list
    c.in-Receive.field-0 c.in-Receive.field-1 c.args.number c.args.place c.requires.rising at
    c.take_tag.ensures.lists are)

pub returns-in-Receive-clause-pair : goal.returns-in-Receive-clause-pair
returns-in-Receive-clause-pair c = λ t are.
    let is = c.in-Receive.is in
    let at = c.requires.actor ∙ ap (λ (a : Act). Some (actor a)) is in
    subst (λ (a : Act). pair_at t c.args.number a c.args.place
    ≡ pair_to c.args.number c.take_tag.result) (sym is)
    (pair_is t c.args.tags.now.lists (pids_of c.args.streams.now) c.args.list c.in-Receive.field-0
    c.in-Receive.field-1 c.args.number c.args.place c.take_tag.result at c.take_tag.ensures.value
    are)
