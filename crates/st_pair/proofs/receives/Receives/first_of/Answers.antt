-- A reported event has its mark, and any other the entry of its key.
use Rattle.std.proofs.Common.{sym, ◌∙◌, ap}
use Rattle.indexmap.specs.IndexMap.{get}
use Rattle.st_pair.specs.Tables.{key_eq}
use Rattle.st_pair.proofs.Marks.{given, mark_read}
use Rattle.st_pair.proofs.receives.Receives.first_of.Goals as goal

pub returns-in-None : goal.returns-in-None
returns-in-None c =
    let hidden = get key_eq c.args.self.now.hidden c.args.key in
    let mark = mark_read c.args.streams.now c.args.self.now.shown.items c.args.key c.args.process
    c.args.index
    c.requires.rising c.requires.process c.requires.index in
    c.copied.ensures ∙ c.get.ensures.value
    ∙ sym (ap (λ o. given o hidden) (mark ∙ sym (rw c.deref.ensures.value at c.in-None.ensures)))

pub returns-in-Some : goal.returns-in-Some
returns-in-Some c =
    let hidden = get key_eq c.args.self.now.hidden c.args.key in
    let mark = mark_read c.args.streams.now c.args.self.now.shown.items c.args.key c.args.process
    c.args.index
    c.requires.rising c.requires.process c.requires.index in
    sym (ap (λ o. given o hidden) (mark ∙ sym (rw c.deref.ensures.value at c.in-Some.ensures)))
