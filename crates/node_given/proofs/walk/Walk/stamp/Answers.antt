-- A stamp adds its token and the one that a set makes.
use Rattle.std.proofs.Common.{[], ◌∷◌, ◌++◌, sym, ◌∙◌, ap, subst, false}
use Rattle.node_machine.specs.Given.{tokens}
use Rattle.node_given.specs.Clocks.{clocks_by_stamp}
use Rattle.node_given.specs.Walk.{IsKnown}
use Rattle.node_given.proofs.Decisions.{on_ok}
use Rattle.node_given.proofs.Knowledge.{known_stamp}
use Rattle.node_given.proofs.walk.Walk.stamp.Goals as goal

pub returns : goal.returns
returns c = λ es kind known.
    let old = c.args.self.now in
    let e = c.args.stamp in
    let u = c.note-2.new.self in
    let items = c.in_ok-self.ensures ∙ ap (clocks_by_stamp old.lift old.last e)
    c.deref.ensures.value in
    on_ok c.note-2.result
    (λ are. subst (λ ks. IsKnown (es ++ e ∷ []) ks 0 e.serial.prev false u) (sym items)
    (known_stamp es old.clocks.items old.lift old.last old.takes old.tokens u e known c.requires
    kind are))
    (c.note-2.ensures _ (c.in_ok-note.ensures (tokens es) known.tokens_are))
