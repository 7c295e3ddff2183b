-- A receive lifts the clocks, and adds its token and those that a set can make.
use Rattle.std.proofs.Common.{[], ◌∷◌, ◌++◌, sym, subst, true}
use Rattle.node_machine.specs.Given.{tokens}
use Rattle.node_given.specs.Walk.{IsKnown}
use Rattle.node_given.proofs.Decisions.{on_ok}
use Rattle.node_given.proofs.Knowledge.{known_receive}
use Rattle.node_given.proofs.walk.Walk.receive.Goals as goal

pub returns : goal.returns
returns c = λ es kind other known.
    let old = c.args.self.now in
    let e = c.args.receive in
    let u = c.note-3.new.self in
    on_ok c.note-3.result
    (λ are. subst (λ n. IsKnown (es ++ e ∷ []) old.clocks.items n e.serial.this true u)
    (sym c.max-self.ensures)
    (known_receive es old.clocks.items old.lift old.last old.takes old.tokens u e known c.requires
    kind
    other are))
    (c.note-3.ensures _ (c.in_ok-note-2.ensures _
    (c.in_ok-note.ensures (tokens es) known.tokens_are)))
