-- Before all events both counts are 0, and a set can make one token.
use Rattle.std.proofs.Common.{[], ◌∷◌, ◌++◌, sym, ◌∙◌, ap, subst, false}
use Rattle.node_given.specs.Walk.{IsKnown}
use Rattle.node_given.proofs.Knowledge.{known_start}
use Rattle.node_given.proofs.walk.Walk.new.Goals as goal

pub returns : goal.returns
returns c =
    let items = c.in_ok-push.ensures.items ∙ ap (λ xs. xs ++ 0 ∷ []) c.new-clocks.ensures.items in
    subst (λ ks. IsKnown [] ks 0 0 false c.note.new.self) (sym items)
    (known_start c.note.new.self (c.in_ok-note.ensures [] c.new-tokens.ensures))
