-- An answer sets both counts, and a set can make a token with its last.
use Rattle.std.proofs.Common.{[], ◌∷◌, ◌++◌, sym, ◌∙◌, ap, subst, false}
use Rattle.node_machine.specs.Counts.{answer_count}
use Rattle.node_machine.specs.Given.{fresh, tokens}
use Rattle.node_given.specs.Tables.{AreTokens}
use Rattle.node_given.specs.Walk.{IsKnown}
use Rattle.node_given.proofs.Decisions.{on_ok}
use Rattle.node_given.proofs.Knowledge.{known_answer}
use Rattle.node_given.proofs.walk.Walk.answer.Goals as goal

pub returns : goal.returns
returns c = λ es kind answer known.
    let old = c.args.self.now in
    let e = c.args.answer in
    let u = c.note.new.self in
    let n = answer_count e.serial.this in
    let last = c.last_of_answer-self.ensures in
    let items = c.in_ok-push.ensures.items
    ∙ ap (λ xs. xs ++ c.clock_of_answer.result ∷ []) c.new-clocks.ensures.items
    ∙ ap (λ k. k ∷ []) c.clock_of_answer.ensures in
    on_ok c.note.result
    (λ are. subst (λ ks. IsKnown (es ++ e ∷ []) ks 0 c.last_of_answer-self.result false u)
    (sym items)
    (subst (λ k. IsKnown (es ++ e ∷ []) (n ∷ []) 0 k false u) (sym last)
    (known_answer es old.clocks.items old.lift old.last old.takes old.tokens u e known c.requires
    kind
    answer (subst (λ k. AreTokens (fresh k ∷ tokens es) u) last are))))
    (c.note.ensures (tokens es) known.tokens_are)
