-- One event more is added if it is of the kind.
use Rattle.std.proofs.Common.{cond, get_or, [], ◌∷◌, ◌++◌, sym, ◌∙◌, ap, append-nil, Vec, Global}
use Rattle.node_streams.specs.Messages.{content_of}
use Rattle.node_streams.specs.declared.content.MessageContent.{MessageContent}
use Rattle.node_streams.specs.declared.ends.End.{End}
use Rattle.node_streams.specs.Tables.{ends_from}
use Rattle.node_streams.proofs.SortedEnds.{end_step}
use Rattle.node_streams.proofs.Unsents.{none_left}
use Rattle.node_streams.proofs.ends.own_ends.Goals as goal
use Rattle.node_streams.proofs.ends.own_ends.Goals.{then-is_of_kind+in_ok-push, else-is_of_kind}
use Rattle.st_pair.proofs.ForCallers.{at_get_or, blank}

pub loop-i-preserved : goal.loop-i-preserved
loop-i-preserved c =
    let es = c.args.events.now in
    let i = c.loop-i.i in
    let k = c.args.kind in
    let e = get_or es i blank in
    let at = at_get_or es i blank c.loop-i-test.true in
    let old = c.loop-i.ends.items in
    let own : MessageContent → End = λ d. record { content = d; index = i } in
    end_step k es i e at old c.if-is_of_kind.ends.items (ends_from k 0 es) c.loop-i.invariant
    (elim c.if-is_of_kind.branch [
      | then-is_of_kind+in_ok-push w ↦ ap (λ (v : Vec End Global). v.items) w.ends-is
          ∙ w.in_ok-push.ensures.items
          ∙ ap (λ (d : MessageContent). old ++ own d ∷ []) w.of-content.ensures
          ∙ ap (λ b. old ++ cond b (own (content_of e) ∷ []) [])
          (sym w.if-is_of_kind.true ∙ c.is_of_kind.ensures)
      | else-is_of_kind w ↦ ap (λ (v : Vec End Global). v.items) w.ends-is
          ∙ sym (append-nil old)
          ∙ ap (λ b. old ++ cond b (own (content_of e) ∷ []) [])
          (sym w.if-is_of_kind.false ∙ c.is_of_kind.ensures)
    ])

pub returns : goal.returns
returns c =
    let es = c.args.events.now in
    let i = c.loop-i.i in
    let items = c.loop-i.ends.items in
    sym (append-nil items)
    ∙ ap (λ xs. items ++ ends_from c.args.kind i xs) (sym (none_left es i c.loop-i-test.false))
    ∙ c.loop-i.invariant
