-- One event more adds its place if it is unsent.
use Rattle.std.proofs.Common.{cond, get_or, take, [], ◌∷◌, ◌++◌, sym, ◌∙◌, ap, append-nil, Vec}
use Rattle.std.proofs.Common.{Global, ℕ}
use Rattle.st_core.specs.declared.types.Pid.{Pid}
use Rattle.node_streams.specs.Messages.{unsent_from}
use Rattle.node_streams.proofs.Takes.{taken_among, unsent_is}
use Rattle.node_streams.proofs.Unsents.{none_left, unsent_step}
use Rattle.node_streams.proofs.receives.add_unsent.Goals as goal
use Rattle.node_streams.proofs.receives.add_unsent.Goals.{then-is_unsent+in_ok-push, else-is_unsent}
use Rattle.st_pair.proofs.ForCallers.{at_get_or, blank}

pub loop-i-preserved : goal.loop-i-preserved
loop-i-preserved c = λ streams are.
    let es = c.args.events.now in
    let i = c.loop-i.i in
    let p = c.args.pid in
    let e = get_or es i blank in
    let at = at_get_or es i blank c.loop-i-test.true in
    let old = c.loop-i.places.items in
    let told = c.is_unsent.ensures ∙ unsent_is streams (take i es) e c.taken_at.result
    (taken_among streams es i e c.args.taken.now c.taken_at.result are at c.taken_at.ensures) in
    unsent_step streams p es i e at old c.if-is_unsent.places.items
    (c.args.places.now.items ++ unsent_from streams p [] es) (c.loop-i.invariant streams are)
    (elim c.if-is_unsent.branch [
      | then-is_unsent+in_ok-push w ↦ ap (λ (v : Vec (Pid × ℕ) Global). v.items) w.places-is
          ∙ w.in_ok-push.ensures.items
          ∙ ap (λ b. old ++ cond b ((p, i) ∷ []) []) (sym w.if-is_unsent.true ∙ told)
      | else-is_unsent w ↦ ap (λ (v : Vec (Pid × ℕ) Global). v.items) w.places-is
          ∙ sym (append-nil old)
          ∙ ap (λ b. old ++ cond b ((p, i) ∷ []) []) (sym w.if-is_unsent.false ∙ told)
    ])

pub returns : goal.returns
returns c = λ streams are.
    let es = c.args.events.now in
    let i = c.loop-i.i in
    let items = c.loop-i.places.items in
    sym (append-nil items)
    ∙ ap (λ xs. items ++ unsent_from streams c.args.pid (take i es) xs)
    (sym (none_left es i c.loop-i-test.false))
    ∙ c.loop-i.invariant streams are
