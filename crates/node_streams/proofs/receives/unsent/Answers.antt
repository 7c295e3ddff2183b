-- The places of one process more come last.
use Rattle.std.proofs.Common.{◌≡◌, ◌+◌, suc, get_or, drop, [], ◌∷◌, ◌++◌, Some, append_assoc, arith}
use Rattle.std.proofs.Common.{sym, ◌∙◌, ap, subst}
use Rattle.std.specs.List.{slice_get}
use Rattle.st_core.specs.declared.types.Pid.{Pid}
use Rattle.st_core.specs.Run.{pids_of}
use Rattle.node_streams.specs.Messages.{taken_sends, unsent_among, unsent_from}
use Rattle.node_streams.proofs.Unsents.{first_left}
use Rattle.node_streams.proofs.receives.unsent.Goals as goal
use Rattle.st_pair.proofs.ForCallers.{at_get_or}

pub loop-place-preserved : goal.loop-place-preserved
loop-place-preserved c =
    let streams = c.args.streams.now in
    let pids = pids_of streams in
    let n = c.loop-place.place in
    let blank : Pid = record { node = 0; number = 0 } in
    let p = get_or c.pids-pid-items.result.now n blank in
    let at_n = subst (λ ps. slice_get ps n ≡ Some p) c.pids-pid-items.ensures.value
    (at_get_or c.pids-pid-items.result.now n blank c.loop-place-test.true) in
    let taken = c.taken_of.ensures streams p c.pids-pid-items.ensures.streams.draft.rising
    c.requires.taken at_n ∙ ap (taken_sends streams) (sym c.events.ensures.value) in
    let old = c.loop-place.places.items in
    let next : n + 1 ≡ suc n = omega arith in
    ap (λ xs. xs ++ unsent_among streams (drop (n + 1) pids))
    (c.in_ok-add_unsent.ensures streams taken)
    ∙ append_assoc old (unsent_from streams p [] c.events.result.now)
    (unsent_among streams (drop (n + 1) pids))
    ∙ ap (λ es. old ++ (unsent_from streams p [] es ++ unsent_among streams (drop (n + 1) pids)))
    c.events.ensures.value
    ∙ ap (λ m. old ++ unsent_among streams (p ∷ drop m pids)) next
    ∙ ap (λ ps. old ++ unsent_among streams ps) (sym (first_left pids n p at_n))
    ∙ c.loop-place.invariant
