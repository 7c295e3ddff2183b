-- The list of one process more comes last.
use Rattle.std.proofs.Common.{◌≡◌, ◌+◌, get_or, length, Some, inl, inr, sym, ◌∙◌, ap, subst}
use Rattle.std.specs.List.{slice_get}
use Rattle.std.proofs.lemmas.Option.{same_Some}
use Rattle.st_core.specs.declared.types.Pid.{Pid}
use Rattle.st_core.specs.Run.{pids_of}
use Rattle.st_core.specs.Streams.{events_of}
use Rattle.node_streams.specs.Tables.{AreByContent, ends_from}
use Rattle.node_streams.proofs.SortedEnds.{got_more, length_more}
use Rattle.node_streams.proofs.ends.all_ends.Goals as goal
use Rattle.st_pair.proofs.ForCallers.{at_get_or}

pub loop-pid-preserved : goal.loop-pid-preserved
loop-pid-preserved c =
    let streams = c.args.streams.now in
    let n = c.loop-pid.pid-index in
    let none : Pid = record { node = 0; number = 0 } in
    let last = get_or c.pids-pid-items.result.now n none in
    let at_n = subst (λ ps. slice_get ps n ≡ Some last) c.pids-pid-items.ensures.value
    (at_get_or c.pids-pid-items.result.now n none c.loop-pid-test.true) in
    let old = c.loop-pid.lists.items in
    let so_far = c.loop-pid.invariant in
    let list = c.from_vec.result in
    record {
      each = ap length c.in_ok-push.ensures.items ∙ length_more old list
          ∙ ap (λ m. m + 1) so_far.each;
      sorted = λ i p v at_i got. elim (got_more old list v i
          (ap (λ xs. slice_get xs i) (sym c.in_ok-push.ensures.items) ∙ got)) [
            | inl before ↦ so_far.sorted i p v at_i before
            | inr new ↦
                let whose : last ≡ p = same_Some last p (sym at_n
                ∙ ap (slice_get (pids_of streams)) (sym (new.0 ∙ so_far.each)) ∙ at_i) in
                subst (λ q. AreByContent (ends_from c.args.kind 0 (events_of streams q)) v) whose
                (subst (λ es. AreByContent (ends_from c.args.kind 0 es) v) c.events.ensures.value
                (subst (AreByContent (ends_from c.args.kind 0 c.events.result.now))
                (sym c.from_vec.ensures ∙ new.1) c.in_ok-list.ensures))
          ];
    }
