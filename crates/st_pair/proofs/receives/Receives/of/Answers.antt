-- A process's receives go after those of the processes before it, so that the first one with a key
-- stays first.
use Rattle.std.proofs.Common.{◌∙◌, ap, sym, rules, IfErr}
use Rattle.st_pair.specs.Pairing.{repeated}
use Rattle.st_pair.specs.Places.{first_from}
use Rattle.st_pair.specs.Rules.{IsFirstFault}
use Rattle.st_pair.specs.Tables.{links_back, place_for, receive_rule}
use Rattle.st_pair.proofs.Firsts.{first-given, first-passed, table-passed}
use Rattle.st_pair.proofs.StreamTables.{read_made, stream_here}
use Rattle.st_pair.proofs.Received.{all_with, err_along}
use Rattle.st_pair.proofs.receives.Receives.of.Goals as goal

pub note_receives-requires-clause-links : goal.note_receives-requires-clause-links
note_receives-requires-clause-links c =
    let streams = c.args.streams.now in
    let made = stream_here streams c.pids-pids.result.now c.loop-place.place _ _
    c.pids-pids.ensures.streams.draft.rising
    c.pids-pids.ensures.value c.loop-place-test.true c.events.ensures.value in
    c.as_slice-own.ensures ∙ c.index-links-place.is
    ∙ read_made (links_back streams) streams c.loop-place.place _ _ c.args.links.now c.requires made

pub returns-in_err-note_receives-clause-fault : goal.returns-in_err-note_receives-clause-fault
returns-in_err-note_receives-clause-fault c =
    let streams = c.args.streams.now in
    let rising = c.pids-pids.ensures.streams.draft.rising in
    let are = c.pids-pids.ensures.value in
    let within = c.loop-place-test.true in
    let events = c.events.ensures.value in
    let all = all_with streams rising _ _ _ _ (place_for streams c.loop-place.receives) are within
    events
    c.loop-place.invariant.table in
    let given = c.in_err-note_receives.ensures.fault _ all in
    let here : IfErr c.from_residual.result
    (IsFirstFault (first_from (repeated streams) _ 0 c.events.result.now)) =
    search (given, rules) in
    err_along c.from_residual.result _ _
    (λ g h. sym (first-given (repeated streams) streams rising _ _ _ g are
    within (sym h ∙ ap (first_from (repeated streams) _ 0) events) c.loop-place.invariant.once))
    here

pub loop-place-preserved : goal.loop-place-preserved
loop-place-preserved c =
    let streams = c.args.streams.now in
    let rising = c.pids-pids.ensures.streams.draft.rising in
    let are = c.pids-pids.ensures.value in
    let within = c.loop-place-test.true in
    let events = c.events.ensures.value in
    let all = all_with streams rising _ _ _ _ (place_for streams c.loop-place.receives) are within
    events
    c.loop-place.invariant.table in
    record {
      table = λ k. table-passed (receive_rule k) streams rising _ _ _ _ _ _ are within events
          (c.in_ok-note_receives.ensures.noted k) (c.loop-place.invariant.table k);
      once = first-passed (repeated streams) streams rising _ _ _ are within
          (sym (c.in_ok-note_receives.ensures.once _ all) ∙ ap (first_from (repeated streams) _ 0)
          events)
          c.loop-place.invariant.once;
    }
