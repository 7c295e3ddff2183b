-- Each stream's links take the place of what its events were paired with before.
use Rattle.std.proofs.Common.{◌∙◌, ap, sym}
use Rattle.std.proofs.lemmas.Option.{get_or_from_slice_get}
use Rattle.st_pair.specs.Links.{links_in}
use Rattle.st_pair.specs.Pairing.{mismatch}
use Rattle.st_pair.specs.Places.{first_from}
use Rattle.st_pair.specs.Tables.{links_back}
use Rattle.st_pair.proofs.Firsts.{first-given, first-passed}
use Rattle.st_pair.proofs.BackLinks.{exchanged, still}
use Rattle.st_pair.proofs.StreamTables.{stream_here}
use Rattle.st_pair.proofs.Received.{first_fault}
use Rattle.st_pair.proofs.pairing.links_of.Goals as goal

pub fill_in-requires-clause-links : goal.fill_in-requires-clause-links
fill_in-requires-clause-links c =
    let streams = c.args.streams.now in
    let lists = c.loop-place.links.items in
    let k = c.loop-place.place in
    let made = stream_here streams c.pids-pids.result.now k _ _
    c.pids-pids.ensures.streams.draft.rising c.pids-pids.ensures.value c.loop-place-test.true
    c.events-events.ensures.value in
    let there = still (links_in streams) (links_back streams) streams k _ lists made
    c.loop-place.invariant.links in
    c.index_mut.ensures.value ∙ get_or_from_slice_get lists k _ c.index_mut.result.now there

pub returns-in-Some-clause-err : goal.returns-in-Some-clause-err
returns-in-Some-clause-err c =
    let streams = c.args.streams.now in
    first_fault _ c.in-Some.fault (sym (first-given (mismatch streams) streams
    c.pids-pids.ensures.streams.draft.rising _ _ _ c.in-Some.fault c.pids-pids.ensures.value
    c.loop-place-test.true
    (c.in-Some.ensures.fault ∙ ap (first_from (mismatch streams) _ 0) c.events-events.ensures.value)
    c.loop-place.invariant.matched))

pub loop-place-preserved : goal.loop-place-preserved
loop-place-preserved c =
    let streams = c.args.streams.now in
    let lists = c.loop-place.links.items in
    let k = c.loop-place.place in
    let rising = c.pids-pids.ensures.streams.draft.rising in
    let are = c.pids-pids.ensures.value in
    let within = c.loop-place-test.true in
    let events = c.events-events.ensures.value in
    let made = stream_here streams c.pids-pids.result.now k _ _ rising are within events in
    record {
      links = exchanged (links_in streams) (links_back streams) streams k _ _ lists made
          (c.fill_in.ensures.links c.in_default.is) c.loop-place.invariant.links;
      matched = first-passed (mismatch streams) streams rising _ _ _ are within
          (sym c.in_default.is ∙ c.fill_in.ensures.fault ∙ ap (first_from (mismatch streams) _ 0)
          events)
          c.loop-place.invariant.matched;
    }
