-- In plain streams the first acts run and each item goes through, so the construction halts only
-- because memory ran out, and at the end the told events are shown.
use Rattle.std.proofs.Common.{◌≡◌, [], get_or, rules, arith, sym, subst}
use Rattle.std.proofs.lemmas.Option.{slice_get-get_or}
use Rattle.st_core.specs.Laws.{NoReset}
use Rattle.st_core.specs.Run.{Shows}
use Rattle.st_plan.specs.Marks.{told_parts}
use Rattle.st_audit.specs.declared.construction.Halt.TheVariants as halt
use Rattle.st_audit.proofs.PlainItems.{goes_track, item_goes, memory_alone}
use Rattle.st_audit.proofs.Track.{tracers_begin, none, on_track, opening_memory, track_shows}
use Rattle.st_audit.proofs.Track.{IsOnTrack}
use Rattle.st_audit.proofs.building.build.Goals as goal

pub returns-in-Err : goal.returns-in-Err
returns-in-Err g c = λ plain.
    let same : c.in-Err.field-0 ≡ halt.Memory =
    opening_memory c.args.streams.now c.args.pids.now c.requires.pids c.in-Ok.construction
    c.open.new.self
    c.in-Ok.ensures.world c.in-Err.field-0 c.in-Err.ensures.exact in
    search rules

pub loop-number-init : goal.loop-number-init
loop-number-init g c =
    let top = g.row.TOP in
    let streams = c.args.streams.now in
    let marks = g.M.Tells.marks c.args.marks.now in
    let now = c.open.new.self in
    let b = tracers_begin streams c.args.pids.now c.requires.pids c.in-Ok.construction now
    c.in-Ok.ensures.world
    c.in-Ok.ensures.acts c.in-Ok-open.ensures.exact in
    record {
      so_far = c.in-Ok-open.ensures.so_far streams c.in-Ok.ensures.so_far;
      track = λ plain. subst (IsOnTrack top streams marks [] now.world) (sym b.put)
          (on_track top streams marks now.world b.outcomes b.runs b.after);
      matched = c.in-Ok-open.ensures.matched;
    }

pub loop-number-preserved : goal.loop-number-preserved
loop-number-preserved g c =
    let given = c.requires.prepared in
    let top = g.row.TOP in
    let streams = c.args.streams.now in
    let marks = g.M.Tells.marks c.args.marks.now in
    let xs = c.args.items.now in
    let n = c.loop-number.number in
    let old = c.loop-number.construction in
    record {
      so_far = c.in-Ok-append.ensures.so_far;
      track = λ plain.
          let track = c.loop-number.invariant.track plain in
          let at = slice_get-get_or xs n none c.loop-number-test.true in
          let x = get_or xs n none in
          let m = item_goes top streams marks given.are_streams plain xs given.order n x at
          old.world old.acts
          track in
          goes_track top streams marks given.are_streams plain xs given.order n x at old track
          c.append.new.self
          (c.in-Ok-append.ensures.exact x m.event at m.there);
      matched = c.in-Ok-append.ensures.matched;
    }

pub returns-in-Err-Uncaused : goal.returns-in-Err-Uncaused
returns-in-Err-Uncaused g c = λ plain.
    let given = c.requires.prepared in
    let same = memory_alone c.loop-number.construction c.append.new.self given.are_streams
    given.order plain
    (c.loop-number.invariant.track plain) c.loop-number-test.true c.in-Err-Uncaused.ensures.exact in
    let is = c.in-Err-Uncaused.field-0-is in
    absurd (cc)

pub returns-in-Err-TooWide : goal.returns-in-Err-TooWide
returns-in-Err-TooWide g c = λ plain.
    let given = c.requires.prepared in
    let same = memory_alone c.loop-number.construction c.append.new.self given.are_streams
    given.order plain
    (c.loop-number.invariant.track plain) c.loop-number-test.true c.in-Err-TooWide.ensures.exact in
    let is = c.in-Err-TooWide.field-0-is in
    absurd (cc)

pub returns-in-Err-Stopped : goal.returns-in-Err-Stopped
returns-in-Err-Stopped g c = λ plain.
    let given = c.requires.prepared in
    let same = memory_alone c.loop-number.construction c.append.new.self given.are_streams
    given.order plain
    (c.loop-number.invariant.track plain) c.loop-number-test.true c.in-Err-Stopped.ensures.exact in
    let is = c.in-Err-Stopped.field-0-is in
    absurd (cc)

pub returns : goal.returns
returns g c = λ plain.
    let given = c.requires.prepared in
    let top = g.row.TOP in
    let streams = c.args.streams.now in
    let marks = g.M.Tells.marks c.args.marks.now in
    let xs = c.args.items.now in
    let n = c.loop-number.number in
    let now = c.loop-number.construction in
    let track = c.loop-number.invariant.track plain in
    let same = sym c.into_acts.ensures in (
      subst (Shows top (told_parts marks streams)) same
          (track_shows top streams marks given.are_streams plain.settled xs given.order n now.world
          now.acts
          (omega arith) track),
      subst NoReset same track.one_trace,
    )
