-- Each entry adds its report to the end of the last stream, if it is the process's own and has one.
use Rattle.std.proofs.Common.{◌<◌, length, ◌∙◌, ap, arith}
use Rattle.std.proofs.lemmas.List.{get_or_default}
use Rattle.st_core.specs.Streams.{lists}
use Rattle.st_log.specs.Entries.{entry_at, no_entry}
use Rattle.st_runtime.proofs.Collecting.{own_at, lists_reported, filled_more}
use Rattle.st_runtime.proofs.join.collect.fill.Goals as goal

pub add_entry-requires-clause-own : goal.add_entry-requires-clause-own
add_entry-requires-clause-own c =
    let log = c.args.log.now.entries in
    let i = c.loop-place.place in
    let within : i < length log = omega (arith, c.loop-place-test.true, c.len-place-end.ensures) in
    own_at c.args.pid log i (entry_at log i) within
    (get_or_default log i no_entry (entry_at log i) within)
    c.requires.own

pub loop-place-preserved : goal.loop-place-preserved
loop-place-preserved c =
    let log = c.args.log.now.entries in
    let i = c.loop-place.place in
    let within : i < length log =
    omega (arith, c.loop-place-test.true, c.len-place-end.ensures) in (
      ap (λ d. lists d c.args.pid) c.in_ok-add_entry.ensures ∙ lists_reported c.loop-place.draft
          c.args.pid _
          ∙ c.loop-place.invariant.0,
      λ xs last start. filled_more xs c.args.pid log i (entry_at log i) c.loop-place.draft
          c.add_entry.new.draft within
          (get_or_default log i no_entry (entry_at log i) within) last
          (c.loop-place.invariant.1 xs last start) c.in_ok-add_entry.ensures,
    )
