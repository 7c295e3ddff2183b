-- Ranks rise, so that the entry is at the place that a search for its rank finds, or nowhere.
use Rattle.std.proofs.Common.{sym, ◌∙◌}
use Rattle.std.proofs.lemmas.List.{get_or_default}
use Rattle.st_runtime.proofs.Searching.{entry_found, entry_missing}
use Rattle.st_runtime.proofs.PartLemmas.{match_test}
use Rattle.st_runtime.proofs.join.whole.has_entry.Goals as goal

pub returns-in-Ok : goal.returns-in-Ok
returns-in-Ok c =
    let log = c.args.log.now.entries in
    let e = c.args.entry.now in
    let place = c.in-Ok.place in
    let found = c.in-Ok.ensures.position in
    match_test c.is_same_entry.result _ _
    (λ same. (
      place,
      c.in-Ok.ensures.range,
      get_or_default log place e c.at.result c.in-Ok.ensures.range ∙ sym c.at.ensures
          ∙ c.is_same_entry.ensures.0 same,
    ))
    (λ apart has.
    let is = entry_found log e place c.requires c.in-Ok.ensures.range found has in
    let here = c.at.ensures ∙ get_or_default log place c.at.result e c.in-Ok.ensures.range in
    let same = c.is_same_entry.ensures.1 (here ∙ is) in cc)

pub returns-in-Err : goal.returns-in-Err
returns-in-Err c =
    entry_missing c.args.log.now.entries c.args.entry.now c.in-Err.field-0 c.requires
    c.in-Err.ensures.position
