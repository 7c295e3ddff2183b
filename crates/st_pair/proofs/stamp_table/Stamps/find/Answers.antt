-- The rows at a process's place are those of its events, and the row with a count is its send or
-- print with it.
use Rattle.std.proofs.Common.{◌∙◌, ap, arith}
use Rattle.std.proofs.lemmas.Option.{get_or_from_slice_get, slice_get_within}
use Rattle.st_core.specs.Streams.{events_of}
use Rattle.st_pair.proofs.StampRows.{index_in, no_stamp, place_rows, row_index, row_of, rows_rise}
use Rattle.st_pair.proofs.stamp_table.Stamps.find.Goals as goal

pub returns-in_default-clause-found : goal.returns-in_default-clause-found
returns-in_default-clause-found c =
    no_stamp c.args.streams.now c.args.from c.args.this c.in_default.ensures.missing

pub index-requires : goal.index-requires
index-requires c =
    let are = rw (← c.self.view_is) at c.requires in
    let within = slice_get_within c.self.inside.rows.items c.in-Some.place _
    (place_rows c.args.streams.now c.self.inside.rows.items c.in-Some.place c.args.from are
    c.in-Some.ensures.found) in
    omega (arith, within, c.self.inside.rows.ok.0)

pub find_row-requires : goal.find_row-requires
find_row-requires c =
    let are = rw (← c.self.view_is) at c.requires in
    let at = place_rows c.args.streams.now c.self.inside.rows.items c.in-Some.place c.args.from are
    c.in-Some.ensures.found in
    let rows = c.as_slice.ensures ∙ c.index.ensures ∙ get_or_from_slice_get c.self.inside.rows.items
    c.in-Some.place
    _ c.index.result.now at in
    rw rows (rows_rise c.args.streams.now c.args.from are.counts)

pub returns-in_default-find_row-clause-found : goal.returns-in_default-find_row-clause-found
returns-in_default-find_row-clause-found c =
    let are = rw (← c.self.view_is) at c.requires in
    let at = place_rows c.args.streams.now c.self.inside.rows.items c.in-Some.place c.args.from are
    c.in-Some.ensures.found in
    let rows = c.as_slice.ensures ∙ c.index.ensures ∙ get_or_from_slice_get c.self.inside.rows.items
    c.in-Some.place
    _ c.index.result.now at in
    ap index_in (c.in_default-find_row.ensures ∙ ap (row_of c.args.this) rows)
    ∙ row_index c.args.from c.args.this 0 (events_of c.args.streams.now c.args.from)

pub returns-clause-found : goal.returns-clause-found
returns-clause-found c =
    let are = rw (← c.self.view_is) at c.requires in
    let at = place_rows c.args.streams.now c.self.inside.rows.items c.in-Some.place c.args.from are
    c.in-Some.ensures.found in
    let rows = c.as_slice.ensures ∙ c.index.ensures ∙ get_or_from_slice_get c.self.inside.rows.items
    c.in-Some.place
    _ c.index.result.now at in
    ap index_in (c.in-Some-find_row.ensures ∙ ap (row_of c.args.this) rows)
    ∙ row_index c.args.from c.args.this 0 (events_of c.args.streams.now c.args.from)
