-- A new key joins the map, and for a key that is there the place of its first receive is returned.
use Rattle.std.proofs.Common.{inl, inr, sym, ◌∙◌, ap, Some}
use Rattle.indexmap.specs.IndexMap.{get}
use Rattle.st_pair.specs.Places.{or_else}
use Rattle.st_pair.specs.Tables.{key_eq}
use Rattle.st_pair.proofs.Marks.{given, noted_hidden, Mark}
use Rattle.st_pair.proofs.receives.Receives.note_hidden.Goals as goal

pub returns-in-Ok-None-clause-first : goal.returns-in-Ok-None-clause-first
returns-in-Ok-None-clause-first c =
    let hidden = get key_eq c.args.self.now.hidden c.args.key in
    let none = sym c.in-Ok-None.ensures.old ∙ c.in-Ok-None.field-0-is in
    sym (ap (λ o. or_else (given o hidden) (Some c.args.place)) c.requires
    ∙ ap (λ (o : Mark). or_else o (Some c.args.place)) none)

pub returns-in-Ok-None-clause-noted : goal.returns-in-Ok-None-clause-noted
returns-in-Ok-None-clause-noted c = λ same.
    noted_hidden c.args.streams.now c.args.self.now.shown.items (get key_eq c.args.self.now.hidden)
    _ c.args.key
    c.args.place c.requires c.in-Ok-None.ensures.updates.0
    (inl (sym c.in-Ok-None.ensures.old ∙ c.in-Ok-None.field-0-is))

pub returns-in-Ok-Some-clause-first : goal.returns-in-Ok-Some-clause-first
returns-in-Ok-Some-clause-first c =
    let hidden = get key_eq c.args.self.now.hidden c.args.key in
    let there = sym c.in-Ok-Some.ensures.old ∙ c.in-Ok-Some.field-0-is in
    sym (ap (λ o. or_else (given o hidden) (Some c.args.place)) c.requires
    ∙ ap (λ (o : Mark). or_else o (Some c.args.place)) there)

pub returns-in-Ok-Some-clause-noted : goal.returns-in-Ok-Some-clause-noted
returns-in-Ok-Some-clause-noted c = λ same.
    noted_hidden c.args.streams.now c.args.self.now.shown.items (get key_eq c.args.self.now.hidden)
    _ c.args.key
    c.args.place c.requires c.in-Ok-Some.ensures.updates.0
    (inr (sym c.in-Ok-Some.ensures.old ∙ c.in-Ok-Some.field-0-is ∙ ap Some same))
