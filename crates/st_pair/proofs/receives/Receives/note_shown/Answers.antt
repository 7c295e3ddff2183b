-- The first receive from an event is noted there, under no other key than its own.
use Rattle.std.proofs.Common.{◌≡◌, ◌<◌, [], ap, get_or, length, List, None, Some, subst, sym}
use Rattle.std.proofs.Common.{slice_set, ◌∙◌, rules}
use Rattle.std.proofs.lemmas.List.{get_or_default}
use Rattle.indexmap.specs.IndexMap.{get}
use Rattle.st_pair.specs.Places.{or_else}
use Rattle.st_pair.specs.Tables.{key_eq, mark_of, place_for}
use Rattle.st_pair.proofs.Marks.{given, mark_read, mark_within, noted_again, noted_at, Mark}
use Rattle.st_pair.proofs.receives.Receives.note_shown.Goals as goal

pub returns-in-Some-clause-first : goal.returns-in-Some-clause-first
returns-in-Some-clause-first c =
    let lists = c.args.self.now.shown.items in
    let marked = mark_read c.args.streams.now lists c.args.key c.args.mark.process c.args.mark.index
    c.requires.rising
    c.requires.process c.requires.index ∙ c.requires.first in
    let hidden = get key_eq c.args.self.now.hidden c.args.key in
    sym (ap (λ o. or_else (given o hidden) (Some c.args.place)) marked
    ∙ ap (λ (o : Mark). or_else o (Some c.args.place)) c.in-Some.is)

pub returns-in-Some-clause-noted : goal.returns-in-Some-clause-noted
returns-in-Some-clause-noted c = λ same.
    let lists = c.args.self.now.shown.items in
    let marked = mark_read c.args.streams.now lists c.args.key c.args.mark.process c.args.mark.index
    c.requires.rising
    c.requires.process c.requires.index ∙ c.requires.first in
    let hidden = get key_eq c.args.self.now.hidden c.args.key in
    noted_again (place_for c.args.streams.now c.args.self.now) c.args.key c.args.place
    (ap (λ o. given o hidden) marked ∙ c.in-Some.is ∙ ap Some same)

pub returns-in-None-clause-first : goal.returns-in-None-clause-first
returns-in-None-clause-first c =
    let lists = c.args.self.now.shown.items in
    let marked = mark_read c.args.streams.now lists c.args.key c.args.mark.process c.args.mark.index
    c.requires.rising
    c.requires.process c.requires.index ∙ c.requires.first in
    let hidden = get key_eq c.args.self.now.hidden c.args.key in
    sym (ap (λ o. or_else (given o hidden) (Some c.args.place)) marked
    ∙ ap (λ (o : Mark). or_else o (Some c.args.place)) c.in-None.is)

pub index_mut-requires : goal.index_mut-requires
index_mut-requires c =
    let bounds = mark_within c.args.self.now.shown.items c.args.mark.process c.args.mark.index
    c.args.mark.first
    c.requires.first in
    let within : c.args.mark.process < length c.args.self.now.shown.items = bounds.0 in
    search rules

pub put-requires : goal.put-requires
put-requires c =
    let lists = c.args.self.now.shown.items in
    let n = c.args.mark.process in
    let bounds = mark_within lists n c.args.mark.index c.args.mark.first c.requires.first in
    let marks = c.index_mut.result.now in
    let same : marks ≡ get_or lists n [] =
    c.index_mut.ensures.value ∙ get_or_default lists n marks [] bounds.0 in
    subst (λ (l : List Mark). c.args.mark.index < length l) (sym same) bounds.1

pub returns-in-None-clause-noted : goal.returns-in-None-clause-noted
returns-in-None-clause-noted c = λ first k.
    let lists = c.args.self.now.shown.items in
    let n = c.args.mark.process in
    let i = c.args.mark.index in
    let hidden = get key_eq c.args.self.now.hidden in
    let free = c.requires.first ∙ ap Some c.in-None.is in
    let bounds = mark_within lists n i None free in
    let marks = c.index_mut.result.now in
    let same : marks ≡ get_or lists n [] =
    c.index_mut.ensures.value ∙ get_or_default lists n marks [] bounds.0 in
    let put = c.put.ensures ∙ ap (λ (l : List Mark). slice_set l i (Some c.args.place)) same in
    ap (λ (l : List Mark). given (mark_of c.args.streams.now (slice_set lists n l) k) (hidden k))
    put
    ∙ noted_at c.args.streams.now lists hidden c.args.key n i c.args.place c.requires.rising
    c.requires.process
    c.requires.index free k
