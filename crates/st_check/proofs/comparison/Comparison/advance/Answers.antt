-- The actor is listed, since the act has a step. Either the act reports another event, or the
-- counts, the tags and the pairs take it.
use Rattle.std.proofs.Common.{ℕ, List, ◌++◌, Option, sym, ◌∙◌, ap, arith}
use Rattle.std.proofs.lemmas.Bool.{false≢true}
use Rattle.std.proofs.lemmas.Option.{slice_get_within}
use Rattle.st_arena.specs.Arena.{Arena}
use Rattle.st_core.specs.Run.{pids_of}
use Rattle.st_world.specs.World.{outcome_to}
use Rattle.st_check.specs.Progress.{pair_to}
use Rattle.st_check.proofs.NextActs.{listed_at, differs_at, passed_at}
use Rattle.st_check.proofs.comparison.Comparison.advance.Goals as goal

pub returns-in_default : goal.returns-in_default
returns-in_default c = λ top acts old new number passed steps.
    let kept = c.args.self.now in
    absurd (listed_at top c.args.streams.now acts c.args.number c.args.act.now old kept.counts.items
    kept.tags.lists
    kept.pairs number passed (outcome_to c.args.outcome.now new) steps c.actor-me.result
    c.actor-me.ensures
    c.in_default.ensures.missing)

pub count-requires : goal.count-requires
count-requires c =
    let same = c.requires.counts in
    let within = slice_get_within (pids_of c.args.streams.now) c.in-Some.place c.actor-me.result
    c.in-Some.ensures.found in
    omega arith

pub returns-then-not-count : goal.returns-then-not-count
returns-then-not-count c = λ top acts old new number passed steps.
    let kept = c.args.self.now in
    differs_at top c.args.streams.now acts c.args.number c.args.act.now old kept.counts.items
    kept.tags.lists
    kept.pairs number passed (outcome_to c.args.outcome.now new) steps c.actor-me.result
    c.in-Some.place
    c.events.result.now c.events.ensures.streams.draft.rising c.actor-me.ensures
    c.in-Some.ensures.found
    c.events.ensures.value
    (λ next. false≢true (sym c.if-not-count.true ∙ c.count.ensures.next.1 next))

pub returns : goal.returns
returns c = λ top acts old new number passed steps.
    let kept = c.args.self.now in
    let counted = c.if-not-count.ensures in
    passed_at top c.args.streams.now acts c.args.number c.args.act.now old kept.counts.items
    kept.tags.lists
    kept.pairs number passed (outcome_to c.args.outcome.now new) steps c.actor-me.result
    c.in-Some.place
    c.events.result.now c.events.ensures.streams.draft.rising c.actor-me.ensures
    c.in-Some.ensures.found
    c.events.ensures.value
    c.count.new.self.counts.items c.retag.new.tags.lists c.pair.new.pairs c.in_ok-sent.sent
    (c.count.ensures.next.0 c.if-not-count.false)
    (c.count.ensures.counts c.if-not-count.false)
    (λ t had. c.in_ok-sent.ensures.tags t (ap (λ (x : Arena ℕ). x.lists) counted.tags ∙ had))
    (λ t had. c.in_ok-sent.ensures.pair t (ap (λ (x : Arena ℕ). x.lists) counted.tags ∙ had))
    (c.in_ok-pair.ensures ∙ ap (λ (xs : List (ℕ × ℕ)). xs ++ pair_to c.args.number c.and.result)
    counted.pairs
    ∙ ap (λ (x : Option ℕ). kept.pairs ++ pair_to c.args.number x) c.and.ensures)
