-- The two keys are those of the nodes at their places, so `pred` answers for the items there. When
-- the two searches meet, each item is answered.
use Rattle.std.proofs.Common.{◌≡◌, ◌∙◌, ◌+◌, ◌-◌, suc, inl, inr, refl, sym, ap, arith, below_more}
use Rattle.std.proofs.lemmas.Bool.{cases_lt}
use Rattle.slab.specs.Slab.{get}
use Rattle.st_arena.specs.Chain.{value_in, key_after, next_key, previous_key}
use Rattle.st_arena.proofs.ChainLemmas.{held_after, item_after, last_after, previous_after}
use Rattle.st_arena.proofs.chain.answered_from_ends.Goals as goal

pub loop-place-init : goal.loop-place-init
loop-place-init g c = (
  refl,
  λ k is. last_after _ _ c.requires.chained k (omega (arith, is)),
  λ k less. absurd (omega (arith, less)),
  λ k within past. absurd (omega (arith, within, past)),
)

pub index-near-requires : goal.index-near-requires
index-near-requires g c =
    rw c.loop-place.invariant.0 (held_after _ _ c.requires.chained c.loop-place.place (omega arith))

pub returns-then-pred-clause-found : goal.returns-then-pred-clause-found
returns-then-pred-clause-found g c =
    let slots = get c.args.nodes.now in
    record {
      item = c.index-near.result.now.value;
      is_there =
          item_after slots c.args.ends c.requires.chained c.loop-place.place (omega arith)
          ∙ ap (λ k. value_in (slots k)) (sym c.loop-place.invariant.0)
          ∙ ap value_in c.index-near.ensures;
      answered = record { shown = _; shows = refl; says = record { met = c.if-pred.ensures } };
    }

pub index-far-requires : goal.index-far-requires
index-far-requires g c =
    let k = c.args.ends.len - 1 - c.loop-place.place in
    rw (c.loop-place.invariant.1 k (omega arith))
    (held_after _ _ c.requires.chained k (omega arith))

pub returns-then-pred-2-clause-found : goal.returns-then-pred-2-clause-found
returns-then-pred-2-clause-found g c =
    let slots = get c.args.nodes.now in
    let k = c.args.ends.len - 1 - c.loop-place.place in
    record {
      item = c.index-far.result.now.value;
      is_there =
          item_after slots c.args.ends c.requires.chained k (omega arith)
          ∙ ap (λ x. value_in (slots x)) (sym (c.loop-place.invariant.1 k (omega arith)))
          ∙ ap value_in c.index-far.ensures;
      answered = record { shown = _; shows = refl; says = record { met = c.if-pred-2.ensures } };
    }

pub loop-place-preserved : goal.loop-place-preserved
loop-place-preserved g c =
    let slots = get c.args.nodes.now in
    let place = c.loop-place.place in
    let next : suc place ≡ place + 1 = omega arith in (
      sym (ap next_key c.index-near.ensures)
          ∙ ap (λ k. next_key (slots k)) c.loop-place.invariant.0
          ∙ ap (key_after slots c.args.ends.first) next,
      λ k is.
          sym (ap previous_key c.index-far.ensures)
          ∙ ap (λ x. previous_key (slots x)) (c.loop-place.invariant.1 (suc k) (omega (arith, is)))
          ∙ previous_after slots c.args.ends c.requires.chained k (omega (arith, is)),
      below_more _ _ c.loop-place.invariant.2
          (record {
            item = c.index-near.result.now.value;
            is_there =
                item_after slots c.args.ends c.requires.chained place (omega arith)
                ∙ ap (λ k. value_in (slots k)) (sym c.loop-place.invariant.0)
                ∙ ap value_in c.index-near.ensures;
            answered = record {
              shown = _;
              shows = refl;
              says =
                  record { met = c.if-pred.ensures };
            };
          }),
      λ k within past. elim (cases_lt (k + place) c.args.ends.len) [
        | inr beyond ↦ c.loop-place.invariant.3 k within (omega (arith, beyond))
        | inl here ↦ record {
          item = c.index-far.result.now.value;
          is_there =
              item_after slots c.args.ends c.requires.chained k within
              ∙ ap (λ x. value_in (slots x))
              (sym (c.loop-place.invariant.1 k (omega (arith, here, past))))
              ∙ ap value_in c.index-far.ensures;
          answered = record {
            shown = _;
            shows = refl;
            says =
                record { met = c.if-pred-2.ensures };
          };
        }
      ],
    )
