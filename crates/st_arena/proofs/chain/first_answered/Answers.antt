-- The node under the key holds the item at the place, so `pred` answers for that item.
use Rattle.std.proofs.Common.{refl, ◌-◌, ◌+◌, arith, below_more}
use Rattle.slab.specs.Slab.{get}
use Rattle.st_arena.specs.Chain.{values_of}
use Rattle.st_arena.proofs.ChainLemmas.{left_there, left_step}
use Rattle.st_arena.proofs.chain.first_answered.Goals as goal

pub index-node-requires : goal.index-node-requires
index-node-requires g c =
    left_there (get c.args.nodes.now) (values_of (get c.args.nodes.now) c.args.ends)
    c.loop-place.place
    (omega (arith, c.requires.whole))
    (c.args.ends.len - c.loop-place.place) c.loop-place.key c.loop-place.invariant.0

pub returns-then-pred-clause-found : goal.returns-then-pred-clause-found
returns-then-pred-clause-found g c =
    let step =
    left_step (get c.args.nodes.now) (values_of (get c.args.nodes.now) c.args.ends)
    c.loop-place.place
    (omega (arith, c.requires.whole)) (c.args.ends.len - c.loop-place.place)
    (c.args.ends.len - (c.loop-place.place + 1)) c.loop-place.key c.index-node.result.now
    c.index-node.ensures
    c.loop-place.invariant.0 (omega arith) in
    record {
      found =
          record {
            item = c.index-node.result.now.value;
            is_there = step.1;
            answered = record {
              shown = _;
              shows = refl;
              says =
                  record { met = c.if-pred.ensures };
            };
          };
      before = c.loop-place.invariant.1;
    }

pub loop-place-preserved : goal.loop-place-preserved
loop-place-preserved g c =
    let step =
    left_step (get c.args.nodes.now) (values_of (get c.args.nodes.now) c.args.ends)
    c.loop-place.place
    (omega (arith, c.requires.whole)) (c.args.ends.len - c.loop-place.place)
    (c.args.ends.len - (c.loop-place.place + 1)) c.loop-place.key c.index-node.result.now
    c.index-node.ensures
    c.loop-place.invariant.0 (omega arith) in (
      step.0,
      below_more _ _ c.loop-place.invariant.1
          (record {
            item = c.index-node.result.now.value;
            is_there = step.1;
            answered = record {
              shown = _;
              shows = refl;
              says =
                  record { met = c.if-pred.ensures };
            };
          }),
    )
