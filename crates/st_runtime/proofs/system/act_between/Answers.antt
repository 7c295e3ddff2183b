-- The locks held the sender and the receiver, so the act is a send between them.
use Rattle.std.proofs.Common.{arith, ◌≡◌, ◌∙◌, refl, sym, [], ◌∷◌}
use Rattle.st_core.specs.Step.{actor, receiver}
use Rattle.st_runtime.proofs.PidLemmas.{apart_if, same_unless}
use Rattle.st_runtime.proofs.ActLemmas.{between_at}
use Rattle.st_runtime.proofs.LentLemmas.{held_step, held_stray}
use Rattle.st_runtime.proofs.system.act_between.Goals as goal

pub between-requires : goal.between-requires
between-requires g c =
    let from = same_unless c.pid.result c.actor.result (sym c.ne.ensures ∙ c.if-ne.false) in
    let to = same_unless c.pid-2.result c.receiver_of.result
    (sym c.ne-2.ensures ∙ c.if-ne-2.false) in (
      omega arith,
      between_at c.args.act.now c.args.from.now.process.pid c.args.to.now.process.pid
          c.requires.apart
          (sym c.pid.ensures ∙ from ∙ c.actor.ensures)
          (sym c.pid-2.ensures ∙ to ∙ c.receiver_of.ensures),
    )

pub returns-then-ne-clause-step : goal.returns-then-ne-clause-step
returns-then-ne-clause-step g c =
    let held = c.args.from.now ∷ c.args.to.now ∷ [] in
    held_stray g.row.TOP g.row.RANKS c.args.act.now _ held held
    (λ both. apart_if c.pid.result c.actor.result (sym c.ne.ensures ∙ c.if-ne.true)
    (c.pid.ensures ∙ both.0 ∙ sym c.actor.ensures))
    (record { process = refl; log = refl }, (record { process = refl; log = refl }, tt))

pub returns-then-ne-2-clause-step : goal.returns-then-ne-2-clause-step
returns-then-ne-2-clause-step g c =
    let held = c.args.from.now ∷ c.args.to.now ∷ [] in
    held_stray g.row.TOP g.row.RANKS c.args.act.now _ held held
    (λ both. apart_if c.pid-2.result c.receiver_of.result (sym c.ne-2.ensures ∙ c.if-ne-2.true)
    (c.pid-2.ensures ∙ both.1 ∙ sym c.receiver_of.ensures))
    (record { process = refl; log = refl }, (record { process = refl; log = refl }, tt))

pub returns-clause-step : goal.returns-clause-step
returns-clause-step g c =
    let from : c.args.from.now.process.pid ≡ actor c.args.act.now = sym c.pid.ensures
    ∙ same_unless c.pid.result c.actor.result (sym c.ne.ensures ∙ c.if-ne.false)
    ∙ c.actor.ensures in
    let to : c.args.to.now.process.pid ≡ receiver c.args.act.now = sym c.pid-2.ensures
    ∙ same_unless c.pid-2.result c.receiver_of.result (sym c.ne-2.ensures ∙ c.if-ne-2.false)
    ∙ c.receiver_of.ensures in
    held_step g.row.TOP g.row.RANKS c.args.act.now _ (c.args.from.now ∷ c.args.to.now ∷ [])
    (c.between.new.from ∷ c.between.new.to ∷ []) c.between.result c.act_result.result (from, to)
    c.between.ensures.step
    (record {
      ok = c.act_result.ensures.ok;
      err = c.act_result.ensures.err;
      clock = c.act_result.ensures.clock;
      rank = c.act_result.ensures.rank;
    })
