-- The act's result is that of the call on the lent process.
use Rattle.std.proofs.Common.{◌≡◌, ◌∙◌, refl, sym, [], ◌∷◌}
use Rattle.st_core.specs.Step.{actor}
use Rattle.st_runtime.proofs.LentLemmas.{held_step, held_stray}
use Rattle.st_runtime.proofs.PidLemmas.{apart_if, same_unless}
use Rattle.st_runtime.proofs.system.act_alone.Goals as goal

pub returns-then-ne-clause-step : goal.returns-then-ne-clause-step
returns-then-ne-clause-step g c =
    held_stray g.row.TOP g.row.RANKS c.args.act.now _ (c.args.pcb.now ∷ []) (c.args.pcb.now ∷ [])
    (λ mine. apart_if c.pid.result c.actor.result (sym c.ne.ensures ∙ c.if-ne.true)
    (c.pid.ensures ∙ mine ∙ sym c.actor.ensures))
    (record { process = refl; log = refl }, tt)

pub returns-clause-step : goal.returns-clause-step
returns-clause-step g c =
    let mine : c.args.pcb.now.process.pid ≡ actor c.args.act.now = sym c.pid.ensures
    ∙ same_unless c.pid.result c.actor.result (sym c.ne.ensures ∙ c.if-ne.false)
    ∙ c.actor.ensures in
    held_step g.row.TOP g.row.RANKS c.args.act.now _ (c.args.pcb.now ∷ []) (c.alone.new.self ∷ [])
    c.alone.result
    c.act_result.result mine c.alone.ensures.step
    (record {
      ok = c.act_result.ensures.ok;
      err = c.act_result.ensures.err;
      clock = c.act_result.ensures.clock;
      rank = c.act_result.ensures.rank;
    })
