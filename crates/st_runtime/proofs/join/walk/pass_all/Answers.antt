-- An act of a whole node has no other receiver than its actor.
use Rattle.std.proofs.Common.{◌≡◌, ◌∙◌, true, sym, ap}
use Rattle.st_core.specs.Step.{actor}
use Rattle.st_core.specs.Streams.{is_among}
use Rattle.st_core.proofs.ForCallers.{both_true, is_among-found}
use Rattle.st_log.specs.Entries.{entry_at, is_wide}
use Rattle.st_runtime.proofs.Wholeness.{wide_receiver}
use Rattle.st_runtime.proofs.join.walk.pass_all.Goals as goal

pub returns-then-is_wide_at-clause-known : goal.returns-then-is_wide_at-clause-known
returns-then-is_wide_at-clause-known c sure =
    let pids = c.args.pids.now in
    let a = (entry_at c.args.log.now.entries c.args.place).act in
    let wide : is_wide a ≡ true = sym c.is_wide_at.ensures ∙ c.if-is_wide_at.true in
    let here : is_among pids (actor a) ≡ true =
    is_among-found pids (actor a) c.args.me c.requires.me in
    both_true _ _ here (ap (is_among pids) (wide_receiver a wide) ∙ here)
