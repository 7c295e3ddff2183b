-- The command that is asked for is that of the subcommand that `clap` entered.
use Rattle.std.proofs.Common.{ap, map, sym, ◌∙◌}
use Rattle.std.specs.Prelude.{option_and_then}
use Rattle.st_commands.specs.Words.{task_of}
use Rattle.st_commands.proofs.Subcommands.{asked_by, free, named_rows, ok_task, refusal_by}
use Rattle.st_commands.proofs.words.read_words.Goals as goal

pub returns-in-Some-clause-task : goal.returns-in-Some-clause-task
returns-in-Some-clause-task g c =
    let words = map g.S.AsStr.text c.args.words.now in
    let same = c.in-Ok.ensures in
    let parsed = c.in-Ok-try_get_matches_from.ensures in
    let entered = named_rows _ _ _ c.in-Some.ensures.name c.in-Some.ensures.rows in
    let asked = asked_by words _ same _ (parsed.kinds (free words _ same)) parsed.matches
    ∙ ap (option_and_then (λ p. task_of p.0 p.1)) entered in
    ok_task words _ _ c.ok_or.result c.ok_or.ensures.value (asked ∙ sym c.task_of.ensures)

pub returns-clause-refusal : goal.returns-clause-refusal
returns-clause-refusal g c =
    let words = map g.S.AsStr.text c.args.words.now in
    let same = c.in-Ok.ensures in
    refusal_by words _ same c.in-Err.error _ c.why_refused.ensures
    (c.in-Err.ensures.kinds (free words _ same))
