-- The number that was read is the label; if there is no number, no chart is asked for.
use Rattle.std.proofs.Common.{ap, codes, sym, ◌∙◌}
use Rattle.std.specs.Prelude.{option_map}
use Rattle.std.specs.Str.Parse.{ParsesUnsigned, ExplainsUnsignedError, HasUnsignedDigitsIfOk}
use Rattle.clap.specs.Words.{found_of}
use Rattle.st_commands.specs.declared.words.Task.TheVariants as task
use Rattle.st_commands.specs.Words.{label_numbered}
use Rattle.st_commands.proofs.Labels.{charts}
use Rattle.st_commands.proofs.words.chart_of.Goals as goal

pub returns-in-Some : goal.returns-in-Some
returns-in-Some c =
    ap (λ r. option_map (λ l. task.Chart l) (option_map label_numbered r)) (sym c.in-Some.is)
    ∙ charts _ (λ t r. ParsesUnsigned 32 10 t r × ExplainsUnsignedError 10 t r
    × HasUnsignedDigitsIfOk t r)
    (λ t r h. h.0) (found_of c.args.found.now) (codes "label") c.get_one.result
    c.get_one.ensures.none c.get_one.ensures.value

pub returns-in-None : goal.returns-in-None
returns-in-None c =
    ap (λ r. option_map (λ l. task.Chart l) (option_map label_numbered r)) (sym c.in-None.is)
    ∙ charts _ (λ t r. ParsesUnsigned 32 10 t r × ExplainsUnsignedError 10 t r
    × HasUnsignedDigitsIfOk t r)
    (λ t r h. h.0) (found_of c.args.found.now) (codes "label") c.get_one.result
    c.get_one.ensures.none c.get_one.ensures.value
