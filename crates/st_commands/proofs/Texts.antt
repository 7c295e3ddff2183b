-- Each text ends a line, so none is empty.
use Rattle.std.proofs.Common.{◌<◌, ◌++◌, length, codes, decimal, arith}
use Rattle.std.specs.List.{flat_map}
use Rattle.std.proofs.lemmas.List.{length-append}
use Rattle.st_core.specs.Verdict.{Verdict, Stuck, Differs, Left, Yes}
use Rattle.st_text.specs.Spelling as spelled
use Rattle.st_text.specs.Spelling.{ended_line}
use Rattle.st_text.proofs.ForCallers.{line_some}
use Rattle.st_commands.specs.Output.{pair_line, verdict_text}

pub verdict_some : (v : Verdict) → 0 < length (verdict_text v)
verdict_some (Stuck n) = line_some (codes "no stuck " ++ decimal n)
verdict_some (Differs n) = line_some (codes "no differs " ++ decimal n)
verdict_some (Left p) = line_some (codes "no left " ++ spelled.pid p)
verdict_some (Yes ps) =
    omega (
      arith,
      line_some (codes "yes"),
      length-append (ended_line (codes "yes")) (flat_map pair_line ps),
    )
