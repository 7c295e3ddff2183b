-- The words of the verdict follow the reason's own word.
use Rattle.std.proofs.Common.{◌++◌, ◌∙◌, codes, ap, append_assoc, List, ℕ, arith}
use Rattle.st_chart.specs.Report.{verdict_words}
use Rattle.st_chart.proofs.reporting.put_reason.Goals as goal

pub returns-in-NotReplayed : goal.returns-in-NotReplayed
returns-in-NotReplayed c =
    let words = verdict_words c.in-NotReplayed.verdict in
    record {
      items = rw c.in-NotReplayed.is (
          c.put_verdict.ensures.items
          ∙ ap (λ (xs : List ℕ). xs ++ words) c.put_bytes-in-NotReplayed.ensures.items
          ∙ append_assoc c.args.buffer.now.items (codes "notreplayed ") words
          );
      len = omega (arith, c.put_bytes-in-NotReplayed.ensures.len, c.put_verdict.ensures.len);
    }
