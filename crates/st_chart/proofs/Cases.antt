-- Worked cases: the definitions, computed. No proof cites this file; it shows that the definitions
-- say what is meant.
use Rattle.std.specs.Prelude.{◌≡◌, true, List, [], ◌∷◌, ◌++◌, codes, refl}
use Rattle.std.specs.Fmt.{digits}
use Rattle.st_core.specs.declared.types.Act.TheVariants as acts
use Rattle.st_core.specs.Run.{Stream}
use Rattle.st_order.specs.declared.item.Item.{Item}
use Rattle.st_order.specs.declared.item.Item.TheVariants as item
use Rattle.st_check.specs.declared.verdict.Verdict.TheVariants as verdict
use Rattle.st_audit.specs.declared.finding.Reason.TheVariants as reason
use Rattle.st_audit.specs.declared.finding.Finding.TheVariants as finding
use Rattle.st_chart.specs.Report.{report_text}
use Rattle.st_chart.specs.Chart.{chart_text}
use Rattle.st_core.proofs.Samples.{a, b, got, printed, of, hidden_sends}

-- ---- a chart

-- the items of `hidden_sends`, in order
abbrev in_order : List Item
in_order = item.Reported a 0 ∷ item.Hidden b 0 ∷ item.Reported b 0 ∷ item.Reported b 1
    ∷ item.Hidden a 1
    ∷ item.Reported a 1 ∷ []

hidden_sends_charted : chart_text hidden_sends in_order (record { 0 = 17 })
    ≡ codes "label 17\n"
    ++ codes "lane 1 <0.30.0>\n"
    ++ codes "lane 2 <0.31.0>\n"
    ++ codes "   P   |  print    {0,1} 7 start\n"
    ++ codes "   H   .  hidden   {0,2} 5 unseen\n"
    ++ codes "   .   R  receive  {0,2} 5 after hidden\n"
    ++ codes "   |   P  print    {2,3} 8 after <0.31.0> 0\n"
    ++ codes "   .   H  hidden   {2,4} 6 unseen\n"
    ++ codes "   R   .  receive  {2,4} 6 after hidden\n"
unfolding digits
hidden_sends_charted = refl

-- ---- reports

-- a receive whose count is a print's
abbrev mismatched : List Stream
mismatched = of a (printed 17 0 2 a 7 ∷ []) ∷ of b (got 17 0 2 a b 5 ∷ []) ∷ []

mismatch_reported : report_text mismatched (finding.Unfit b 0 (reason.Mismatch a 0))
    ≡ codes "unfit <0.31.0> 0 mismatch <0.30.0> 0\n"
    ++ codes "event <0.31.0> 0 {seq_trace,17,{'receive',{0,2},<0.30.0>,<0.31.0>,5}}\n"
    ++ codes "event <0.30.0> 0 {seq_trace,17,{print,{0,2},<0.30.0>,[],7}}\n"
unfolding digits
mismatch_reported = refl

not_replayed_reported :
    report_text hidden_sends
    (finding.Unfit b 1 (reason.NotReplayed (acts.Tracer a true ∷ acts.Print a 0 ∷ [])
    (verdict.Left a)))
    ≡ codes "unfit <0.31.0> 1 notreplayed left <0.30.0>\n"
    ++ codes "event <0.31.0> 1 {seq_trace,17,{print,{2,3},<0.31.0>,[],8}}\n"
    ++ codes "acts\n"
    ++ codes "tracer <0.30.0> true\n"
    ++ codes "print <0.30.0> 0\n"
unfolding digits
not_replayed_reported = refl

fit_reported : report_text (of a [] ∷ []) (finding.Fits (acts.Print a 0 ∷ []) [])
    ≡ codes "seqtrace 1\n"
    ++ codes "process <0.30.0>\n"
    ++ codes "acts\n"
    ++ codes "print <0.30.0> 0\n"
unfolding digits
fit_reported = refl
