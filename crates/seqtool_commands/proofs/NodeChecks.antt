-- Each part of `check --node` writes an output that it owes for the bytes that were read. Only a
-- yes has status 0, and only a no status 1.
use Rattle.std.proofs.Common.{◌≡◌, ℕ, List, refl, subst, arith}
use Rattle.std.specs.Prelude.{Some}
use Rattle.st_core.specs.declared.types.Act.{Act}
use Rattle.st_text.specs.Limits.{greater}
use Rattle.st_text.specs.Text.{Contents}
use Rattle.st_commands.specs.Checked.{Spells}
use Rattle.st_commands.specs.Command.{ForMemory, OfBytes, Owes, ReaderCall}
use Rattle.st_commands.specs.Output.{no_acts, Output}
use Rattle.st_commands.proofs.ForCallers.{fault_status_high, WasRead}
use Rattle.node_check.specs.declared.verdict.NodeVerdict.{NodeVerdict}
use Rattle.node_check.specs.declared.verdict.NodeVerdict.TheVariants as verdict
use Rattle.node_check.specs.Verdict.{in_common, ShowsOnNode}
use Rattle.seqtool_commands.specs.NodeCheck.{ChecksBundle, ChecksOnNode, Faulty, IsNodeChecked}
use Rattle.seqtool_commands.specs.NodeCheck.{IsNodeJudged, Judged, Judges, Lacking, MeansNodeNo}
use Rattle.seqtool_commands.specs.NodeCheck.{MeansNodeYes, node_judged, NoRoom, OfActs, OfNoActs}

module _ {R : Type 0} (reader : ReaderCall R) (c : Contents) (h : WasRead greater reader c) where
  of_acts : (acts : List Act) (out : Output) → Spells greater h.bytes c.streams (Some acts)
      → ChecksOnNode c.streams acts out → Owes greater reader IsNodeChecked out
  of_acts acts out spelled (Judges v is refutes) =
      OfBytes h.bytes (node_judged v) h.all (Judged h.bytes v (record {
        streams = c.streams;
        acts = acts;
        spelled = spelled;
        verdict = is;
        refutes = refutes;
      }))
  of_acts acts out spelled NoRoom = ForMemory h.bytes h.all h.small

  pub owes_node_check : (out : Output) → ChecksBundle c out
      → Owes greater reader IsNodeChecked out
  owes_node_check out (OfActs acts o e is) =
      of_acts acts o (subst (Spells greater h.bytes c.streams) e h.spelled) is
  owes_node_check out (OfNoActs e) =
      OfBytes h.bytes no_acts h.all (Lacking h.bytes (record {
        streams = c.streams;
        spelled = subst (Spells greater h.bytes c.streams) e h.spelled;
      }))

judged_yes : (bytes : List ℕ) (v : NodeVerdict) → IsNodeJudged bytes v
    → (node_judged v).status ≡ 0 → MeansNodeYes bytes (node_judged v)
judged_yes bytes (verdict.Stuck n) j e = absurd (omega arith)
judged_yes bytes (verdict.Differs n) j e = absurd (omega arith)
judged_yes bytes (verdict.Left p) j e = absurd (omega arith)
judged_yes bytes verdict.Yes j e = record {
  streams = j.streams;
  acts = j.acts;
  outcomes = j.verdict.0;
  spelled = j.spelled;
  runs = j.verdict.1;
  reports = j.verdict.2;
  text = refl;
}

pub node_yes_means : (bytes : List ℕ) (out : Output) → IsNodeChecked bytes out → out.status ≡ 0
    → MeansNodeYes bytes out
node_yes_means bytes out (Judged b v j) e = judged_yes b v j e
node_yes_means bytes out (Lacking b n) e = absurd (omega arith)
node_yes_means bytes out (Faulty b f is) e =
    let high = fault_status_high f in absurd (omega arith)

-- a verdict other than yes is a no
no_verdict : (bytes : List ℕ) (v : NodeVerdict) (j : IsNodeJudged bytes v)
    → ¬ ShowsOnNode j.streams (in_common j.acts) → MeansNodeNo bytes (node_judged v)
no_verdict bytes v j refuted = record {
  streams = j.streams;
  acts = j.acts;
  verdict = v;
  spelled = j.spelled;
  refuted = refuted;
  text = refl;
  place = j.verdict;
}

judged_no : (bytes : List ℕ) (v : NodeVerdict) → IsNodeJudged bytes v
    → (node_judged v).status ≡ 1 → MeansNodeNo bytes (node_judged v)
judged_no bytes (verdict.Stuck n) j e = no_verdict bytes (verdict.Stuck n) j j.refutes
judged_no bytes (verdict.Differs n) j e = no_verdict bytes (verdict.Differs n) j j.refutes
judged_no bytes (verdict.Left p) j e = no_verdict bytes (verdict.Left p) j j.refutes
judged_no bytes verdict.Yes j e = absurd (omega arith)

pub node_no_means : (bytes : List ℕ) (out : Output) → IsNodeChecked bytes out → out.status ≡ 1
    → MeansNodeNo bytes out
node_no_means bytes out (Judged b v j) e = judged_no b v j e
node_no_means bytes out (Lacking b n) e = absurd (omega arith)
node_no_means bytes out (Faulty b f is) e =
    let high = fault_status_high f in absurd (omega arith)
