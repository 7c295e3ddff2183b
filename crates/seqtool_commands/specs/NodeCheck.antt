-- The result of `check --node` on bytes: the verdict of the streams and acts that they spell, by
-- the rules of a standard node, or why they spell none; and what a yes and a no mean, each as one
-- record of plain facts.
use Rattle.std.specs.Prelude.{◌≡◌, ℕ, List, ◌++◌, Some, None, All, codes, decimal}
use Rattle.st_core.specs.declared.types.Act.{Act}
use Rattle.st_core.specs.Run.{Stream, pids_of}
use Rattle.st_core.specs.Step.{Outcome}
use Rattle.st_text.specs.declared.fault.ReadFault.{ReadFault}
use Rattle.st_text.specs.Fault.{fault_within}
use Rattle.st_text.specs.Limits.{greater}
use Rattle.st_text.specs.Spelling as spelled
use Rattle.st_text.specs.Spelling.{ended_line}
use Rattle.st_text.specs.Text.{Contents}
use Rattle.st_commands.specs.Checked.{LacksActs, Spells}
use Rattle.st_commands.specs.Output.{Output, no_acts, no_memory, refused}
use Rattle.node_machine.specs.Node.{node_run}
use Rattle.node_streams.specs.Runs.{node_stream}
use Rattle.node_check.specs.declared.verdict.NodeVerdict.{NodeVerdict}
use Rattle.node_check.specs.declared.verdict.NodeVerdict.TheVariants as verdict
use Rattle.node_check.specs.Verdict.{in_common, IsNodeVerdict, RefutesOnNo, ShowsOnNode}

abbrev pub node_verdict_words : NodeVerdict → List ℕ
node_verdict_words verdict.Yes = codes "yes"
node_verdict_words (verdict.Stuck n) = codes "no stuck " ++ decimal n
node_verdict_words (verdict.Differs n) = codes "no differs " ++ decimal n
node_verdict_words (verdict.Left p) = codes "no left " ++ spelled.pid p

abbrev pub node_verdict_status : NodeVerdict → ℕ
node_verdict_status verdict.Yes = 0
node_verdict_status v = 1

abbrev pub node_judged : NodeVerdict → Output
node_judged v = record {
  text = ended_line (node_verdict_words v);
  status = node_verdict_status v;
}

-- the bytes spell streams and acts, and the verdict is theirs
pub record IsNodeJudged (bytes : List ℕ) (v : NodeVerdict) : Type 0 where
  pub streams : List Stream
  pub acts : List Act
  pub spelled : Spells greater bytes streams (Some acts)
  pub verdict : IsNodeVerdict streams (in_common acts) v
  pub refutes : RefutesOnNo streams (in_common acts) v

-- the output for the bytes
pub data IsNodeChecked : List ℕ → Output → Type 0 where
  Judged : (bytes : List ℕ) (v : NodeVerdict) → IsNodeJudged bytes v
      → IsNodeChecked bytes (node_judged v)
  Lacking : (bytes : List ℕ) → LacksActs greater bytes → IsNodeChecked bytes no_acts
  Faulty : (bytes : List ℕ) (f : ReadFault) → fault_within greater bytes ≡ Some f
      → IsNodeChecked bytes (refused f)

-- ---- what a status means

-- a yes: status 0
pub record MeansNodeYes (bytes : List ℕ) (out : Output) : Type 0 where
  pub streams : List Stream
  pub acts : List Act
  pub outcomes : List Outcome
  -- the bytes spell streams and acts, within the reader's limits
  pub spelled : Spells greater bytes streams (Some acts)
  -- the acts are a run of a standard node from zero clocks over the streams' processes
  pub runs : node_run (pids_of streams) (in_common acts) ≡ Some outcomes
  -- in it each process reports exactly its stream; so the acts show the streams (`ShowsOnNode`)
  pub reports : All (λ x. node_stream (in_common acts) outcomes x.pid ≡ x.events) streams
  -- the text is the line yes
  pub text : out.text ≡ ended_line (codes "yes")

-- a no: status 1
pub record MeansNodeNo (bytes : List ℕ) (out : Output) : Type 0 where
  pub streams : List Stream
  pub acts : List Act
  pub verdict : NodeVerdict
  -- the bytes spell streams and acts, within the reader's limits
  pub spelled : Spells greater bytes streams (Some acts)
  -- the acts don't show the streams: they are no run of a standard node in which each process
  -- reports exactly its stream
  pub refuted : ¬ ShowsOnNode streams (in_common acts)
  -- the text names a place
  pub text : out.text ≡ ended_line (node_verdict_words verdict)
  -- and the place shows it: all before it passes, and act n has no step or reports another event,
  -- or p has events left
  pub place : IsNodeVerdict streams (in_common acts) verdict

-- ---- for the parts alone

-- the output for streams and acts
pub data ChecksOnNode (streams : List Stream) (acts : List Act) : Output → Type 0 where
  Judges : (v : NodeVerdict) → IsNodeVerdict streams (in_common acts) v
      → RefutesOnNo streams (in_common acts) v → ChecksOnNode streams acts (node_judged v)
  NoRoom : ChecksOnNode streams acts no_memory

-- the output for a bundle
pub data ChecksBundle (c : Contents) : Output → Type 0 where
  OfActs : (acts : List Act) (out : Output) → c.acts ≡ Some acts
      → ChecksOnNode c.streams acts out → ChecksBundle c out
  OfNoActs : c.acts ≡ None → ChecksBundle c no_acts
