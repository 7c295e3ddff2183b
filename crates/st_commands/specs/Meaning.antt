-- The meaning of each command's yes and of its no: a record of facts, in the words of the machine.
-- The limits are those of the reader: how many bytes, processes, events and acts a text may have.
use Rattle.std.specs.Prelude.{◌≡◌, ℕ, true, false, List, ◌++◌, Option, Some, None, IsSome, All}
use Rattle.std.specs.Prelude.{codes, filter}
use Rattle.std.specs.List.{flat_map, list_any}
use Rattle.std.specs.Option.{ForSome}
use Rattle.st_core.specs.declared.types.Pid.{Pid}
use Rattle.st_core.specs.declared.types.Label.{Label}
use Rattle.st_core.specs.declared.types.Act.{Act}
use Rattle.st_core.specs.Laws.{NoReset}
use Rattle.st_core.specs.Pid.{pid_eq}
use Rattle.st_core.specs.Step.{Outcome, actor}
use Rattle.st_core.specs.Run.{Stream, Shows, pids_of, run, stream}
use Rattle.st_core.specs.Pairs.{Follows, AllPaired, pairs}
use Rattle.st_core.specs.Verdict.{Verdict, IsVerdict}
use Rattle.st_pair.specs.Final.{RulesOut}
use Rattle.st_pair.specs.Places.{event_at}
use Rattle.st_pair.specs.Pairing.{refusal}
use Rattle.st_order.specs.declared.item.Item.{Item}
use Rattle.st_order.specs.Order.{IsOrder}
use Rattle.st_order.specs.Labels.{item_has_label}
use Rattle.st_audit.specs.declared.finding.Reason.{Reason}
use Rattle.st_audit.specs.declared.finding.Finding.TheVariants as finding
use Rattle.st_audit.specs.Findings.{IsReason, fault_of}
use Rattle.st_chart.specs.Chart.{chart_text}
use Rattle.st_chart.specs.Report.{report_text}
use Rattle.st_runtime.specs.declared.fault.ActFault.TheVariants as act
use Rattle.st_runtime.specs.declared.fault.DriveFault.TheVariants as drive
use Rattle.st_runtime.specs.Driven.{IsDriveFault}
use Rattle.st_text.specs.declared.limits.Limits.{Limits}
use Rattle.st_text.specs.Text.{spelling}
use Rattle.st_text.specs.Spelling as words
use Rattle.st_text.specs.Spelling.{ended_line}
use Rattle.st_text.specs.Writing.{Writes}
use Rattle.st_commands.specs.declared.words.Task.{Task}
use Rattle.st_commands.specs.declared.words.Task.TheVariants as task
use Rattle.st_commands.specs.Output.{Output, pair_line, verdict_text}
use Rattle.st_commands.specs.Checked.{top, Spells, IsChecked}
use Rattle.st_commands.specs.Audited.{IsAudited}
use Rattle.st_commands.specs.Charted.{IsCharted}
use Rattle.st_commands.specs.Recorded.{ranks, scripts_of, act_fault_words, IsRecorded}
use Rattle.st_commands.specs.Replayed.{IsReplayed}
use Rattle.st_commands.specs.Command.{ReaderCall, WriterCall, ReadsAll, Owes, Tells}

-- a yes, status 0 of `check`: the acts show the streams
pub record MeansYes (limits : Limits) (bytes : List ℕ) (out : Output) : Type 0 where
  pub streams : List Stream
  pub acts : List Act
  pub outcomes : List Outcome
  -- the bytes spell streams and acts, within the reader's limits
  pub spelled : Spells limits bytes streams (Some acts)
  -- the acts are a run of the machine from zero clocks over the streams' processes
  pub runs : run top (pids_of streams) acts ≡ Some outcomes
  -- in it each process reports exactly its stream; so the acts show the streams (`Shows`)
  pub reports : All (λ x. stream acts outcomes x.pid ≡ x.events) streams
  -- each receive that was reported is in a pair
  pub paired : AllPaired outcomes (pairs acts outcomes)
  -- in each pair the receive follows its send, with the same label and serial, and no send is in
  -- two pairs
  pub follows : Follows acts outcomes (pairs acts outcomes)
  -- the text is the line yes and a line for each pair
  pub text : out.text ≡ ended_line (codes "yes") ++ flat_map pair_line (pairs acts outcomes)

-- a no, status 1 of `check`: the acts don't show the streams
pub record MeansNo (limits : Limits) (bytes : List ℕ) (out : Output) : Type 0 where
  pub streams : List Stream
  pub acts : List Act
  pub verdict : Verdict
  -- the bytes spell streams and acts, within the reader's limits
  pub spelled : Spells limits bytes streams (Some acts)
  -- the acts don't show the streams: they have no run in which each process reports exactly its
  -- stream
  pub refuted : ¬ Shows top streams acts
  -- the text is the line of a verdict, which names a place
  pub text : out.text ≡ verdict_text verdict
  -- and the place shows it: all before it passes, and act n has no step or reports another event,
  -- or p has events left
  pub place : IsVerdict top streams acts verdict

-- a certificate, status 0 of `audit`: acts that show the streams
pub record MeansFits (limits : Limits) (bytes : List ℕ) (out : Output) : Type 0 where
  pub streams : List Stream
  pub given : Option (List Act)
  pub acts : List Act
  pub outcomes : List Outcome
  -- the bytes spell streams, and acts or none, within the reader's limits
  pub spelled : Spells limits bytes streams given
  -- the certificate's acts are a run of the machine from zero clocks over the streams' processes
  pub runs : run top (pids_of streams) acts ≡ Some outcomes
  -- in it each process reports exactly its stream; so the acts show the streams (`Shows`)
  pub reports : All (λ x. stream acts outcomes x.pid ≡ x.events) streams
  -- the text is that of the streams with these acts
  pub text : out.text ≡ spelling (record { streams = streams; acts = Some acts })

-- an event and a reason, status 1 of `audit`: the reason holds at the event
pub record MeansUnfit (limits : Limits) (bytes : List ℕ) (out : Output) : Type 0 where
  pub streams : List Stream
  pub given : Option (List Act)
  pub pid : Pid
  pub index : ℕ
  pub reason : Reason
  -- the bytes spell streams, and acts or none, within the reader's limits
  pub spelled : Spells limits bytes streams given
  -- the event is there
  pub there : IsSome (event_at streams pid index)
  -- and the reason holds at it
  pub holds : IsReason top streams pid index reason
  -- a reason of pairing is final: no acts without a reset show the streams, or no acts at all
  pub final : ForSome (fault_of (finding.Unfit pid index reason)) (RulesOut streams)
  -- the text names the event and the reason, and what the reason rests on
  pub text : out.text ≡ report_text streams (finding.Unfit pid index reason)

-- a record of threads, status 0 of `drive`: a run in which each process makes its own acts
pub record MeansDriven (limits : Limits) (bytes : List ℕ) (out : Output) : Type 0 where
  pub listed : List Stream
  pub given : List Act
  pub streams : List Stream
  pub acts : List Act
  pub outcomes : List Outcome
  -- the bytes spell acts of listed processes, within the reader's limits
  pub spelled : Spells limits bytes listed (Some given)
  -- the record's acts are a run of the machine from zero clocks over the listed processes
  pub runs : run top (pids_of streams) acts ≡ Some outcomes
  pub pids : pids_of streams ≡ pids_of listed
  -- in it each process reports exactly its stream; so the acts show the streams (`Shows`)
  pub reports : All (λ x. stream acts outcomes x.pid ≡ x.events) streams
  -- each process makes exactly its own acts among the given ones, in their order
  pub own : All (λ p. filter (λ a. pid_eq (actor a) p) acts
      ≡ filter (λ a. pid_eq (actor a) p) given) (pids_of streams)
  -- the text is that of the streams with these acts
  pub text : out.text ≡ spelling (record { streams = streams; acts = Some acts })

-- an act that was refused, status 1 of `drive`
pub record MeansStray (limits : Limits) (bytes : List ℕ) (out : Output) : Type 0 where
  pub listed : List Stream
  pub given : List Act
  pub pid : Pid
  pub number : ℕ
  -- the bytes spell acts of listed processes, within the reader's limits
  pub spelled : Spells limits bytes listed (Some given)
  -- act `number` of the process's own given acts was refused as `Stray`: a lock held another
  -- process than its own; no call leaves a lock so, but no clause says that
  pub refused : IsDriveFault top ranks (pids_of listed) (scripts_of (pids_of listed) given)
      (drive.Act pid number act.Stray)
  -- the text names the process and the number
  pub text : out.text ≡ ended_line (act_fault_words pid number)

-- a run, status 0 of `replay`, which has no status 1
pub record MeansReplayed (limits : Limits) (bytes : List ℕ) (out : Output) : Type 0 where
  pub listed : List Stream
  pub streams : List Stream
  pub acts : List Act
  pub outcomes : List Outcome
  -- the bytes spell acts of listed processes, within the reader's limits
  pub spelled : Spells limits bytes listed (Some acts)
  -- the acts are a run of the machine from zero clocks over the listed processes
  pub runs : run top (pids_of streams) acts ≡ Some outcomes
  pub pids : pids_of streams ≡ pids_of listed
  -- in it each process reports exactly its stream; so the acts show the streams (`Shows`)
  pub reports : All (λ x. stream acts outcomes x.pid ≡ x.events) streams
  -- the text is that of the streams with these acts
  pub text : out.text ≡ spelling (record { streams = streams; acts = Some acts })

-- a chart, status 0 of `chart`: the items with the label
pub record MeansCharted (limits : Limits) (label : Label) (bytes : List ℕ) (out : Output) : Type 0
  where
    pub streams : List Stream
    pub given : Option (List Act)
    pub items : List Item
    -- the bytes spell streams, and acts or none, within the reader's limits
    pub spelled : Spells limits bytes streams given
    -- no reason of pairing holds, so each receive has one send, which was reported or wasn't
    pub accepted : refusal streams ≡ None
    -- the items are the events and the sends that weren't reported, in their order
    pub order : IsOrder streams items
    -- an item has the label
    pub labelled : list_any (item_has_label streams label) items ≡ true
    -- the text is the chart of the items with the label
    pub text : out.text ≡ chart_text streams items label

-- no item has the label, status 1 of `chart` if no reason of pairing holds
pub record MeansNoLabel (limits : Limits) (label : Label) (bytes : List ℕ) (out : Output) : Type 0
  where
    pub streams : List Stream
    pub given : Option (List Act)
    pub items : List Item
    -- the bytes spell streams, and acts or none, within the reader's limits
    pub spelled : Spells limits bytes streams given
    -- no reason of pairing holds
    pub accepted : refusal streams ≡ None
    -- the items are the events and the sends that weren't reported, in their order
    pub order : IsOrder streams items
    -- no item has the label
    pub unlabelled : list_any (item_has_label streams label) items ≡ false
    -- the text says that no item has the label
    pub text : out.text ≡ ended_line (codes "no label " ++ words.label label)

-- an event and a reason of pairing, status 1 of a command that needs pairs
pub record MeansUnpaired (limits : Limits) (bytes : List ℕ) (out : Output) : Type 0 where
  pub streams : List Stream
  pub given : Option (List Act)
  pub pid : Pid
  pub index : ℕ
  pub reason : Reason
  -- the bytes spell streams, and acts or none, within the reader's limits
  pub spelled : Spells limits bytes streams given
  -- the reason is one of pairing
  pub unpaired : IsSome (fault_of (finding.Unfit pid index reason))
  -- no acts without a reset show the streams
  pub ruled_out : (acts : List Act) → NoReset acts → ¬ Shows top streams acts
  -- the reason holds at the event
  pub holds : IsReason top streams pid index reason
  -- the text names the event and the reason, and what the reason rests on
  pub text : out.text ≡ report_text streams (finding.Unfit pid index reason)

-- no chart, status 1 of `chart`: no item has the label, or a reason of pairing holds
pub data MeansNoChart (limits : Limits) (label : Label) (bytes : List ℕ) (out : Output) : Type 0
  where
    Unlabelled : MeansNoLabel limits label bytes out → MeansNoChart limits label bytes out
    Unpaired : MeansUnpaired limits bytes out → MeansNoChart limits label bytes out

-- the meaning of a no that never comes: no output has it
abbrev pub NeverMeant : List ℕ → Output → Type 0
NeverMeant bytes out = ⊥

-- all bytes were read, and an output that `Means` holds of was written whole
pub record Says (limits : Limits) {R W : Type 0} (reader : ReaderCall R) (writer : WriterCall W)
    (Means : List ℕ → Output → Type 0) : Type 0 where
  pub bytes : List ℕ
  pub output : Output
  pub reads : ReadsAll limits reader bytes
  pub writes : Writes writer.device.puts writer.device.failed output.text writer.old writer.new
  pub means : Means bytes output

-- A call of a command delivers an output that it owes. If it returns 0 or 1, it read all bytes and
-- wrote an output whole; status 0 means `Yes` of the output, and status 1 means `No`.
pub record Performs (limits : Limits) {R W : Type 0} (reader : ReaderCall R) (writer : WriterCall W)
    (IsOutput Yes No : List ℕ → Output → Type 0) (status : ℕ) : Type 0 where
  pub told : Tells writer (Owes limits reader IsOutput) status
  pub yes : status ≡ 0 → Says limits reader writer Yes
  pub no : status ≡ 1 → Says limits reader writer No

-- each command with its outputs and with the meaning of its yes and of its no
module _ (limits : Limits) {R W : Type 0} (reader : ReaderCall R) (writer : WriterCall W) where
  abbrev pub PerformsBy : Task → ℕ → Type 0
  PerformsBy task.Check status =
      Performs limits reader writer (IsChecked limits) (MeansYes limits) (MeansNo limits) status
  PerformsBy task.Audit status =
      Performs limits reader writer (IsAudited limits) (MeansFits limits) (MeansUnfit limits) status
  PerformsBy task.Replay status =
      Performs limits reader writer (IsReplayed limits) (MeansReplayed limits) NeverMeant status
  PerformsBy task.Drive status =
      Performs limits reader writer (IsRecorded limits) (MeansDriven limits) (MeansStray limits)
      status
  PerformsBy (task.Chart label) status =
      Performs limits reader writer (IsCharted limits label) (MeansCharted limits label)
      (MeansNoChart limits label) status
