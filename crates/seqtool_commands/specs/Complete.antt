-- The result of `complete` on bytes: what the streams that they spell lack, or why no run without a
-- reset has them, whatever processes report nothing. The acts in the input are ignored.
use Rattle.std.specs.Prelude.{◌≡◌, ℕ, ◌<◌, ◌≤◌, ◌+◌, false, List, [], ◌∷◌, ◌++◌, Option, Some, None}
use Rattle.std.specs.Prelude.{codes, decimal, length, if◌then◌else◌}
use Rattle.std.specs.List.{flat_map, AllByRecursion}
use Rattle.std.specs.Option.{option_map_or}
use Rattle.st_core.specs.declared.types.Pid.{Pid}
use Rattle.st_core.specs.declared.types.Act.{Act}
use Rattle.st_core.specs.Laws.{NoReset}
use Rattle.st_core.specs.Run.{Stream, Shows, pids_of}
use Rattle.st_core.specs.Streams.{lists}
use Rattle.st_text.specs.declared.fault.ReadFault.{ReadFault}
use Rattle.st_text.specs.Fault.{fault_within}
use Rattle.st_text.specs.Limits.{greater}
use Rattle.st_text.specs.Spelling.{ended_line}
use Rattle.st_text.specs.Text.{spelling}
use Rattle.st_pair.specs.Places.{event_at}
use Rattle.st_plan.specs.Marks.{all_streams, told_streams, Marked}
use Rattle.lack_laws.specs.Needs.{marked_of}
use Rattle.lack_laws.specs.OpenReasons.{HasNoOpenReason}
use Rattle.lack_laws.specs.Silent.{with_silent}
use Rattle.lack_decide.specs.declared.answer.Never.{Never}
use Rattle.lack_decide.specs.declared.answer.Never.TheVariants as never
use Rattle.lack_decide.specs.declared.answer.Answer.{Answer}
use Rattle.lack_decide.specs.declared.answer.Answer.TheVariants as answer
use Rattle.lack_decide.specs.Answers.{IsAnswer, IsFirstReason, IsWhole, LacksNothing}
use Rattle.lack_decide.specs.Bounds.{act_bound}
use Rattle.lack_needs.specs.Additions.{AreAdditionsNeeded}
use Rattle.lack_needs.specs.Completions.{added_in, Completed}
use Rattle.st_text.specs.Spelling as spelled
use Rattle.st_chart.specs.Words.{place_words}
use Rattle.st_chart.specs.Report.{place_line}
use Rattle.st_commands.specs.Output.{Output, refused, bundled}
use Rattle.st_commands.specs.Checked.{top, Spells}
use Rattle.seqtool_commands.specs.declared.complete.Form.{Form}
use Rattle.seqtool_commands.specs.declared.complete.Form.TheVariants as form
use Rattle.seqtool_commands.specs.Renumber.{streams_output}

-- ---- the added events

-- the lines of the added events among p's marked events, which are from index i on
abbrev pub added_from : Pid → ℕ → List Marked → List ℕ
added_from p i [] = []
added_from p i (m ∷ ms) = (if m.told then [] else place_line (codes "added ") p i (Some m.event))
    ++ added_from p (i + 1) ms

-- the number of added events; the unlisted processes; and each added event, by pid and index
abbrev pub added_text : Completed → List ℕ
added_text c = ended_line (codes "added " ++ decimal (added_in c.wholes))
    ++ flat_map (λ p. ended_line (codes "unlisted " ++ spelled.pid p)) c.unlisted
    ++ flat_map (λ p. added_from p 0 (marked_of c.wholes p)) (pids_of (all_streams c.wholes))

-- ---- no completion

-- the word of a reason against an event of p, and the other place that it names
abbrev pub reason_of : Pid → Never → List ℕ × Option (Pid × ℕ)
reason_of p never.PrevNotBefore = (codes "prevnotbefore", None)
reason_of p (never.NotRising j) = (codes "notrising", Some (p, j))
reason_of p (never.Repeated q j) = (codes "repeated", Some (q, j))
reason_of p (never.Mismatch q j) = (codes "mismatch", Some (q, j))
reason_of p (never.Late j) = (codes "late", Some (p, j))
reason_of p never.Unfounded = (codes "unfounded", None)
reason_of p never.TooHigh = (codes "toohigh", None)

-- the place and the reason, then the event at the place and the one at the other place
abbrev pub never_text : List Stream → Pid → ℕ → Never → List ℕ
never_text streams p i r =
    ended_line (codes "never " ++ place_words p i ++ codes " " ++ ((reason_of p r).0
    ++ option_map_or (λ at. codes " " ++ place_words at.0 at.1) (reason_of p r).1 []))
    ++ place_line (codes "event ") p i (event_at streams p i)
    ++ option_map_or (λ at. place_line (codes "event ") at.0 at.1 (event_at streams at.0 at.1))
    (reason_of p r).1 []

-- ---- the output of streams

abbrev pub text_of_status : List ℕ → ℕ → Output
text_of_status text status = record { text = text; status = status }

-- a bundle is too long: it has more processes than the reader takes, or no acts were found that
-- are few enough
abbrev pub long : Output
long = text_of_status (ended_line (codes "long")) 5

-- none of the acts that were built is accepted, though the reader takes as many as surely suffice
abbrev pub uncertified : Output
uncertified = text_of_status (ended_line (codes "fault certificate")) 4

-- no reason holds of the streams, and no completion was found
abbrev pub uncompleted : Output
uncompleted = text_of_status (ended_line (codes "fault completion")) 4

-- A bundle is wanted, and the completion has more processes than the reader takes; or acts are
-- wanted, and the reader takes fewer than six for each event, one for each count that a process
-- passes unreported and one for each process.
pub data IsTooLong (f : Form) (c : Completed) : Type 0 where
  HasProcesses : ¬ (f ≡ form.Added) → greater.processes < length (pids_of (all_streams c.wholes))
      → IsTooLong f c
  HasActs : f ≡ form.Acts → greater.acts < act_bound (all_streams c.wholes) → IsTooLong f c

-- a completion has no more processes than the reader takes
abbrev pub HasFewProcesses : Completed → Type 0
HasFewProcesses c = length (pids_of (all_streams c.wholes)) ≤ greater.processes

-- The output of an answer in a form. Acts that are written show the streams with their unlisted
-- processes, without a reset. A bundle has no more processes, and no more acts, than the reader
-- takes.
pub data Answers (f : Form) (streams : List Stream) : Answer → Output → Type 0 where
  Adds : (c : Completed) → f ≡ form.Added → Answers f streams (answer.Whole c)
      (text_of_status (added_text c) 0)
  Completes : (c : Completed) → f ≡ form.Streams → HasFewProcesses c
      → Answers f streams (answer.Whole c) (streams_output (all_streams c.wholes))
  Certifies : (c : Completed) (acts : List Act) → f ≡ form.Acts
      → Shows top (with_silent streams c.unlisted) acts → NoReset acts
      → HasFewProcesses c → length acts ≤ greater.acts
      → Answers f streams (answer.Whole c) (bundled (with_silent streams c.unlisted) acts)
  IsLong : (c : Completed) → IsTooLong f c → Answers f streams (answer.Whole c) long
  IsUncertified : (c : Completed) → f ≡ form.Acts
      → act_bound (all_streams c.wholes) ≤ greater.acts
      → Answers f streams (answer.Whole c) uncertified
  IsNever : (p : Pid) (i : ℕ) (r : Never) → Answers f streams (answer.Never p i r)
      (text_of_status (never_text streams p i r) 1)

-- ---- the output of bytes

-- the bytes spell the streams, and the answer is theirs
pub record HasAnswer (bytes : List ℕ) (streams : List Stream) (found : Answer) : Type 0 where
  pub given : Option (List Act)
  pub spelled : Spells greater bytes streams given
  pub is : IsAnswer top streams found

pub data IsOutputOfComplete (f : Form) : List ℕ → Output → Type 0 where
  Answered : (bytes : List ℕ) (streams : List Stream) (found : Answer) (out : Output)
      → HasAnswer bytes streams found
      → Answers f streams found out → IsOutputOfComplete f bytes out
  Uncompleted : (bytes : List ℕ) (streams : List Stream) (given : Option (List Act))
      → Spells greater bytes streams given → HasNoOpenReason top streams
      → IsOutputOfComplete f bytes uncompleted
  Faulty : (bytes : List ℕ) (x : ReadFault) → fault_within greater bytes ≡ Some x
      → IsOutputOfComplete f bytes (refused x)

-- ---- what a completion and a reason mean, each as one record of plain facts

-- the text of a completion in a form
abbrev pub completed_text : Form → List Stream → Completed → List Act → List ℕ
completed_text form.Acts streams c acts =
    spelling (record { streams = with_silent streams c.unlisted; acts = Some acts })
completed_text form.Streams streams c acts =
    spelling (record { streams = all_streams c.wholes; acts = None })
completed_text form.Added streams c acts = added_text c

-- a completion: status 0
pub record MeansCompleted (f : Form) (bytes : List ℕ) (out : Output) : Type 0 where
  pub streams : List Stream
  pub given : Option (List Act)
  pub completed : Completed
  pub acts : List Act
  -- the bytes spell streams, within the reader's limits; acts among them are ignored
  pub spelled : Spells greater bytes streams given
  -- the streams list none of the unlisted processes
  pub apart : AllByRecursion (λ q. lists streams q ≡ false) completed.unlisted
  -- the acts show the streams and the unlisted processes, which report nothing
  pub shows : Shows top (with_silent streams completed.unlisted) acts
  -- none of the acts is a reset
  pub one_trace : NoReset acts
  -- a bundle that is written has no more processes, and no more acts, than the reader takes
  pub few : ¬ (f ≡ form.Added) → HasFewProcesses completed
  pub short : f ≡ form.Acts → length acts ≤ greater.acts
  -- the told events of the completion are just those of the streams
  pub told : told_streams completed.wholes ≡ with_silent streams completed.unlisted
  -- with all events of the completion no send and no receive is missing
  pub lacks : LacksNothing top (all_streams completed.wholes)
  -- each added event is needed: a send is received, a receive gives its count to the event right
  -- after it or has only added events after it, and no print is added
  pub needed : AreAdditionsNeeded completed.wholes
  -- the text is that of the streams with the acts, of all events, or of the added events
  pub text : out.text ≡ completed_text f streams completed acts

-- an event and a reason: status 1
pub record MeansNever (bytes : List ℕ) (out : Output) : Type 0 where
  pub streams : List Stream
  pub given : Option (List Act)
  pub pid : Pid
  pub index : ℕ
  pub reason : Never
  -- the bytes spell streams, within the reader's limits; acts among them are ignored
  pub spelled : Spells greater bytes streams given
  -- whatever other processes report nothing, no acts without a reset show the streams with them
  pub ruled_out : (others : List Pid) (acts : List Act) → NoReset acts
      → ¬ Shows top (with_silent streams others) acts
  -- the reason holds at the event, at no event before it, and no reason that comes before it holds
  pub holds : IsFirstReason top streams pid index reason
  -- the text names the event and the reason
  pub text : out.text ≡ never_text streams pid index reason

-- a completion that isn't written as a bundle, since it is too long or may be: status 5
pub record MeansLong (f : Form) (bytes : List ℕ) (out : Output) : Type 0 where
  pub streams : List Stream
  pub given : Option (List Act)
  pub completed : Completed
  -- the bytes spell streams, within the reader's limits; acts among them are ignored
  pub spelled : Spells greater bytes streams given
  -- the completion is one of the streams, which acts without a reset show with its unlisted
  -- processes
  pub whole : IsWhole top streams completed
  -- it has more processes than the reader takes; or the number of acts that surely suffices is more
  -- than the reader takes (fewer may suffice)
  pub too_long : IsTooLong f completed
  -- the text is the line long
  pub text : out.text ≡ ended_line (codes "long")
