-- The words of each line that is written alone, and the parts of the lines of `complete`, for the
-- contracts of the functions that write them.
use Rattle.std.specs.Prelude.{ℕ, zero, suc, ◌+◌, Bool, true, false, List, [], ◌++◌, codes, decimal}
use Rattle.std.specs.Prelude.{length, option_map, slice_get, Option, Some, None}
use Rattle.std.specs.List.{flat_map}
use Rattle.st_core.specs.declared.types.Event.{Event}
use Rattle.st_core.specs.declared.types.Pid.{Pid}
use Rattle.st_core.specs.Run.{Stream, pids_of}
use Rattle.st_core.specs.Streams.{events_of}
use Rattle.st_pair.specs.Places.{event_at}
use Rattle.st_plan.specs.Marks.{all_streams, Whole}
use Rattle.lack_laws.specs.Needs.{marked_of}
use Rattle.lack_needs.specs.Completions.{added_in, marked_with, Completed}
use Rattle.lack_decide.specs.declared.answer.Never.{Never}
use Rattle.lack_decide.specs.declared.answer.Never.TheVariants as never
use Rattle.st_chart.specs.Room.{place_room}
use Rattle.st_text.specs.Spelling as spelled
use Rattle.st_text.specs.Spelling.{ended_line}
use Rattle.st_chart.specs.Report.{event_line, place_line}
use Rattle.st_chart.specs.Words.{place_words}
use Rattle.seqtool_commands.specs.Words.{tool_usage_words, tool_version_words}
use Rattle.seqtool_commands.specs.WhyWords.{no_order_words, premise_text, runs_words}
use Rattle.seqtool_commands.specs.declared.lines.OutputLine.{OutputLine}
use Rattle.seqtool_commands.specs.declared.lines.OutputLine.TheVariants as lines

-- the words of a reason against an event of p, with the other place that it names
abbrev pub never_words : Pid → Never → List ℕ
never_words p never.PrevNotBefore = codes "prevnotbefore"
never_words p (never.NotRising j) = codes "notrising " ++ place_words p j
never_words p (never.Repeated q j) = codes "repeated " ++ place_words q j
never_words p (never.Mismatch q j) = codes "mismatch " ++ place_words q j
never_words p (never.Late j) = codes "late " ++ place_words p j
never_words p never.Unfounded = codes "unfounded"
never_words p never.TooHigh = codes "toohigh"

abbrev pub words_of : OutputLine → List ℕ
words_of lines.Long = codes "long"
words_of lines.Uncertified = codes "fault certificate"
words_of lines.Uncompleted = codes "fault completion"
words_of lines.Yes = codes "yes"
words_of (lines.Stuck n) = codes "no stuck " ++ decimal n
words_of (lines.Differs n) = codes "no differs " ++ decimal n
words_of (lines.Left p) = codes "no left " ++ spelled.pid p
words_of lines.NoActs = codes "fault no acts"
words_of (lines.Added n) = codes "added " ++ decimal n
words_of (lines.Never p i r) = codes "never " ++ place_words p i ++ codes " " ++ never_words p r
words_of (lines.Unlisted p) = codes "unlisted " ++ spelled.pid p
words_of (lines.NoEvent p i) = codes "no event " ++ place_words p i
words_of lines.NoOrder = no_order_words
words_of lines.Runs = runs_words
words_of (lines.Premise x) = premise_text x
words_of lines.Usage = tool_usage_words
words_of lines.Version = tool_version_words

-- the most bytes that the words of a line take, if each number takes as many as the longest
abbrev pub words_room : ℕ
words_room = 20 + place_room + place_room

-- ---- the added events

-- the line of an event with the mark: none if it was told
abbrev pub if_untold : Option Bool → List ℕ → List ℕ
if_untold None line = []
if_untold (Some true) line = []
if_untold (Some false) line = line

-- the line of event i of p's events with the marks, if it was added
abbrev pub added_line : Pid → List Event → List Bool → ℕ → List ℕ
added_line p es marks i =
    if_untold (option_map (λ m. m.told) (slice_get (marked_with es marks) i))
    (place_line (codes "added ") p i (slice_get es i))

-- the line of event i of p, if it was added
abbrev pub added_at : List Whole → Pid → ℕ → List ℕ
added_at wholes p i =
    if_untold (option_map (λ m. m.told) (slice_get (marked_of wholes p) i))
    (place_line (codes "added ") p i (event_at (all_streams wholes) p i))

-- the texts of the numbers below n, one after the other
abbrev pub up_to : (ℕ → List ℕ) → ℕ → List ℕ
up_to text zero = []
up_to text (suc n) = up_to text n ++ text n

abbrev pub added_of : List Whole → Pid → List ℕ
added_of wholes p = up_to (added_at wholes p) (length (events_of (all_streams wholes) p))

abbrev pub count_line : ℕ → List ℕ
count_line n = ended_line (codes "added " ++ decimal n)

-- the line of an unlisted process
abbrev pub unlisted_line : Pid → List ℕ
unlisted_line p = ended_line (codes "unlisted " ++ spelled.pid p)

abbrev pub added_parts : Completed → List ℕ
added_parts c =
    count_line (added_in c.wholes) ++ flat_map unlisted_line c.unlisted
    ++ flat_map (added_of c.wholes) (pids_of (all_streams c.wholes))

-- ---- no completion

-- the line of the event at the other place
abbrev pub other_line : List Stream → Pid → Never → List ℕ
other_line streams p never.PrevNotBefore = []
other_line streams p (never.NotRising j) = event_line streams p j
other_line streams p (never.Repeated q j) = event_line streams q j
other_line streams p (never.Mismatch q j) = event_line streams q j
other_line streams p (never.Late j) = event_line streams p j
other_line streams p never.Unfounded = []
other_line streams p never.TooHigh = []

abbrev pub never_line : Pid → ℕ → Never → List ℕ
never_line p i r = ended_line (codes "never " ++ place_words p i ++ codes " " ++ never_words p r)

abbrev pub never_parts : List Stream → Pid → ℕ → Never → List ℕ
never_parts streams p i r = never_line p i r ++ event_line streams p i ++ other_line streams p r
