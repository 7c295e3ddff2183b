-- Why bytes aren't the text of a bundle, told from all the bytes and their lines. In order: too
-- many bytes; the first faulty line; bytes after the last newline, or none at all; a needless
-- header 2; the first line that names an unlisted pid.
use Rattle.std.specs.Prelude.{ℕ, ◌+◌, ◌-◌, Bool, true, false, not, ◌&&◌, ◌||◌, List, [], ◌∷◌, ◌++◌}
use Rattle.std.specs.Prelude.{length, map, Option}
use Rattle.std.specs.Prelude.{Some, None, nat_lt, nat_le, ◌==◌, if◌then◌else◌, option_to_list}
use Rattle.std.specs.List.{flat_map, count_by, list_any, list_all, slice_get}
use Rattle.std.specs.Ordering.{is_lt}
use Rattle.st_core.specs.declared.types.Pid.{Pid}
use Rattle.st_core.specs.Pid.{pid_cmp}
use Rattle.st_core.specs.Step.{actor, receiver}
use Rattle.st_core.specs.Streams.{is_among, is_own}
use Rattle.st_text.specs.declared.line.Line.{Line}
use Rattle.st_text.specs.declared.line.Line.TheVariants as lines
use Rattle.st_text.specs.declared.fault.ReadFault.{ReadFault}
use Rattle.st_text.specs.declared.fault.ReadFault.TheVariants as faults
use Rattle.st_text.specs.declared.limits.Limits.{Limits}
use Rattle.st_text.specs.Parsing.{line_of}
use Rattle.st_text.specs.Text.{is_remote}

-- ---- the lines of bytes

-- the byte in front of the first line, or of the unfinished line if no line has ended
abbrev pub onto_first : ℕ → List (List ℕ) → List ℕ → List (List ℕ) × List ℕ
onto_first b [] tail = ([], b ∷ tail)
onto_first b (l ∷ ls) tail = ((b ∷ l) ∷ ls, tail)

-- the lines that a newline ends, and the bytes after the last newline
abbrev pub cut : List ℕ → List (List ℕ) × List ℕ
cut [] = ([], [])
cut (b ∷ bytes) = if b == 10 then ([] ∷ (cut bytes).0, (cut bytes).1)
    else onto_first b (cut bytes).0 (cut bytes).1

-- the meaning of each line; none if its bytes aren't a line
abbrev pub sayings : List ℕ → List (Option Line)
sayings bytes = map line_of (cut bytes).0

-- ---- what the lines before say

abbrev pub pid_of : Line → List Pid
pid_of (lines.Process p) = p ∷ []
pid_of l = []

abbrev pub is_event : Line → Bool
is_event (lines.Event e) = true
is_event l = false

abbrev pub is_act : Line → Bool
is_act (lines.Act a) = true
is_act l = false

abbrev pub is_acts : Line → Bool
is_acts lines.Acts = true
is_acts l = false

-- the pids that the process lines list
abbrev pub pids : List Line → List Pid
pids ls = flat_map pid_of ls

-- the acts have begun
abbrev pub has_acts : List Line → Bool
has_acts ls = list_any is_acts ls

abbrev pub last_of : {A : Type 0} → List A → Option A
last_of xs = slice_get xs (length xs - 1)

-- ---- the faults of one line after good ones

-- there is a last process, and it passes the test
abbrev pub last_passes : (Pid → Bool) → Option Pid → Bool
last_passes test None = false
last_passes test (Some q) = test q

-- the line may come after the header, given whether the acts have begun and the last process
abbrev pub may_follow : Bool → Option Pid → Line → Bool
may_follow begun last (lines.Header b) = false
may_follow begun last (lines.Process p) = not begun
may_follow begun last (lines.Event e) = not begun && last_passes (λ q. true) last
may_follow begun last lines.Acts = not begun
may_follow begun last (lines.Act a) = begun

abbrev pub is_wide_header : Line → Bool
is_wide_header (lines.Header b) = b
is_wide_header l = false

abbrev pub is_header : Line → Bool
is_header (lines.Header b) = true
is_header l = false

-- the line may come after these: the header comes first, and only header 2 lets pids of other
-- nodes in
abbrev pub may_stand : List Line → Line → Bool
may_stand [] l = is_header l
may_stand (first ∷ ls) l =
    may_follow (has_acts (first ∷ ls)) (last_of (pids (first ∷ ls))) l
    && (is_wide_header first || not (is_remote l))

-- the line is a process whose pid isn't greater than the last one
abbrev pub is_out_of_order : Option Pid → Line → Bool
is_out_of_order last (lines.Process p) = last_passes (λ q. not (is_lt (pid_cmp q p))) last
is_out_of_order last l = false

-- the line is an event that the last process doesn't report
abbrev pub is_foreign : Option Pid → Line → Bool
is_foreign last (lines.Event e) = last_passes (λ q. not (is_own q e)) last
is_foreign last l = false

-- the line is a process, event or act past the limit, given how many processes, events and acts
-- came before
abbrev pub is_one_too_many : Limits → ℕ → ℕ → ℕ → Line → Bool
is_one_too_many limits processes events acts (lines.Process p) = nat_le limits.processes processes
is_one_too_many limits processes events acts (lines.Event e) = nat_le limits.events events
is_one_too_many limits processes events acts (lines.Act a) = nat_le limits.acts acts
is_one_too_many limits processes events acts l = false

-- the fault of line n, if the lines before are these good ones
abbrev pub fault_behind : Limits → ℕ → List Line → Line → Option ReadFault
fault_behind limits n ls l =
    if not (may_stand ls l) then Some (faults.Line n)
    else (if is_out_of_order (last_of (pids ls)) l then Some (faults.Order n)
    else (if is_foreign (last_of (pids ls)) l then Some (faults.Foreign n)
    else (if is_one_too_many limits (length (pids ls)) (count_by is_event ls) (count_by is_act ls) l
    then Some (faults.TooMany n) else None)))

-- the fault of the next line after these good ones, also if its bytes aren't a line; lines are
-- counted from 1
unfoldable pub line_fault : Limits → List Line → Option Line → Option ReadFault
line_fault limits ls None = Some (faults.Line (length ls + 1))
line_fault limits ls (Some l) = fault_behind limits (length ls + 1) ls l

abbrev pub first_of : {A : Type 0} → Option A → Option A → Option A
first_of (Some x) o = Some x
first_of None o = o

-- the fault of the first faulty line, if these come after the good lines ls
unfoldable pub first_fault : Limits → List Line → List (Option Line) → Option ReadFault
first_fault limits ls [] = None
first_fault limits ls (None ∷ more) = line_fault limits ls None
first_fault limits ls (Some l ∷ more) =
    first_of (line_fault limits ls (Some l)) (first_fault limits (ls ++ l ∷ []) more)

-- ---- the faults of the whole text

-- the meanings of the lines that have one
abbrev pub said : List (Option Line) → List Line
said [] = []
said (None ∷ more) = said more
said (Some l ∷ more) = l ∷ said more

-- the fault of bytes after the last newline, or of no bytes at all
abbrev pub truncated : List ℕ → Option ReadFault
truncated bytes = if length (cut bytes).1 == 0
    && not (length (cut bytes).0 == 0) then None else Some faults.Truncated

-- the fault of a header 2 if no line names a pid of another node
abbrev pub needless : List Line → Option ReadFault
needless ls =
    if list_any is_wide_header ls && not (list_any is_remote ls) then Some (faults.Line 1) else None

-- the pids of a line that have to be listed: an event's ends, an actor, a send's receiver
abbrev pub must_be_listed : Line → List Pid
must_be_listed (lines.Event e) = e.from ∷ option_to_list e.to
must_be_listed (lines.Act a) = actor a ∷ receiver a ∷ []
must_be_listed l = []

abbrev pub is_unknown : List Pid → Line → Bool
is_unknown ps l = not (list_all (is_among ps) (must_be_listed l))

-- the fault of the first line that names an unlisted pid, if these lines are counted from n
unfoldable pub unknown_from : List Pid → ℕ → List Line → Option ReadFault
unknown_from ps n [] = None
unknown_from ps n (l ∷ ls) =
    if is_unknown ps l then Some (faults.Unknown n) else unknown_from ps (n + 1) ls

-- the fault that only all good lines show: a needless header, else the first unlisted pid
abbrev pub closing_fault : List Line → Option ReadFault
closing_fault ls = first_of (needless ls) (unknown_from (pids ls) 1 ls)

-- why the bytes aren't the text of a bundle within the limits; none if they are
unfoldable pub fault_within : Limits → List ℕ → Option ReadFault
fault_within limits bytes =
    if nat_lt limits.bytes (length bytes) then Some faults.TooLarge
    else first_of (first_fault limits [] (sayings bytes))
    (first_of (truncated bytes) (closing_fault (said (sayings bytes))))
