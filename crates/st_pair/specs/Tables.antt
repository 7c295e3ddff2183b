-- The tables of pairing: the first receive from each sender with each count, and the sends and
-- prints of each process.
use Rattle.std.specs.Prelude.{◌≡◌, ℕ, ◌+◌, ◌<◌, ◌==◌, ◌&&◌, Bool, List, [], ◌∷◌, Option, Some, None}
use Rattle.std.specs.Prelude.{if◌then◌else◌, length, map, replicate, option_and_then, option_map}
use Rattle.std.specs.Prelude.{slice_get}
use Rattle.std.specs.List.{AllByRecursion}
use Rattle.indexmap.specs.IndexMap.{get}
use Rattle.st_core.specs.declared.types.Pid.{Pid}
use Rattle.st_core.specs.declared.types.Event.{Event}
use Rattle.st_core.specs.declared.types.Kind.TheVariants as kind
use Rattle.st_core.specs.Pid.{pid_eq, IsRising}
use Rattle.st_core.specs.Run.{Stream, pids_of}
use Rattle.st_pair.specs.declared.pairing.Link.{Link}
use Rattle.st_pair.specs.declared.pairing.Link.TheVariants as link
use Rattle.st_pair.specs.declared.pairing.Tables.{Tables}
use Rattle.st_pair.specs.declared.receives.Key.{Key}
use Rattle.st_pair.specs.declared.receives.Mark.{Mark}
use Rattle.st_pair.specs.declared.receives.Receives.{Receives}
use Rattle.st_pair.specs.declared.stamp_table.StampRow.{StampRow}
use Rattle.st_pair.specs.Places.{is_stamp, first, or_else}
use Rattle.st_pair.specs.Links.{received_link}
use Rattle.st_pair.specs.Pairing.{receive_of, stamp_of, not_rising}

-- k and l have one sender and one count
abbrev pub key_eq : Key → Key → Bool
key_eq k l = pid_eq k.from l.from && k.this == l.this

-- the index of the send or print with the sender and the count of k
abbrev pub stamp_index : List Stream → Key → Option ℕ
stamp_index streams k = option_map (λ f. f.0) (stamp_of streams k.from k.this)

-- the marks of a process's events before any receive is noted
abbrev pub no_marks : Stream → List (Option (Pid × ℕ))
no_marks s = replicate (length s.events) None

-- the marks of the events of p, if the lists of marks are in the order of the streams
abbrev pub marks_in : List Stream → List (List (Option (Pid × ℕ))) → Pid → List (Option (Pid × ℕ))
marks_in [] lists p = []
marks_in (s ∷ streams) [] p = []
marks_in (s ∷ streams) (marks ∷ lists) p =
    if pid_eq s.pid p then marks else marks_in streams lists p

-- the mark of the send or print with the sender and the count of k, if it was reported
abbrev pub mark_of : List Stream → List (List (Option (Pid × ℕ))) → Key → Option (Option (Pid × ℕ))
mark_of streams lists k =
    option_and_then (λ i. slice_get (marks_in streams lists k.from) i) (stamp_index streams k)

-- the mark of event i of the process at place n, if there is one
abbrev pub mark_at : List (List (Option (Pid × ℕ))) → ℕ → ℕ → Option (Option (Pid × ℕ))
mark_at lists n i = option_and_then (λ marks. slice_get marks i) (slice_get lists n)

-- the mark is that of the send or print with the sender and the count of k
pub record IsMark (streams : List Stream) (lists : List (List (Option (Pid × ℕ)))) (k : Key)
    (mark : Mark) : Type 0 where
  pub rising : IsRising (pids_of streams)
  pub process : slice_get (pids_of streams) mark.process ≡ Some k.from
  pub index : stamp_index streams k ≡ Some mark.index
  pub first : mark_at lists mark.process mark.index ≡ Some mark.first

-- the place that the tables give for k
abbrev pub place_for : List Stream → Receives → Key → Option (Pid × ℕ)
place_for streams receives k = elim (mark_of streams receives.shown.items k) [
  | None ↦ get key_eq receives.hidden k
  | Some place ↦ place
]

-- a table that gives the place for this key, and nothing for any other
abbrev pub here : {X : Type 0} → Key → X → Key → Option X
here key place k = if key_eq key k then Some place else None

-- the place of the event, if it is a receive with the sender and the count of k
abbrev pub receive_rule : Key → Pid → ℕ → Event → Option (Pid × ℕ)
receive_rule k p i e = if is_stamp e then None else if pid_eq e.from k.from
    && e.serial.this == k.this then Some
    (p, i) else None

-- the link of an event before any receive is noted: a send is unpaired
abbrev pub link_back : List Stream → Event → Link
link_back streams e = elim e.kind [
  | kind.Send ↦ link.Unpaired
  | kind.Receive ↦ received_link e.from (stamp_of streams e.from e.serial.this)
  | kind.Print ↦ link.Printed
]

-- the index of a receive's send or print, by the receive's link, if it was reported
abbrev pub sent_in : Link → Option ℕ
sent_in (link.From q j) = Some j
sent_in l = None

-- the links of a process's events before any receive is noted
abbrev pub links_back : List Stream → Stream → List Link
links_back streams s = map (link_back streams) s.events

-- the sender and the count of the message that an event received
abbrev pub key_in : Event → Key
key_in e = record { from = e.from; this = e.serial.this }

-- a table gives the place of the first receive from each sender with each count
abbrev pub HasReceives : List Stream → (Key → Option (Pid × ℕ)) → Type 0
HasReceives streams table = (k : Key) → table k ≡ receive_of streams k.from k.this

-- the table, or the rest if the table gives nothing, gives the place of the first receive from
-- each sender with each count
abbrev pub HasReceivesWith : List Stream → (Key → Option (Pid × ℕ)) → (Key → Option (Pid × ℕ))
    → Type 0
HasReceivesWith streams table rest = HasReceives streams (λ k. or_else (table k) (rest k))

-- the rows of the sends and prints among these events; the first event has index i
abbrev pub stamp_rows : ℕ → List Event → List StampRow
stamp_rows i [] = []
stamp_rows i (e ∷ es) = if is_stamp e then record { count = e.serial.this; index = i }
    ∷ stamp_rows (i + 1) es else stamp_rows (i + 1) es

-- the rows of a process
abbrev pub rows_in : Stream → List StampRow
rows_in s = stamp_rows 0 s.events

-- the row, if it has this count
abbrev pub row_under : ℕ → StampRow → Option StampRow
row_under count r = if r.count == count then Some r else None

-- each row's count is less than those of the rows after it
abbrev pub AreRising : List StampRow → Type 0
AreRising [] = Unit {0}
AreRising (r ∷ rows) = AllByRecursion (λ s. r.count < s.count) rows × AreRising rows

-- the table has the rows of the streams, whose pids rise, and each process's counts rise
pub record AreStamps (streams : List Stream) (stamps : List (List StampRow)) : Type 0 where
  pub rows : stamps ≡ map rows_in streams
  pub pids : IsRising (pids_of streams)
  pub counts : first (not_rising streams) streams ≡ None

-- `got` gives the first receives of the streams, whose pids rise, and each process's counts rise
pub record IsGot (streams : List Stream) (got : Receives) : Type 0 where
  pub receives : HasReceives streams (place_for streams got)
  pub pids : IsRising (pids_of streams)
  pub counts : first (not_rising streams) streams ≡ None

-- the tables are those of the streams
pub record AreTables (streams : List Stream) (tables : Tables) : Type 0 where
  pub got : IsGot streams tables.got
  pub links : tables.links.items ≡ map (links_back streams) streams
