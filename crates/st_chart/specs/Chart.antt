-- The chart of one label, as bytes (own profile): a lane for each process, and a line for each
-- item.
use Rattle.std.specs.Prelude.{ℕ, ◌+◌, ◌==◌, ◌||◌, Bool, false, List, [], ◌∷◌, ◌++◌, filter, codes}
use Rattle.std.specs.Prelude.{decimal, Option, Some, None, if◌then◌else◌}
use Rattle.std.specs.List.{flat_map, filter_map, list_any}
use Rattle.std.specs.Option.{option_map_or}
use Rattle.st_core.specs.declared.types.Pid.{Pid}
use Rattle.st_core.specs.declared.types.Label.{Label}
use Rattle.st_core.specs.declared.types.Kind.{Kind}
use Rattle.st_core.specs.declared.types.Kind.TheVariants as kind
use Rattle.st_core.specs.declared.types.Event.{Event}
use Rattle.st_core.specs.Pid.{pid_eq}
use Rattle.st_core.specs.Run.{Stream, pids_of}
use Rattle.st_text.specs.Spelling as spelled
use Rattle.st_text.specs.Spelling.{ended_line}
use Rattle.st_order.specs.declared.item.Item.{Item}
use Rattle.st_order.specs.declared.item.Item.TheVariants as item
use Rattle.st_order.specs.Items.{event_of}
use Rattle.st_chain.specs.declared.cause.Cause.{Cause}
use Rattle.st_chain.specs.declared.cause.Cause.TheVariants as cause
use Rattle.st_chain.specs.Causes.{cause_at}
use Rattle.st_chart.specs.declared.charted_item.ChartedItem.{ChartedItem}
use Rattle.st_chart.specs.Words.{place_words}

-- ---- what is shown

-- an item with its event, if the event has the label
abbrev pub charted_of : List Stream → Label → Item → Option ChartedItem
charted_of streams label x = elim (event_of streams x) [
  | None ↦ None
  | Some e ↦ if e.label.0 == label.0 then Some (record { item = x; event = e }) else None
]

-- the items with the label, in their order
abbrev pub all_charted : List Stream → List Item → Label → List ChartedItem
all_charted streams items label = filter_map (charted_of streams label) items

-- p is an end of an event: its from or its to
abbrev pub is_end : Event → Pid → Bool
is_end e p = pid_eq e.from p || option_map_or (λ q. pid_eq q p) e.to false

-- ---- lanes

-- the lanes: the processes that are an end of a shown item, by rising pid
abbrev pub lanes : List Stream → List ChartedItem → List Pid
lanes streams xs = filter (λ p. list_any (λ x. is_end x.event p) xs) (pids_of streams)

abbrev pub lane_line : ℕ → Pid → List ℕ
lane_line k p = ended_line (codes "lane " ++ decimal k ++ codes " " ++ spelled.pid p)

-- a line for each lane; the first lane has number k
abbrev pub lane_lines : ℕ → List Pid → List ℕ
lane_lines k [] = []
lane_lines k (p ∷ ps) = lane_line k p ++ lane_lines (k + 1) ps

-- ---- marks

-- the item happened at p: a receive at its to, any other item at its from
abbrev pub is_at : ChartedItem → Pid → Bool
is_at x p = elim x.item [
  | item.Hidden q i ↦ pid_eq x.event.from p
  | item.Reported q i ↦ elim x.event.kind [
    | kind.Send ↦ pid_eq x.event.from p
    | kind.Receive ↦ option_map_or (λ to. pid_eq to p) x.event.to false
    | kind.Print ↦ pid_eq x.event.from p
  ]
]

-- the mark in the lane at which the item happened; each mark is right-aligned in four places
abbrev pub letter : Item → Kind → List ℕ
letter (item.Hidden p i) k = codes "   H"
letter (item.Reported p i) kind.Send = codes "   S"
letter (item.Reported p i) kind.Receive = codes "   R"
letter (item.Reported p i) kind.Print = codes "   P"

-- the mark in p's lane: a letter if the item happened at p, a point if p is its other end, else a
-- bar
abbrev pub mark : ChartedItem → Pid → List ℕ
mark x p = if is_at x p then letter x.item x.event.kind else if is_end x.event p then codes "   ."
    else codes "   |"

-- ---- words

-- the kind of an item, left-aligned in eight places
abbrev pub item_word : Item → Kind → List ℕ
item_word (item.Hidden p i) k = codes "hidden  "
item_word (item.Reported p i) kind.Send = codes "send    "
item_word (item.Reported p i) kind.Receive = codes "receive "
item_word (item.Reported p i) kind.Print = codes "print   "

-- the cause of an event; each shown item has an event, and so a cause
abbrev pub cause_words : Option Cause → List ℕ
cause_words None = []
cause_words (Some cause.Start) = codes "start"
cause_words (Some (cause.Event p i)) = codes "after " ++ place_words p i
cause_words (Some cause.Hidden) = codes "after hidden"

-- the cause of an item; that of a hidden send wasn't seen
abbrev pub origin_words : List Stream → Item → List ℕ
origin_words streams (item.Reported p i) = cause_words (cause_at streams p i)
origin_words streams (item.Hidden p i) = codes "unseen"

-- ---- lines

-- the kind of an item, its serial, its value and its cause
abbrev pub item_words : List Stream → ChartedItem → List ℕ
item_words streams x =
    item_word x.item x.event.kind ++ codes " " ++ spelled.serial x.event.serial ++ codes " "
    ++ decimal x.event.value
    ++ codes " " ++ origin_words streams x.item

-- a mark in each lane, two spaces, and the item's words
abbrev pub item_line : List Stream → List Pid → ChartedItem → List ℕ
item_line streams ps x = flat_map (mark x) ps ++ ended_line (codes "  " ++ item_words streams x)

abbrev pub label_line : Label → List ℕ
label_line label = ended_line (codes "label " ++ spelled.label label)

-- a line for the label, one for each lane, and one for each item
abbrev pub chart_lines : List Stream → Label → List Pid → List ChartedItem → List ℕ
chart_lines streams label ps xs =
    label_line label ++ lane_lines 1 ps ++ flat_map (item_line streams ps) xs

-- the chart of the items that have the label
abbrev pub chart_text : List Stream → List Item → Label → List ℕ
chart_text streams items label =
    let xs = all_charted streams items label in chart_lines streams label (lanes streams xs) xs
