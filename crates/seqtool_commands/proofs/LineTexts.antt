-- The lines after the header are those of each process in order, so an event's line is found by
-- passing the processes before it. The lines of acts are no event's.
use Rattle.std.proofs.Common.{◌≡◌, ℕ, ◌+◌, ◌-◌, ◌<◌, ◌≤◌, zero, suc, nat_lt, true, false, cond}
use Rattle.std.proofs.Common.{List, [], ◌∷◌, ◌++◌, length, map, Option, Some, None, slice_get, refl}
use Rattle.std.proofs.Common.{option_map, sym, ◌∙◌, ap, arith, append_assoc, inl, inr}
use Rattle.std.specs.List.{flat_map, list_any}
use Rattle.std.proofs.lemmas.Bool.{cases_lt, lt-ltb}
use Rattle.std.proofs.lemmas.Option.{same_Some, none-some, slice_get_within, slice_get-map}
use Rattle.st_core.specs.declared.types.Pid.{Pid}
use Rattle.st_core.specs.declared.types.Act.{Act}
use Rattle.st_core.specs.declared.types.Event.{Event}
use Rattle.st_core.specs.Pid.{pid_eq, IsRising}
use Rattle.st_core.specs.Run.{Stream, pids_of}
use Rattle.st_core.specs.Streams.{events_of, stream_of}
use Rattle.st_core.proofs.ForCallers.{above_apart, pid_eq-refl, pid_eq-true}
use Rattle.st_pair.proofs.ForCallers.{events_in}
use Rattle.st_text.specs.declared.line.Line.{Line}
use Rattle.st_text.specs.declared.line.Line.TheVariants as lines
use Rattle.st_text.specs.Text.{Contents, act_lines, body, is_remote, lines_of, process_lines}
use Rattle.seqtool_commands.specs.LineNumbers.{act_line_number_of, line_behind, line_from}
use Rattle.seqtool_commands.specs.LineNumbers.{line_number_of}

abbrev event_lines : List Event → List Line
event_lines es = map lines.Event es

event_line : (es : List Event) (rest : List Line) (i : ℕ) (e : Event) → slice_get es i ≡ Some e
    → slice_get (event_lines es ++ rest) i ≡ Some (lines.Event e)
event_line [] rest i e at = absurd (none-some e at)
event_line (x ∷ es) rest zero e at = ap (λ y. Some (lines.Event y)) (same_Some x e at)
event_line (x ∷ es) rest (suc i) e at = event_line es rest i e at

-- passing the events of a process leads to the lines after them
passed : (es : List Event) (rest : List Line) (k : ℕ)
    → slice_get (event_lines es ++ rest) (length es + k)
    ≡ slice_get rest k
passed [] rest k = let number : 0 + k ≡ k = omega arith in ap (slice_get rest) number
passed (e ∷ es) rest k =
    let number : suc (length es) + k ≡ suc (length es + k) = omega arith in
    ap (slice_get (event_lines (e ∷ es) ++ rest)) number ∙ passed es rest k

-- EVENTS HAVE THEIR LINES

record IsLineOf (first : ℕ) (streams : List Stream) (tail : List Line) (p : Pid) (i : ℕ)
    (e : Event) : Type 0 where
  line : ℕ
  is : line_from first streams p i ≡ Some line
  low : first ≤ line
  at : slice_get (flat_map process_lines streams ++ tail) (line + 1 - first) ≡ Some (lines.Event e)

line_in : (first : ℕ) (streams : List Stream) (tail : List Line) (p : Pid) (i : ℕ) (e : Event)
    → slice_get (events_of streams p) i ≡ Some e → IsLineOf first streams tail p i e
line_in first [] tail p i e at = absurd (none-some e at)
line_in first (s ∷ streams) tail p i e at =
    let next = first + length s.events + 1 in
    let behind = flat_map process_lines streams ++ tail in
    let whole : flat_map process_lines (s ∷ streams) ++ tail ≡ lines.Process s.pid ∷
    (event_lines s.events ++ behind) =
    append_assoc (process_lines s) (flat_map process_lines streams) tail in
    elim (pid_eq s.pid p) as (λ b. pid_eq s.pid p ≡ b
    → slice_get (events_in (cond b (Some s) (stream_of streams p))) i ≡ Some e
    → IsLineOf first (s ∷ streams) tail p i e) [
      | true ↦ λ same at.
          let less = slice_get_within s.events i e at in
          let number : first + i + 1 - first ≡ suc i = omega arith in
          record {
            line = first + i;
            is = ap (λ b. cond b (cond (nat_lt i (length s.events)) (Some (first + i)) None)
                (line_from next streams p i)) same
                ∙ ap (λ b. cond b (Some (first + i)) None) (lt-ltb i (length s.events) less);
            low = omega arith;
            at = ap (λ n. slice_get (flat_map process_lines (s ∷ streams) ++ tail) n) number
                ∙ ap (λ ls. slice_get ls (suc i)) whole ∙ event_line s.events behind i e at;
          }
      | false ↦ λ other at.
          let rest = line_in next streams tail p i e at in
          let low = rest.low in
          let n = rest.line in
          let number : n + 1 - first ≡ suc (length s.events + (n + 1 - next)) = omega arith in
          record {
            line = n;
            is = ap (λ b. cond b (cond (nat_lt i (length s.events)) (Some (first + i)) None)
                (line_from next streams p i)) other ∙ rest.is;
            low = omega arith;
            at = ap (λ k. slice_get (flat_map process_lines (s ∷ streams) ++ tail) k) number
                ∙ ap (λ ls. slice_get ls (suc (length s.events + (n + 1 - next)))) whole
                ∙ passed s.events behind (n + 1 - next) ∙ rest.at;
          }
    ] refl at

pub event_on_line : (c : Contents) (p : Pid) (i : ℕ) (e : Event)
    → slice_get (events_of c.streams p) i ≡ Some e
    → (n : ℕ) × (line_number_of c.streams p i ≡ Some n)
    × (slice_get (lines_of c) (n - 1) ≡ Some (lines.Event e))
event_on_line c p i e at =
    let x = line_in 3 c.streams (act_lines c.acts) p i e at in
    let n = x.line in
    let low = x.low in
    let number : n - 1 ≡ suc (n + 1 - 3) = omega arith in
    (n, x.is, ap (slice_get (lines_of c)) number ∙ x.at)

-- ACTS HAVE THEIR LINES

-- passing all processes leads to the lines after them
record IsBehind (first : ℕ) (streams : List Stream) (tail : List Line) : Type 0 where
  low : first ≤ line_behind first streams
  tail_at : (k : ℕ) → slice_get (flat_map process_lines streams ++ tail)
      (line_behind first streams - first + k)
      ≡ slice_get tail k

all_passed : (first : ℕ) (streams : List Stream) (tail : List Line) → IsBehind first streams tail
all_passed first [] tail = record {
  low = omega arith;
  tail_at = λ k. let number : first - first + k ≡ k = omega arith in ap (slice_get tail) number;
}
all_passed first (s ∷ streams) tail =
    let next = first + length s.events + 1 in
    let last = line_behind next streams in
    let behind = flat_map process_lines streams ++ tail in
    let rest = all_passed next streams tail in
    let low = rest.low in
    let whole : flat_map process_lines (s ∷ streams) ++ tail ≡ lines.Process s.pid ∷
    (event_lines s.events ++ behind) =
    append_assoc (process_lines s) (flat_map process_lines streams) tail in
    record {
      low = omega arith;
      tail_at = λ k.
          let number : last - first + k ≡ suc (length s.events + (last - next + k)) = omega arith in
          ap (slice_get (flat_map process_lines (s ∷ streams) ++ tail)) number
          ∙ ap (λ ls. slice_get ls (suc (length s.events + (last - next + k)))) whole
          ∙ passed s.events behind (last - next + k) ∙ rest.tail_at k;
    }

pub act_on_line : (c : Contents) (acts : List Act) (n : ℕ) (a : Act) → c.acts ≡ Some acts
    → slice_get acts n ≡ Some a
    → slice_get (lines_of c) (act_line_number_of c.streams n - 1) ≡ Some (lines.Act a)
act_on_line c acts n a are at =
    let behind = all_passed 3 c.streams (act_lines c.acts) in
    let low = behind.low in
    let last = line_behind 3 c.streams in
    let number : last + n - 1 ≡ suc (last - 3 + suc n) = omega arith in
    ap (slice_get (lines_of c)) number ∙ behind.tail_at (suc n)
    ∙ ap (λ x. slice_get (act_lines x) (suc n)) are ∙ slice_get-map lines.Act acts n
    ∙ ap (option_map lines.Act) at

-- LINES HAVE THEIR EVENTS

record HasPlace (first : ℕ) (streams : List Stream) (n : ℕ) (e : Event) : Type 0 where
  pid : Pid
  index : ℕ
  at : slice_get (events_of streams pid) index ≡ Some e
  line : line_from first streams pid index ≡ Some (first + n)

no_act_event : (acts : List Act) (k : ℕ) (e : Event)
    → slice_get (map lines.Act acts) k ≡ Some (lines.Event e) → ⊥
no_act_event [] k e at = absurd (none-some (lines.Event e) at)
no_act_event (a ∷ acts) zero e at =
    let same = same_Some (lines.Act a) (lines.Event e) at in absurd (cc)
no_act_event (a ∷ acts) (suc k) e at = no_act_event acts k e at

no_event_of_acts : (acts : Option (List Act)) (k : ℕ) (e : Event)
    → slice_get (act_lines acts) k ≡ Some (lines.Event e)
    → ⊥
no_event_of_acts None k e at = absurd (none-some (lines.Event e) at)
no_event_of_acts (Some acts) zero e at =
    let same = same_Some lines.Acts (lines.Event e) at in absurd (cc)
no_event_of_acts (Some acts) (suc k) e at = no_act_event acts k e at

event_back : (es : List Event) (rest : List Line) (k : ℕ) (e : Event) → k < length es
    → slice_get (event_lines es ++ rest) k ≡ Some (lines.Event e) → slice_get es k ≡ Some e
event_back [] rest k e less at = absurd (omega arith)
event_back (x ∷ es) rest zero e less at =
    let same = same_Some (lines.Event x) (lines.Event e) at in
    let one : x ≡ e = cc in
    ap Some one
event_back (x ∷ es) rest (suc k) e less at = event_back es rest k e (omega arith) at

listed_event : (streams : List Stream) (p : Pid) (i : ℕ) (e : Event)
    → slice_get (events_of streams p) i ≡ Some e
    → (k : ℕ) × (slice_get (pids_of streams) k ≡ Some p)
listed_event [] p i e at = absurd (none-some e at)
listed_event (s ∷ streams) p i e at = elim (pid_eq s.pid p) as (λ b. pid_eq s.pid p ≡ b
    → slice_get (events_in (cond b (Some s) (stream_of streams p))) i ≡ Some e
    → (k : ℕ) × (slice_get (pids_of (s ∷ streams)) k ≡ Some p)) [
      | true ↦ λ same _. (0, ap Some (pid_eq-true s.pid p same))
      | false ↦ λ _ at. let rest = listed_event streams p i e at in (suc rest.0, rest.1)
    ] refl at

abbrev Placed : ℕ → List Stream → ℕ → Event → Type 0
Placed first streams k e = (n : ℕ) × (k ≡ suc n) × HasPlace first streams n e

-- an event of the first process has its place
placed_here : (first : ℕ) (s : Stream) (streams : List Stream) (k : ℕ) (e : Event)
    → slice_get s.events k ≡ Some e
    → Placed first (s ∷ streams) (suc k) e
placed_here first s streams k e at =
    let next = first + length s.events + 1 in
    let own = pid_eq-refl s.pid in (
      k,
      refl,
      record {
        pid = s.pid;
        index = k;
        at = ap (λ b. slice_get (events_in (cond b (Some s) (stream_of streams s.pid))) k) own ∙ at;
        line =
            ap (λ b. cond b (cond (nat_lt k (length s.events)) (Some (first + k)) None)
            (line_from next streams s.pid k)) own
            ∙ ap (λ b. cond b (Some (first + k)) None) (lt-ltb k (length s.events)
            (slice_get_within s.events k e at));
      },
    )

-- an event of a later process has its place
placed_behind : (first : ℕ) (s : Stream) (streams : List Stream) (k : ℕ) (e : Event)
    → IsRising (pids_of (s ∷ streams))
    → length s.events ≤ k → Placed (first + length s.events + 1) streams (k - length s.events) e
    → Placed first (s ∷ streams) (suc k) e
placed_behind first s streams k e rising past x =
    let next = first + length s.events + 1 in
    let h = x.2 in
    let p = h.pid in
    let i = h.index in
    let later = listed_event streams p i e h.at in
    let apart : pid_eq s.pid p ≡ false =
    above_apart (pids_of streams) s.pid p later.0 rising.0 later.1 in
    let index = x.1 in
    let number : next + x.0 ≡ first + k = omega arith in (
      k,
      refl,
      record {
        pid = p;
        index = i;
        at = ap (λ b. slice_get (events_in (cond b (Some s) (stream_of streams p))) i) apart ∙ h.at;
        line =
            ap (λ b. cond b (cond (nat_lt i (length s.events)) (Some (first + i)) None)
            (line_from next streams p i)) apart
            ∙ h.line ∙ ap Some number;
      },
    )

placed_in : (first : ℕ) (s : Stream) (streams : List Stream) (behind : List Line) (k : ℕ)
    (e : Event)
    → IsRising (pids_of (s ∷ streams))
    → slice_get (lines.Process s.pid ∷ (event_lines s.events ++ behind)) k ≡ Some (lines.Event e)
    → ((j : ℕ) → slice_get behind j ≡ Some (lines.Event e)
    → Placed (first + length s.events + 1) streams j e)
    → Placed first (s ∷ streams) k e
placed_in first s streams behind zero e rising at rest =
    let same = same_Some (lines.Process s.pid) (lines.Event e) at in absurd (cc)
placed_in first s streams behind (suc k) e rising at rest = elim (cases_lt k (length s.events)) [
  | inl below ↦ placed_here first s streams k e (event_back s.events behind k e below at)
  | inr past ↦
      let number : length s.events + (k - length s.events) ≡ k = omega arith in
      placed_behind first s streams k e rising past (rest (k - length s.events)
      (sym (passed s.events behind (k - length s.events))
      ∙ ap (slice_get (event_lines s.events ++ behind)) number ∙ at))
]

placed : (first : ℕ) (streams : List Stream) (acts : Option (List Act)) (k : ℕ) (e : Event)
    → IsRising (pids_of streams)
    → slice_get (flat_map process_lines streams ++ act_lines acts) k ≡ Some (lines.Event e)
    → Placed first streams k e
placed first [] acts k e rising at = absurd (no_event_of_acts acts k e at)
placed first (s ∷ streams) acts k e rising at =
    let behind = flat_map process_lines streams ++ act_lines acts in
    let whole : flat_map process_lines (s ∷ streams) ++ act_lines acts
    ≡ lines.Process s.pid ∷ (event_lines s.events ++ behind) =
    append_assoc (process_lines s) (flat_map process_lines streams) (act_lines acts) in
    placed_in first s streams behind k e rising (ap (λ ls. slice_get ls k) (sym whole) ∙ at)
    (λ j there. placed (first + length s.events + 1) streams acts j e rising.1 there)

pub line_has_event : (c : Contents) (n : ℕ) (e : Event) → IsRising (pids_of c.streams)
    → slice_get (lines_of c) n ≡ Some (lines.Event e)
    → (p : Pid) × (i : ℕ) × (slice_get (events_of c.streams p) i ≡ Some e)
    × (line_number_of c.streams p i ≡ Some (suc n))
line_has_event c zero e rising at =
    let same = same_Some (lines.Header (list_any is_remote (body c))) (lines.Event e) at in absurd
    (cc)
line_has_event c (suc k) e rising at =
    let x = placed 3 c.streams c.acts k e rising at in
    let index = x.1 in
    let number : 3 + x.0 ≡ suc (suc k) = omega arith in
    (x.2.pid, x.2.index, x.2.at, x.2.line ∙ ap Some number)
