-- Reading an event undoes its spelling, and reads no other bytes, by the steps of `Fields`.
use Rattle.std.proofs.Common.{◌≡◌, ℕ, ◌≤◌, List, ◌++◌, Option, Some, None, refl}
use Rattle.std.specs.Prelude.{codes, decimal}
use Rattle.st_core.specs.declared.types.Pid.{Pid}
use Rattle.st_core.specs.declared.types.Label.{Label}
use Rattle.st_core.specs.declared.types.Kind.{Kind}
use Rattle.st_core.specs.declared.types.Kind.TheVariants as kinds
use Rattle.st_core.specs.declared.types.Event.{Event}
use Rattle.st_text.specs.Spelling.{pid, label, serial, kind, place}
use Rattle.st_text.specs.Range.{FitsPid, FitsPlace, FitsEvent, most_label}
use Rattle.st_text.specs.Parsing.{parse_kind, parse_head, parse_some_pid, parse_place, parse_ends}
use Rattle.st_text.specs.Parsing.{parse_event}
use Rattle.st_text.proofs.Fields.{Takes, Any, unread, begins_cases, word_next, field_next, made}
use Rattle.st_text.proofs.Fields.{none_left, three_parts, four_parts, five_parts, value_takes}
use Rattle.st_text.proofs.Fields.{value_again, pid_takes, pid_again, label_takes, label_again}
use Rattle.st_text.proofs.Fields.{serial_takes, serial_again}

kind_takes : (bytes : List ℕ) (x : Kind × List ℕ) → parse_kind bytes ≡ Some x
    → Takes kind Any bytes x
unfolding parse_kind
kind_takes bytes x e =
    begins_cases (codes "send") bytes e (λ rest s e. made e s tt) λ e.
    begins_cases (codes "'receive'") bytes e (λ rest s e. made e s tt) λ e.
    begins_cases (codes "print") bytes e (λ rest s e. made e s tt) none_left

kind_again : (k : Kind) (rest : List ℕ) → parse_kind (kind k ++ rest) ≡ Some (k, rest)
unfolding parse_kind
kind_again kinds.Send rest = refl
kind_again kinds.Receive rest = refl
kind_again kinds.Print rest = refl

-- label and kind
abbrev Head : Type 0
Head = Label × Kind

abbrev head_of : Head → List ℕ
head_of h = label h.0 ++ codes ",{" ++ kind h.1 ++ codes ","

abbrev FitsHead : Head → Type 0
FitsHead h = h.0.0 ≤ most_label

head_takes : (bytes : List ℕ) (x : Head × List ℕ) → parse_head bytes ≡ Some x
    → Takes head_of FitsHead bytes x
unfolding parse_head
head_takes bytes x e =
    field_next (label_takes bytes) (unread bytes) e λ l fits s e.
    word_next (codes ",{") s e λ a s e.
    field_next (kind_takes a) s e λ k any s e.
    word_next (codes ",") s e λ b s e.
    made e s fits

head_again : (h : Head) (rest : List ℕ) → FitsHead h
    → parse_head (head_of h ++ rest) ≡ Some (h, rest)
unfolding parse_head
head_again h rest fits =
    rw (
      four_parts (label h.0) (codes ",{") (kind h.1) (codes ","),
      label_again h.0 _ fits refl,
      kind_again h.1,
    )

-- ---- sender and receiver

place_takes : (k : Kind) (bytes : List ℕ) (x : Option Pid × List ℕ) → parse_place k bytes ≡ Some x
    → Takes place (FitsPlace k) bytes x
unfolding parse_place parse_some_pid
place_takes kinds.Print bytes x e =
    begins_cases (codes "[]") bytes e (λ rest s e. made e s tt) none_left
place_takes k bytes x e =
    field_next (pid_takes bytes) (unread bytes) e λ p fits s e. made e s fits

place_again : (k : Kind) (o : Option Pid) (rest : List ℕ) → FitsPlace k o
    → parse_place k (place o ++ rest) ≡ Some (o, rest)
unfolding parse_place parse_some_pid
place_again kinds.Print None rest fits = refl
place_again kinds.Print (Some p) rest fits = absurd fits
place_again k None rest fits = absurd fits
place_again k (Some p) rest fits = rw (pid_again p rest fits)

abbrev Ends : Type 0
Ends = Pid × Option Pid

abbrev ends_of : Ends → List ℕ
ends_of x = pid x.0 ++ codes "," ++ place x.1

abbrev FitsEnds : Kind → Ends → Type 0
FitsEnds k x = FitsPid x.0 × FitsPlace k x.1

ends_takes : (k : Kind) (bytes : List ℕ) (x : Ends × List ℕ) → parse_ends k bytes ≡ Some x
    → Takes ends_of (FitsEnds k) bytes x
unfolding parse_ends
ends_takes k bytes x e =
    field_next (pid_takes bytes) (unread bytes) e λ p p_fits s e.
    word_next (codes ",") s e λ a s e.
    field_next (place_takes k a) s e λ q q_fits s e.
    made e s (p_fits, q_fits)

ends_again : (k : Kind) (x : Ends) (rest : List ℕ) → FitsEnds k x
    → parse_ends k (ends_of x ++ rest) ≡ Some (x, rest)
unfolding parse_ends
ends_again k x rest fits =
    rw (
      three_parts (pid x.0) (codes ",") (place x.1),
      pid_again x.0 _ fits.0,
      place_again k x.1 _ fits.1,
    )

-- ---- the whole event, after its first word

abbrev pub event_rest : Event → List ℕ
event_rest e =
    head_of (e.label, e.kind) ++ serial e.serial ++ codes "," ++ ends_of (e.from, e.to)
    ++ codes "," ++ decimal e.value ++ codes "}}"

pub event_takes : (bytes : List ℕ) (x : Event × List ℕ) → parse_event bytes ≡ Some x
    → Takes event_rest FitsEvent bytes x
unfolding parse_event
event_takes bytes x e =
    field_next (head_takes bytes) (unread bytes) e λ h label s e.
    field_next (serial_takes h.1) s e λ n serial s e.
    word_next (codes ",") s e λ a s e.
    field_next (ends_takes h.0.1 a) s e λ w ends s e.
    word_next (codes ",") s e λ b s e.
    field_next (value_takes b) s e λ v value s e.
    word_next (codes "}}") s e λ c s e.
    made e s (record { label = label; serial = serial; from = ends.0; to = ends.1; value = value })

pub event_again : (e : Event) (rest : List ℕ) → FitsEvent e
    → parse_event (event_rest e ++ rest) ≡ Some (e, rest)
unfolding parse_event
event_again e rest fits =
    let front : List ℕ = head_of (e.label, e.kind) ++ serial e.serial ++ codes "," in
    rw (
      five_parts front (ends_of (e.from, e.to)) (codes ",") (decimal e.value) (codes "}}"),
      three_parts (head_of (e.label, e.kind)) (serial e.serial) (codes ","),
      head_again (e.label, e.kind) _ fits.label,
      serial_again e.serial _ fits.serial,
      ends_again e.kind (e.from, e.to) _ (fits.from, fits.to),
      value_again e.value _ fits.value refl,
    )
