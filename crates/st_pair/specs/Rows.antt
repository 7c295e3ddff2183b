-- The rows of a list, which has each event that a filter chooses, in the order of the text, with
-- its place and its line; and what an event pairs with.
use Rattle.std.specs.Prelude.{ℕ, ◌+◌, ◌&&◌, ◌==◌, nat_le, Bool, true, List, [], ◌∷◌, ◌++◌}
use Rattle.std.specs.Prelude.{length, Option, Some, None, if◌then◌else◌}
use Rattle.st_core.specs.declared.types.Pid.{Pid}
use Rattle.st_core.specs.declared.types.Label.{Label}
use Rattle.st_core.specs.declared.types.Kind.{Kind}
use Rattle.st_core.specs.declared.types.Kind.TheVariants as kind
use Rattle.st_core.specs.declared.types.Event.{Event}
use Rattle.st_core.specs.Pid.{pid_eq}
use Rattle.st_core.specs.Run.{Stream}
use Rattle.st_pair.specs.declared.answer.Source.{Source}
use Rattle.st_pair.specs.declared.answer.Source.TheVariants as source
use Rattle.st_pair.specs.Pairing.{receiver_at, source_at}
use Rattle.st_pair.specs.declared.filter.Filter.{Filter}
use Rattle.st_pair.specs.declared.filter.Span.{Span}
use Rattle.st_pair.specs.declared.partner.Partner.{Partner}
use Rattle.st_pair.specs.declared.partner.Partner.TheVariants as partner
use Rattle.st_pair.specs.declared.rows.Row.{Row}

-- ---- which events

-- the number is within the span, ends included; without a span each number is
abbrev pub is_within : Option Span → ℕ → Bool
is_within None n = true
is_within (Some s) n = nat_le s.first n && nat_le n s.last

abbrev pub is_label : Option Label → Label → Bool
is_label None l = true
is_label (Some m) l = m.0 == l.0

abbrev pub is_process : Option Pid → Pid → Bool
is_process None p = true
is_process (Some q) p = pid_eq q p

-- the filter chooses the event of p on line n: it meets each condition of the filter
abbrev pub is_chosen : Filter → Pid → ℕ → Event → Bool
is_chosen f p n e =
    is_label f.label e.label && is_process f.process p && is_within f.lines n
    && is_within f.counts e.serial.this

-- ---- what an event pairs with

abbrev pub partner_of_send : Option (Pid × ℕ) → Partner
partner_of_send None = partner.NoReceive
partner_of_send (Some place) = partner.Receive place.0 place.1

abbrev pub partner_of_receive : Option Source → Partner
partner_of_receive (Some (source.Event q j)) = partner.Send q j
partner_of_receive (Some source.Hidden) = partner.NoSend
partner_of_receive None = partner.NoSend

-- the partner of event i of p, which is of this kind
abbrev pub partner_of : List Stream → Pid → ℕ → Kind → Partner
partner_of streams p i kind.Print = partner.Nobody
partner_of streams p i kind.Send = partner_of_send (receiver_at streams p i)
partner_of streams p i kind.Receive = partner_of_receive (source_at streams p i)

-- the place of the partner, if it is an event
abbrev pub place_of_partner : Partner → Option (Pid × ℕ)
place_of_partner (partner.Receive p i) = Some (p, i)
place_of_partner (partner.Send p i) = Some (p, i)
place_of_partner partner.NoReceive = None
place_of_partner partner.NoSend = None
place_of_partner partner.Nobody = None

-- ---- the rows

abbrev pub row_of : Pid → ℕ → ℕ → Event → Row
row_of p i n e = record { pid = p; index = i; line = n; event = e }

module _ (f : Filter) where
  abbrev pub row_if_chosen : Pid → ℕ → ℕ → Event → List Row
  row_if_chosen p i n e = if is_chosen f p n e then row_of p i n e ∷ [] else []

  -- the rows of the events of p that the filter chooses; the first event has index i and is on
  -- line n
  abbrev pub listed_at : Pid → ℕ → ℕ → List Event → List Row
  listed_at p i n [] = []
  listed_at p i n (e ∷ es) = row_if_chosen p i n e ++ listed_at p (i + 1) (n + 1) es

  -- the rows of these streams; the first stream's process line is line n
  abbrev pub listed_from : ℕ → List Stream → List Row
  listed_from n [] = []
  listed_from n (x ∷ xs) =
      listed_at x.pid 0 (n + 1) x.events ++ listed_from (n + 1 + length x.events) xs

  -- the rows of the streams of a text; the header is line 1, so the first process line is line 2
  abbrev pub listed : List Stream → List Row
  listed streams = listed_from 2 streams
