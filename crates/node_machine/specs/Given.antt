-- The serials of the tokens that a process can have held, by its events, and which next stamp they
-- give.
use Rattle.std.specs.Prelude.{◌≡◌, ◌⊎◌, ℕ, ◌+◌, ◌==◌, ◌&&◌, ◌||◌, not, Bool, true, false, List, []}
use Rattle.std.specs.Prelude.{◌∷◌, ◌++◌, length, if◌then◌else◌}
use Rattle.std.specs.List.{AllByRecursion, list_any}
use Rattle.st_core.specs.declared.types.Serial.{Serial}
use Rattle.node_machine.specs.Counts.{answer_count, stamp_count, serial_count}
use Rattle.node_machine.specs.Node.{Seen}
use Rattle.node_machine.specs.Premises.{IsAmong}
use Rattle.node_machine.specs.Readings.{clock_behind, is_next, is_receipt, last_behind, last_by}
use Rattle.node_machine.specs.Readings.{Reading, readings}

-- whether the event is a receive whose token is taken: an answer's isn't
abbrev pub takes : Seen → Bool
takes e = is_receipt e && not e.answer

-- the serial of a token that a set makes on no token
abbrev pub fresh : ℕ → Serial
fresh last = record { prev = last; this = 0 }

-- the serials of tokens that an event shows: its own, but not an answer's, whose token isn't
-- taken; and that of a fresh token for each last that it shows
abbrev pub shown : Seen → List Serial
shown e = if is_receipt e
    then (if e.answer then fresh (serial_count (answer_count e.serial.this)) ∷ []
    else e.serial ∷ fresh e.serial.prev ∷ fresh e.serial.this ∷ [])
    else e.serial ∷ fresh e.serial.prev ∷ []

-- the serials of all tokens that a process can have held up to the end of its events
abbrev pub tokens : List Seen → List Serial
tokens [] = fresh 0 ∷ []
tokens (e ∷ es) = shown e ++ tokens es

-- a reading of the events leads to the counts, as if nothing was put back after the last stamp and
-- the last answer
pub record IsStraight (es : List Seen) (clock last : ℕ) : Type 0 where
  pub reading : Reading
  pub reads : IsAmong (readings es) reading
  pub clock_is : clock ≡ reading.clock
  pub last_is : last ≡ last_behind 0 es

-- a put-back leads to the counts: after the front events the process put back a token that it
-- held, and then it only took tokens with messages. If it took none, the next stamp is the token's
-- successor (again, or fresh); else last is the last receive's count, and only the clock comes
-- from the token too (lowered)
pub record IsPutBack (es : List Seen) (clock last : ℕ) : Type 0 where
  pub front : List Seen
  pub back : List Seen
  pub split : es ≡ front ++ back
  pub receives : AllByRecursion (λ e. takes e ≡ true) back
  pub token : Serial
  pub held : IsAmong (tokens front) token
  pub clock_is : clock ≡ clock_behind token.this back
  pub last_is : last ≡ last_behind token.prev back

-- the events before the stamp e give it: it goes on from counts to which they lead
pub record IsGiven (es : List Seen) (e : Seen) : Type 0 where
  pub clock : ℕ
  pub count : e.serial.this ≡ stamp_count clock
  pub way : IsStraight es clock e.serial.prev ⊎ IsPutBack es clock e.serial.prev

-- whether the stamp goes on from the counts of some reading of the events
abbrev pub some_reading_gives : List Seen → Seen → Bool
some_reading_gives es e = list_any (λ r. is_next r.clock (last_behind 0 es) e) (readings es)

-- whether a put-back of one of the tokens right before the events back leads to the stamp
abbrev pub leads : List Serial → List Seen → Seen → Bool
leads [] back e = false
leads (t ∷ ts) back e =
    is_next (clock_behind t.this back) (last_behind t.prev back) e || leads ts back e

abbrev pub are_taken : List Seen → Bool
are_taken [] = true
are_taken (e ∷ es) = takes e && are_taken es

-- whether a put-back at the end of the front events, or at a later place, leads to the stamp
abbrev pub put_back_gives : List Seen → List Seen → Seen → Bool
put_back_gives front [] e = leads (tokens front) [] e
put_back_gives front (d ∷ back) e =
    (are_taken (d ∷ back) && leads (tokens front) (d ∷ back) e)
    || put_back_gives (front ++ d ∷ []) back e

abbrev pub is_given : List Seen → Seen → Bool
is_given es e = some_reading_gives es e || put_back_gives [] es e

-- a token was put back at one of the places, after the last stamp and the last answer of the
-- events
pub record IsMet (places : List ℕ) (es : List Seen) : Type 0 where
  pub front : List Seen
  pub back : List Seen
  pub split : es ≡ front ++ back
  pub receives : AllByRecursion (λ e. takes e ≡ true) back
  pub place : IsAmong places (length front)

-- the number of stamps among the events whose prev isn't the last before them
abbrev pub strange_prevs_from : ℕ → List Seen → ℕ
strange_prevs_from last [] = 0
strange_prevs_from last (e ∷ es) =
    (if is_receipt e then 0 else (if e.serial.prev == last then 0 else 1))
    + strange_prevs_from (last_by e) es

abbrev pub strange_prevs : List Seen → ℕ
strange_prevs es = strange_prevs_from 0 es
