-- The four ways in which events give a stamp, as a walk finds them.
use Rattle.std.specs.Prelude.{◌≡◌, ◌⊎◌, ℕ, max, ◌&&◌, true, List, [], ◌∷◌, ◌++◌, if◌then◌else◌}
use Rattle.std.specs.List.{AllByRecursion}
use Rattle.st_core.specs.declared.types.Serial.{Serial}
use Rattle.node_machine.specs.Counts.{answer_count, stamp_count, serial_count}
use Rattle.node_machine.specs.Node.{Seen}
use Rattle.node_machine.specs.Premises.{IsAmong}
use Rattle.node_machine.specs.Readings.{is_next, is_receipt, last_behind, Reading, readings}
use Rattle.node_machine.specs.Given.{takes, tokens}

-- the serials of the tokens that the events show; an answer's token isn't taken
abbrev pub carried : List Seen → List Serial
carried [] = []
carried (e ∷ es) = if is_receipt e && e.answer then carried es else e.serial ∷ carried es

-- the lasts that an event shows
abbrev pub lasts_shown : Seen → List ℕ
lasts_shown e = if is_receipt e
    then (if e.answer then serial_count (answer_count e.serial.this) ∷ []
    else e.serial.prev ∷ e.serial.this ∷ [])
    else e.serial.prev ∷ []

-- the lasts that a process can have had up to the end of its events, 0 too
abbrev pub lasts : List Seen → List ℕ
lasts [] = 0 ∷ []
lasts (e ∷ es) = lasts_shown e ++ lasts es

-- plainly: the stamp goes on from the counts after the events, in some reading
pub record IsPlainly (es : List Seen) (e : Seen) : Type 0 where
  pub reading : Reading
  pub reads : IsAmong (readings es) reading
  pub next : is_next reading.clock (last_behind 0 es) e ≡ true

-- again: the stamp is the successor of a token that the events show
pub record IsAgain (es : List Seen) (e : Seen) : Type 0 where
  pub token : Serial
  pub held : IsAmong (carried es) token
  pub prev : token.prev ≡ e.serial.prev
  pub count : e.serial.this ≡ stamp_count token.this

-- fresh: the stamp is the successor of a token that was made when last was its prev
abbrev pub IsFreshly : List Seen → Seen → Type 0
IsFreshly es e = (e.serial.this ≡ 1) × IsAmong (lasts es) e.serial.prev

-- lowered, by a token: the event before the stamp is a receive of a token, and has the stamp's
-- prev as its count. The given token, held earlier, was put back right before the receive, and the
-- clock is the greater of its count and the receive's
pub record IsLowered (es : List Seen) (e : Seen) (token : Serial) : Type 0 where
  pub front : List Seen
  pub receive : Seen
  pub split : es ≡ front ++ receive ∷ []
  pub taken : takes receive ≡ true
  pub held : IsAmong (tokens front) token
  pub prev : receive.serial.this ≡ e.serial.prev
  pub count : e.serial.this ≡ stamp_count (max token.this receive.serial.this)

-- the events give the stamp in one of four ways
abbrev pub IsInSomeWay : List Seen → Seen → Type 0
IsInSomeWay es e = IsPlainly es e
    ⊎ (IsAgain es e ⊎ (IsFreshly es e ⊎ ((token : Serial) × IsLowered es e token)))
