-- The four sources of a stamp's origins: a token that the stamp succeeds, the receive right before
-- it, the request of the answer right before it, and home.
use Rattle.std.specs.Prelude.{◌≡◌, ◌⊎◌, ℕ, ◌<◌, true, false, List}
use Rattle.node_machine.specs.declared.types.Seen.{Seen}
use Rattle.node_machine.specs.Counts.{answer_count, serial_count, stamp_count}
use Rattle.node_machine.specs.Readings.{is_receipt}
use Rattle.node_machine.specs.Origins.{Can, Follows, Home, IsAnsweredAt, IsAtHome, IsSuccessor}
use Rattle.node_machine.specs.Origins.{IsTaken, TokenOrigin}
use Rattle.node_given.specs.declared.way.Way.{Way}
use Rattle.node_given.specs.declared.way.Way.TheVariants as way

abbrev pub FromPredecessor : List Seen → ℕ → TokenOrigin → Type 0
FromPredecessor es i h = (k : ℕ)
    × ((IsSuccessor true es i k × (h ≡ Follows k)) ⊎ (IsSuccessor false es i k × Can es k h))

-- the event e at index i allows the origin h for the token that it shows
abbrev pub OfToken : List Seen → ℕ → Seen → TokenOrigin → Type 0
OfToken es i e h =
    ((is_receipt e ≡ true) × (h ≡ Follows i)) ⊎ ((is_receipt e ≡ false) × Can es i h)

abbrev pub FromReceive : List Seen → ℕ → TokenOrigin → Type 0
FromReceive es i h = (k : ℕ) × IsTaken es i k × (h ≡ Follows k)

abbrev pub FromRequest : List Seen → ℕ → TokenOrigin → Type 0
FromRequest es i h = (k : ℕ) × IsAnsweredAt es i k × Can es k h

abbrev pub FromHome : List Seen → ℕ → TokenOrigin → Type 0
FromHome es i h = IsAtHome es i × (h ≡ Home)

-- The receive right before a stamp, whose count is the stamp's prev, can have brought its token.
-- If what gives the stamp is a token that was put back right before it, that can as well have
-- happened before the receive, unless the receive lifted the clock above the token's count
abbrev pub LeavesReceive : Way → Seen → Type 0
LeavesReceive way.Plain e = Unit {0}
LeavesReceive (way.Lowered t) e = Unit {0}
LeavesReceive (way.PutBack t) e = (e.serial.this ≡ 0) ⊎ (e.serial.prev < e.serial.this)
LeavesReceive way.Receive e = ⊥
LeavesReceive way.Ungiven e = ⊥

-- the event right before the stamp can have brought its token
pub record Brings (event stamp : Seen) (w : Way) : Type 0 where
  pub kind : is_receipt event ≡ true
  pub own : event.answer ≡ false
  pub label : event.label ≡ stamp.label
  pub prev : event.serial.this ≡ stamp.serial.prev
  pub leaves : LeavesReceive w stamp

-- the stamp has the label of the request, and goes on from the answer
pub record FollowsAnswer (request answer stamp : Seen) : Type 0 where
  pub kind : is_receipt request ≡ false
  pub label : request.label ≡ stamp.label
  pub answers : answer.answer ≡ true
  pub prev : serial_count (answer_count answer.serial.this) ≡ stamp.serial.prev
  pub count : stamp.serial.this ≡ stamp_count (answer_count answer.serial.this)
