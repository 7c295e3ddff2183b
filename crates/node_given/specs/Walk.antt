-- The walk's way for each event, and its knowledge after events.
use Rattle.std.specs.Prelude.{◌≡◌, ℕ, ◌<◌, ◌^◌, Bool, true, false, List, [], ◌∷◌}
use Rattle.std.specs.List.{AllByRecursion}
use Rattle.st_core.specs.declared.types.Serial.{Serial}
use Rattle.node_machine.specs.Counts.{stamp_count}
use Rattle.node_machine.specs.declared.types.Seen.{Seen}
use Rattle.node_machine.specs.Premises.{IsAmong}
use Rattle.node_machine.specs.Readings.{is_receipt, last_behind, NeedsPutBack}
use Rattle.node_machine.specs.Given.{IsGiven, takes, tokens}
use Rattle.node_machine.specs.Ways.{IsLowered, IsPlainly}
use Rattle.node_given.specs.declared.tokens.Tokens.{Tokens}
use Rattle.node_given.specs.declared.walk.Walk.{Walk}
use Rattle.node_given.specs.declared.way.Way.{Way}
use Rattle.node_given.specs.declared.way.Way.TheVariants as way
use Rattle.node_given.specs.Clocks.{AreClocks}
use Rattle.node_given.specs.Tables.{AreTokens}

-- the counts of the events fit into a serial
abbrev pub AreFit : List Seen → Type 0
AreFit es = AllByRecursion (λ e. e.serial.this < 2 ^ 60) es

-- a token that the process held, or can have made, was put back right before the stamp
pub record IsPutBackNow (es : List Seen) (e : Seen) (token : Serial) : Type 0 where
  pub held : IsAmong (tokens es) token
  pub prev : token.prev ≡ e.serial.prev
  pub count : e.serial.this ≡ stamp_count token.this

-- the way is true of the event e after the events es; it names a put-back only if the stamp goes
-- on in no reading of them, and one before a receive only if none right before the stamp gives it
abbrev pub IsWay : List Seen → Seen → Way → Type 0
IsWay es e way.Receive = is_receipt e ≡ true
IsWay es e way.Plain = (is_receipt e ≡ false) × IsPlainly es e
IsWay es e (way.PutBack token) =
    (is_receipt e ≡ false) × NeedsPutBack es e × IsPutBackNow es e token
IsWay es e (way.Lowered token) =
    (is_receipt e ≡ false) × NeedsPutBack es e × IsLowered es e token
    × ((other : Serial) → ¬ (IsPutBackNow es e other))
IsWay es e way.Ungiven = (is_receipt e ≡ false) × ¬ (IsGiven es e)

-- whether the way names a token that was put back
abbrev pub names_put_back : Way → Bool
names_put_back (way.PutBack token) = true
names_put_back (way.Lowered token) = true
names_put_back w = false

-- whether the last of the events is a receive of a token
abbrev pub ends_in_take : List Seen → Bool
ends_in_take [] = false
ends_in_take (e ∷ []) = takes e
ends_in_take (e ∷ d ∷ es) = ends_in_take (d ∷ es)

-- what the walk knows after events
pub record IsKnown (es : List Seen) (ks : List ℕ) (lift last : ℕ) (taking : Bool)
    (t : Tokens) : Type 0 where
  pub clocks_are : AreClocks ks lift es
  pub last_is : last ≡ last_behind 0 es
  pub taking_is : taking ≡ ends_in_take es
  pub tokens_are : AreTokens (tokens es) t
  pub fit : AreFit es

abbrev pub Knows : Walk → List Seen → Type 0
Knows w es = IsKnown es w.clocks.items w.lift w.last w.takes w.tokens
