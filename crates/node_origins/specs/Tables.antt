-- The walk's tables: the first event that bears each label, the number of events after which a
-- process has had each token, and the origins of the tokens that a stamp may succeed.
use Rattle.std.specs.Prelude.{◌≡◌, ◌⊎◌, ℕ, ◌+◌, ◌<◌, ◌≤◌, ◌==◌, ◌&&◌, nat_eq, Bool, true, false}
use Rattle.std.specs.Prelude.{List, [], length, take, slice_get, Option, Some, None}
use Rattle.std.specs.List.{AllByRecursion}
use Rattle.std.specs.Option.{unwrap_or}
use Rattle.std.specs.HashMap.{get}
use Rattle.st_core.specs.declared.types.Label.{Label}
use Rattle.st_core.specs.declared.types.Serial.{Serial}
use Rattle.node_machine.specs.declared.types.Seen.{Seen}
use Rattle.node_machine.specs.Counts.{stamp_count}
use Rattle.node_machine.specs.Premises.{IsAmong}
use Rattle.node_machine.specs.Readings.{is_receipt}
use Rattle.node_machine.specs.Given.{tokens}
use Rattle.node_machine.specs.Origins.{Bears, Can, Follows, TokenOrigin}
use Rattle.node_origins.specs.declared.first_labels.FirstBearer.{FirstBearer}
use Rattle.node_origins.specs.declared.first_labels.FirstLabels.{FirstLabels}
use Rattle.node_origins.specs.declared.first_tokens.FirstTokens.{FirstTokens}
use Rattle.node_origins.specs.declared.home.Firsts.{Firsts}
use Rattle.node_origins.specs.declared.successors.Successor.{Successor}
use Rattle.node_origins.specs.declared.successors.Successors.{Successors}
use Rattle.node_origins.specs.declared.origin.EventOrigins.{EventOrigins}
use Rattle.node_origins.specs.declared.origin.EventOrigins.TheVariants as origins
use Rattle.node_origins.specs.Summary.{IsSummary}

-- LABELS

-- no event bears the label
abbrev pub NoneBears : Label → List Seen → Type 0
NoneBears label es = AllByRecursion (λ e. ¬ (Bears label e)) es

-- `first` is the first event that bears the label
pub record IsBearer (es : List Seen) (label : Label) (first : FirstBearer) : Type 0 where
  pub event : Seen
  pub at : slice_get es first.index ≡ Some event
  pub bears : Bears label event
  pub kind : is_receipt event ≡ first.receives
  pub new : NoneBears label (take first.index es)

abbrev pub IsFirstBearer : List Seen → Label → Option FirstBearer → Type 0
IsFirstBearer es label None = NoneBears label es
IsFirstBearer es label (Some first) = IsBearer es label first

abbrev pub first_in : FirstLabels → Label → Option FirstBearer
first_in t label = get nat_eq t.bearers label.0

abbrev pub AreFirstLabels : List Seen → FirstLabels → Type 0
AreFirstLabels es t = (label : Label) → IsFirstBearer es label (first_in t label)

-- TOKENS

-- a stamp with the serial succeeds a token of the list
pub record HasPredecessor (xs : List Serial) (prev this : ℕ) : Type 0 where
  pub token : Serial
  pub held : IsAmong xs token
  pub prev_is : token.prev ≡ prev
  pub count : this ≡ stamp_count token.this

abbrev pub same_serial : ℕ × ℕ → ℕ × ℕ → Bool
same_serial a b = a.0 == b.0 && a.1 == b.1

-- the table has the least number of events after which a token with each successor was held, for
-- the tokens before the number n and the tokens xs at n
pub record IsSince (es : List Seen) (n : ℕ) (xs : List Serial) (t : FirstTokens) : Type 0 where
  pub sound : (prev this m : ℕ) → get same_serial t.since (prev, this) ≡ Some m
      → ((m < n) × HasPredecessor (tokens (take m es)) prev this)
      ⊎ ((m ≡ n) × HasPredecessor xs prev this)
  pub least : (prev this k : ℕ) → k < n → HasPredecessor (tokens (take k es)) prev this
      → (m : ℕ) × (get same_serial t.since (prev, this) ≡ Some m) × (m ≤ k)
  pub new : (prev this : ℕ) → HasPredecessor xs prev this
      → (m : ℕ) × (get same_serial t.since (prev, this) ≡ Some m)

abbrev pub AreFirstTokens : List Seen → FirstTokens → Type 0
AreFirstTokens es t = IsSince es (length es + 1) [] t

abbrev pub AreFirstEvents : List Seen → Firsts → Type 0
AreFirstEvents es t = AreFirstLabels es t.labels × AreFirstTokens es t.tokens

-- SUCCESSORS

-- one of the first n events shows a token that a stamp with the label and serial succeeds, and
-- allows it the origin h
pub record LeadsTo (es : List Seen) (n label prev this : ℕ) (h : TokenOrigin) : Type 0 where
  pub index : ℕ
  pub event : Seen
  pub at : slice_get es index ≡ Some event
  pub before : index < n
  pub own : event.answer ≡ false
  pub label_is : event.label.0 ≡ label
  pub prev_is : event.serial.prev ≡ prev
  pub count : this ≡ stamp_count event.serial.this
  pub origin : ((is_receipt event ≡ true) × (h ≡ Follows index))
      ⊎ ((is_receipt event ≡ false) × Can es index h)

abbrev pub successor_eq : Successor → Successor → Bool
successor_eq a b = a.label == b.label && (a.prev == b.prev && a.this == b.this)

abbrev pub origins_in : Successors → Successor → EventOrigins
origins_in t x = unwrap_or (get successor_eq t.origins x) origins.Unknown

abbrev pub AreSuccessors : List Seen → ℕ → Successors → Type 0
AreSuccessors es n t = (x : Successor)
    → IsSummary (LeadsTo es n x.label x.prev x.this) (origins_in t x)
