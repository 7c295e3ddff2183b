-- The bytes that a writer hands to a sink, through a buffer of bytes that wait.
use Rattle.std.specs.Prelude.{◌≡◌, ℕ, ◌<◌, length, Bool, true, false, List, ◌++◌, Result}
use Rattle.std.specs.Prelude.{MatchResult}
use Rattle.st_core.specs.Device.{InARow}

-- the calls put these bytes in a row, and no call failed
pub record Writes {S : Type 0} (puts : S → List ℕ → S → Type 0) (failed : S → Bool) (text : List ℕ)
    (old new : S) :
    Type 0 where
  pub put : InARow puts old text new
  pub before : failed old ≡ false
  pub after : failed new ≡ false

-- a call failed, and the calls before it put a prefix of these bytes in a row
pub record WritesPart {S : Type 0} (puts : S → List ℕ → S → Type 0) (failed : S → Bool)
    (text : List ℕ) (old new : S) :
    Type 0 where
  pub written : List ℕ
  pub rest : List ℕ
  pub prefix : text ≡ written ++ rest
  pub put : InARow puts old written new
  pub after : failed new ≡ true

-- all of the text was written, or the device failed after a prefix of it
abbrev pub WritesText : {S T E : Type 0} → (S → List ℕ → S → Type 0) → (S → Bool) → List ℕ → S → S
    → Result T E
    → Type 0
WritesText puts failed text old new r = MatchResult r (λ _. Writes puts failed text old new)
    (λ _. WritesPart puts failed text old new)

-- ---- text that goes through a buffer

-- the bytes that waited and then the text went to the sink, but for the bytes that wait now
pub record Goes {S : Type 0} (puts : S → List ℕ → S → Type 0) (failed : S → Bool) (text : List ℕ)
    (old new : S)
    (waited waits : List ℕ) : Type 0 where
  pub written : List ℕ
  pub put : InARow puts old written new
  pub whole : waited ++ text ≡ written ++ waits
  pub mark : failed new ≡ failed old
  pub alive : 0 < length written → failed old ≡ false

abbrev pub WritesOn : {S T E : Type 0} → (S → List ℕ → S → Type 0) → (S → Bool) → List ℕ → S → S
    → List ℕ → List ℕ
    → Result T E → Type 0
WritesOn puts failed text old new waited waits r = MatchResult r
    (λ _. Goes puts failed text old new waited waits)
    (λ _. WritesPart puts failed (waited ++ text) old new)
