-- The result of reading a source: it depends on the bytes that the calls gave in a row, and on
-- nothing else that the source tells.
use Rattle.std.specs.Prelude.{◌≡◌, ℕ, ◌+◌, ◌≤◌, Bool, true, false, List, ◌++◌, length, Result, Err}
use Rattle.st_core.specs.Device.{InARow}
use Rattle.st_text.specs.declared.bundle.Bundle.{Bundle}
use Rattle.st_text.specs.declared.fault.ReadFault.{ReadFault}
use Rattle.st_text.specs.declared.fault.ReadFault.TheVariants as faults
use Rattle.st_text.specs.declared.limits.Limits.{Limits}
use Rattle.st_text.specs.Answer.{IsReadResultOrMemory}
use Rattle.st_text.specs.Growth.{Grows}

-- a call failed, and there weren't too many bytes before it
pub record Fails (limits : Limits) {S : Type 0} (failed : S → Bool) (bytes : List ℕ)
    (new : S) : Type 0 where
  pub mark : failed new ≡ true
  pub small : length bytes ≤ limits.bytes

-- the source gave one byte too many, and the reader took no byte after it
pub record Overflows (limits : Limits) {S : Type 0} (failed : S → Bool) (bytes : List ℕ)
    (old new : S) : Type 0 where
  pub count : length bytes ≡ limits.bytes + 1
  pub before : failed old ≡ false
  pub after : failed new ≡ false

-- the source ended, and the result is that of its bytes
pub record Ends (limits : Limits) {S : Type 0} (ended : S → Type 0) (failed : S → Bool)
    (bytes : List ℕ) (old new : S)
    (r : Result Bundle ReadFault) : Type 0 where
  pub end : ended new
  pub small : length bytes ≤ limits.bytes
  pub before : failed old ≡ false
  pub after : failed new ≡ false
  pub answer : IsReadResultOrMemory limits bytes r

abbrev pub ReadsAs : Limits → {S : Type 0} → (S → Type 0) → (S → Bool) → List ℕ → S → S
    → Result Bundle ReadFault
    → Type 0
ReadsAs limits ended failed bytes old new (Err faults.Device) = Fails limits failed bytes new
ReadsAs limits ended failed bytes old new
    (Err faults.TooLarge) = Overflows limits failed bytes old new
ReadsAs limits ended failed bytes old new r = Ends limits ended failed bytes old new r

-- one of the calls gave a piece of which the reader had to keep something
pub record HadGrowth (limits : Limits) {S : Type 0} (gives : S → List ℕ → S → Type 0)
    (bytes : List ℕ)
    (old : S) : Type 0 where
  pub before : List ℕ
  pub piece : List ℕ
  pub after : List ℕ
  pub parts : bytes ≡ before ++ (piece ++ after)
  pub from : S
  pub to : S
  pub earlier : InARow gives old before from
  pub call : gives from piece to
  pub growth : Grows limits before piece

-- the calls gave some bytes in a row, the result is that of these bytes, and it is Memory only if
-- a call gave something to keep
pub record ReadsSource (limits : Limits) {S : Type 0} (gives : S → List ℕ → S → Type 0)
    (ended : S → Type 0)
    (failed : S → Bool)
    (old new : S) (r : Result Bundle ReadFault) : Type 0 where
  pub bytes : List ℕ
  pub given : InARow gives old bytes new
  pub answer : ReadsAs limits ended failed bytes old new r
  pub memory : r ≡ Err faults.Memory → HadGrowth limits gives bytes old
