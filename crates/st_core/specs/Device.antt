-- Devices: where bytes come from and go to (own profile). The contracts of byte sources and sinks
-- use these definitions; nothing here is about tracing.
use Rattle.std.specs.Prelude.{◌≡◌, ℕ, ◌-◌, ◌==◌, ◌&&◌, ◌||◌, nat_lt, Bool, true, false, List, []}
use Rattle.std.specs.Prelude.{◌++◌, length, drop, replicate, min, Option, Some, None, Result, Ok}
use Rattle.std.specs.Prelude.{MatchResult, option_map, if◌then◌else◌}

-- the mark of a device is false until a call fails, then true, and each later call fails
abbrev pub MarksFailure : {T E : Type 0} → Bool → Bool → Result T E → Type 0
MarksFailure old new r = MatchResult r (λ _. (old ≡ false) × (new ≡ false)) (λ _. new ≡ true)

-- on a device that hasn't failed a call with an empty piece succeeds, passes nothing and leaves
-- the device as it was
abbrev pub PassesEmpty : {S E : Type 0} → Bool → List ℕ → S → S → Result ℕ E → Type 0
PassesEmpty failed piece old new r = failed ≡ false → piece ≡ [] → (r ≡ Ok 0) × (new ≡ old)

-- calls in a row from one state of a device to another, and the bytes that they passed, one piece
-- after the other
pub data InARow {S : Type 0} (passes : S → List ℕ → S → Type 0) : S → List ℕ → S → Type 0 where
  NoCall : (s : S) → InARow passes s [] s
  OneMore : (a b c : S) (xs ys : List ℕ) → InARow passes a xs b → passes b ys c
      → InARow passes a (xs ++ ys) c

-- the number of bytes that a fuse lets through of n, all of them if there is no fuse
abbrev pub through : Option ℕ → ℕ → ℕ
through None n = n
through (Some left) n = min left n

-- the fuse after n bytes went through
abbrev pub burnt : Option ℕ → ℕ → Option ℕ
burnt fuse n = option_map (λ left. left - n) fuse

-- the number of bytes that a call passes of a piece of n if `most` get through, or None if the
-- call fails: the device has failed before, or the piece isn't empty and none of it gets through
abbrev pub let_through : Bool → ℕ → ℕ → Option ℕ
let_through failed n most = if failed || (nat_lt 0 n && most == 0) then None else Some most

-- a source over memory: the bytes that are left, how many its fuse still lets through, and whether
-- a call failed
pub record MemoryInput : Type 0 where
  pub left : List ℕ
  pub fuse : Option ℕ
  pub failed : Bool

-- a sink over memory: the bytes that were written, the room that is left, how many bytes its fuse
-- still lets through, and whether a call failed
pub record MemoryOutput : Type 0 where
  pub written : List ℕ
  pub room : ℕ
  pub fuse : Option ℕ
  pub failed : Bool

-- the number of bytes that a take into a piece of n bytes gives, None if it fails
abbrev pub taken_count : MemoryInput → ℕ → Option ℕ
taken_count s n =
    option_map (λ most. min most (length s.left)) (let_through s.failed n (through s.fuse n))

-- the number of bytes that a put of a piece of n writes, None if it fails
abbrev pub put_count : MemoryOutput → ℕ → Option ℕ
put_count s n = let_through s.failed n (min (through s.fuse n) s.room)

-- the source after a take of n bytes
abbrev pub after_take : MemoryInput → ℕ → MemoryInput
after_take s n = record { left = drop n s.left; fuse = burnt s.fuse n; failed = false }

-- the sink after a put of these bytes
abbrev pub after_put : MemoryOutput → List ℕ → MemoryOutput
after_put s bytes = record {
  written = s.written ++ bytes;
  room = s.room - length bytes;
  fuse = burnt s.fuse (length bytes);
  failed = false;
}

-- all of these bytes are zero
abbrev pub AreZeros : List ℕ → Type 0
AreZeros bytes = bytes ≡ replicate (length bytes) 0

-- one of std's readers or writers, and whether a call failed
pub record MarkedDevice (A : Type 0) : Type 0 where
  pub inner : A
  pub failed : Bool

-- a device, all the bytes that passed through it, and whether a call failed
pub record Recorded (A : Type 0) : Type 0 where
  pub inner : A
  pub passed : List ℕ
  pub failed : Bool
