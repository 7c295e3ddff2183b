-- How far the digits of a number are read, in `number.rt`.
use Rattle.std.specs.Prelude.{◌≡◌, ℕ, ◌^◌, ◌<◌, ◌≤◌, List, take, drop, slice_index_or}
use Rattle.std.specs.Char.{is_ascii_digit}
use Rattle.std.specs.List.{prefix_len}
use Rattle.std.specs.Str.Parse.{digits_value}

-- how many digits the bytes begin with
abbrev pub digits_len : List ℕ → ℕ
digits_len bytes = prefix_len is_ascii_digit bytes

-- the digits that the bytes begin with
abbrev pub front : List ℕ → List ℕ
front bytes = take (digits_len bytes) bytes

-- the value of the first i digits
abbrev pub worth : ℕ → List ℕ → ℕ
worth i bytes = digits_value 10 (take i (front bytes))

-- The first digits of the bytes are read, and they don't begin with 0. Their value is n, and the
-- rest is left.
pub record HasRead (bytes rest : List ℕ) (n : ℕ) : Type 0 where
  pub count : ℕ
  pub some : 0 < count
  pub within : count ≤ digits_len bytes
  pub leads : 48 < slice_index_or bytes 0 0
  pub left : rest ≡ drop count bytes
  pub small : n < 2 ^ 64
  pub value : n ≡ worth count bytes
