-- The hashers of one table begin in the same state.
use Rattle.std.specs.Prelude.{◌≡◌, ℕ, List}
use Rattle.std.specs.declared.hash.DefaultHasher.{DefaultHasher}
use Rattle.std.specs.Hash.DefaultHasher as sip
use Rattle.sha2.specs.declared.Sha256.{Sha256}
use Rattle.sha2.specs.Hashers.{Holds256}
use Rattle.sha2.specs.Sha256.{sha256}

-- a hasher that has taken the digest of its table's keys, and no key yet
abbrev pub begun_with : List ℕ → DefaultHasher
begun_with digest = sip.write sip.initial digest

-- `digest` is the SHA-256 digest of all bytes that were written to `keys`
abbrev pub IsDigestOf : Sha256 → List ℕ → Type 0
IsDigestOf keys digest = (bytes : List ℕ) → Holds256 keys bytes → digest ≡ sha256 bytes
