-- The table so far with the streams left gives all receives, and no receive so far was a second
-- one.
use Rattle.std.proofs.Common.{◌≡◌, drop}
use Rattle.st_pair.specs.declared.receives.Key.{Key}
use Rattle.st_pair.specs.Places.{first, or_else}
use Rattle.st_pair.specs.Pairing.{repeated}
use Rattle.st_pair.specs.Tables.{place_for, receive_rule}
use Rattle.st_pair.proofs.receives.Receives.of.Given as goal

abbrev pub invariant-loop-place : goal.invariant-loop-place
invariant-loop-place l = record {
  table : (k : Key) → or_else (place_for l.streams l.receives k)
      (first (receive_rule k) (drop l.place l.streams))
      ≡ first (receive_rule k) l.streams;
  once : first (repeated l.streams) l.streams ≡ first (repeated l.streams) (drop l.place l.streams);
}
