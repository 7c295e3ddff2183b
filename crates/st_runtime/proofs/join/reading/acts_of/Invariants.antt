-- So far these are the acts of the entries that were taken, and there is room for the others.
use Rattle.std.proofs.Common.{◌≡◌, ◌≤◌, ℕ, length, map, take, vec_len}
use Rattle.std.specs.Vec.{vec_capacity}
use denote.Ref.{Bor}
use Rattle.st_log.specs.Entries.{Logged}
use Rattle.st_runtime.specs.Joining.{referred}
use Rattle.st_runtime.proofs.join.reading.acts_of.Given as goal

abbrev pub invariant-loop-reference : goal.invariant-loop-reference
invariant-loop-reference l =
    (l.acts.items ≡ map (λ (r : Bor Logged × ℕ). (referred r).act)
    (take l.reference-index l.entries))
    × (vec_len l.acts ≡ l.reference-index)
    × (length l.entries ≤ vec_capacity l.acts)
