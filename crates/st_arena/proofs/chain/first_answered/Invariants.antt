-- The values from the key on are the items left, and each item before was answered false.
use Rattle.std.proofs.Common.{◌≡◌, ℕ, ◌<◌, ◌-◌, drop, false}
use Rattle.std.specs.Fn.{FnReturnsAt}
use Rattle.slab.specs.Slab.{get}
use Rattle.st_arena.specs.Calls.{IsAnswered}
use Rattle.st_arena.specs.Chain.{values_from, values_of}
use Rattle.st_arena.proofs.chain.first_answered.Given as goal

abbrev pub invariant-loop-place : goal.invariant-loop-place
invariant-loop-place g l =
    (values_from (get l.nodes) (l.fn.ends.len - l.place) l.key
    ≡ drop l.place (values_of (get l.nodes) l.fn.ends))
    × ((place : ℕ) → place < l.place
    → IsAnswered (FnReturnsAt g.F.Fn l.pred) (values_of (get l.nodes) l.fn.ends) place false)
