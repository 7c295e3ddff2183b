-- The two keys are those of the nodes at `place` and as far from the end, and each item outside
-- them was answered false.
use Rattle.std.proofs.Common.{◌≡◌, ℕ, suc, ◌+◌, ◌<◌, ◌≤◌, false}
use Rattle.std.specs.Fn.{FnReturnsAt}
use Rattle.slab.specs.Slab.{get}
use Rattle.st_arena.specs.Calls.{IsAnswered}
use Rattle.st_arena.specs.Chain.{values_of, key_after}
use Rattle.st_arena.proofs.chain.answered_from_ends.Given as goal

abbrev pub invariant-loop-place : goal.invariant-loop-place
invariant-loop-place g l =
    (l.front ≡ key_after (get l.nodes) l.fn.ends.first l.place)
    × ((k : ℕ) → suc (l.place + k) ≡ l.fn.ends.len
    → l.back ≡ key_after (get l.nodes) l.fn.ends.first k)
    × ((k : ℕ) → k < l.place
    → IsAnswered (FnReturnsAt g.F.Fn l.pred) (values_of (get l.nodes) l.fn.ends) k false)
    × ((k : ℕ) → k < l.fn.ends.len → l.fn.ends.len ≤ k + l.place
    → IsAnswered (FnReturnsAt g.F.Fn l.pred) (values_of (get l.nodes) l.fn.ends) k false)
