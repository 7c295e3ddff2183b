-- The ends so far have their numbers, and the last one is kept with its own.
use Rattle.std.proofs.Common.{◌≡◌, ℕ, ◌<◌, suc, Some, None, length, take}
use Rattle.std.specs.List.{count_by, slice_get}
use Rattle.node_streams.specs.declared.ends.End.{End}
use Rattle.node_streams.specs.Tables.{alike}
use Rattle.node_streams.proofs.AlikeEnds.{told_before}
use Rattle.node_streams.proofs.alike.alike_before.Given as goal

abbrev pub invariant-loop-end : goal.invariant-loop-end
invariant-loop-end l = record {
  size : length l.numbers.items ≡ length l.events;
  told : (k : ℕ) (x : End) → k < l.end-index → slice_get l.end-items k ≡ Some x
      → slice_get l.numbers.items x.index ≡ Some (told_before l.fn.kind l.events x);
  first : l.end-index ≡ 0 → l.last ≡ None;
  last : (k : ℕ) (x : End) → l.end-index ≡ suc k → slice_get l.end-items k ≡ Some x
      → (l.last ≡ Some x.content)
      × (l.number ≡ count_by (alike x.content) (take k l.end-items));
}
