-- Sorting keeps all counts, and dropping repeats keeps each once.
use Rattle.std.proofs.lemmas.List.Filters.{dedup_is}
use Rattle.std.proofs.lemmas.List.Kept.{Contains-dedup_nat, Contains-from_dedup}
use Rattle.std.proofs.lemmas.List.Sorted.{Contains-permutation, IsPermutation-sym}
use Rattle.std.proofs.lemmas.Map.Keys.{IsStrictlyIncreasing-dedup, non_decreasing_from_sorted}
use Rattle.std.proofs.lemmas.Map.Keys.{sorted_from_strictly_increasing}
use Rattle.lack_needs.proofs.Counted.{counts_are}
use Rattle.lack_needs.proofs.ranks.counts_of.Goals as goal

pub returns-clause-is : goal.returns-clause-is
returns-clause-is c =
    let is = dedup_is _ _ _ c.dedup.ensures.filtered in
    let moved = c.sort_unstable.ensures.permutation in
    counts_are c.args.streams.now _ _ c.in_ok-counts.ensures
    (rw is (IsStrictlyIncreasing-dedup _ c.sort_unstable.ensures.sorted))
    (λ x h. rw is (Contains-dedup_nat _ x (Contains-permutation _ _ x moved h)))
    (λ x h. Contains-permutation _ _ x (IsPermutation-sym _ _ moved)
    (Contains-from_dedup _ _ x (rw is at h)))

pub returns-clause-rises : goal.returns-clause-rises
returns-clause-rises c =
    let is = dedup_is _ _ _ c.dedup.ensures.filtered in
    non_decreasing_from_sorted _ (sorted_from_strictly_increasing _
    (rw is (IsStrictlyIncreasing-dedup _ c.sort_unstable.ensures.sorted)))
