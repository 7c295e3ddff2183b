-- Two rising lists have the same pids in common, whichever is gone through. So the processes that
-- are found among the ends are the ends that are found among the processes.
use Rattle.std.proofs.Common.{◌≡◌, ℕ, zero, suc, ◌+◌, ◌<◌, Bool, true, ◌&&◌, ◌||◌, ◌==◌}
use Rattle.std.proofs.Common.{List, [], ◌∷◌, filter, cond, length, get_or, Result, Ok, Err, is_ok}
use Rattle.std.proofs.Common.{refl, sym, ap, ◌∙◌, arith}
use Rattle.std.specs.declared.cmp.Ordering.{Ordering}
use Rattle.std.specs.declared.cmp.Ordering.TheVariants.{Less}
use Rattle.std.specs.Ordering.{nat_cmp, ordering_then, is_eq}
use Rattle.std.specs.List.{list_any}
use Rattle.std.specs.List.Sorted.{IsStrictlySortedBy, IsBinarySearchResult, IsSearchInRange}
use Rattle.std.specs.BTreeSet.{BTreeSet, contains}
use Rattle.std.proofs.lemmas.Bool.Decides.{nat_tests}
use Rattle.std.proofs.lemmas.List.Kept.{IsStrictlySortedBy-filter}
use Rattle.std.proofs.lemmas.Map.Keys.{sorted_from_all_adjacent}
use Rattle.std.proofs.lemmas.Map.Lookups.{btree_set_from_contains}
use Rattle.std.proofs.lemmas.Map.Views.{any-filter_same}
use Rattle.st_core.specs.declared.types.Pid.{Pid}
use Rattle.st_core.specs.Pid.{pid_eq, pid_cmp, pid_on, IsRising}
use Rattle.st_core.specs.Streams.{is_among}
use Rattle.st_core.proofs.ForCallers.{pid_cmp-Equal, pid_eq-same, pid_eq-swap, rising_at}
use Rattle.st_core.proofs.ForCallers.{is_eq-Equal, is_among-missing, missing_from_search, or_true}
use Rattle.st_pair.proofs.ForCallers.{pid_total}

-- ---- pids that compare as equal are equal

numbers_equal : (a b : ℕ) → is_eq (nat_cmp a b) ≡ (a == b)
numbers_equal a b = grind (arith, nat_tests)

both_equal : (o p : Ordering) → is_eq (ordering_then o p) ≡ (is_eq o && is_eq p)
both_equal Less p = refl
both_equal o p = refl

pub pids_equal : (p q : Pid) → is_eq (pid_cmp p q) ≡ pid_eq p q
pids_equal p q =
    both_equal (nat_cmp p.node q.node) (nat_cmp p.number q.number)
    ∙ (λ i. numbers_equal p.node q.node i && numbers_equal p.number q.number i)

two_of : (a b c : Bool) → cond b true (cond a true c) ≡ (c || (a || b))
two_of a b c = grind arith

-- whether a set has p after a and b are added, if `old` says whether it had p before
pub both_noted : (a b p : Pid) (old one two : Bool) → one ≡ cond (is_eq (pid_cmp a p)) true old
    → two ≡ cond (is_eq (pid_cmp b p)) true one → two ≡ (old || (pid_eq a p || pid_eq b p))
both_noted a b p old one two first second =
    second ∙ (λ i. cond (pids_equal b p i) true
    ((first ∙ (λ j. cond (pids_equal a p j) true old)) i))
    ∙ two_of (pid_eq a p) (pid_eq b p) old

-- ---- pids of a list, as a set

abbrev as_set : List Pid → BTreeSet Pid
as_set ps = record { keys = ps }

abbrev has : List Pid → Pid → Bool
has ps p = contains pid_cmp (as_set ps) p

pub among_is_has : (ps : List Pid) (p : Pid) → is_among ps p ≡ has ps p
among_is_has ps p = λ i. list_any (λ q. (pid_eq-swap q p ∙ sym (pids_equal p q)) i) ps

sorted : (ps : List Pid) → IsRising ps → IsStrictlySortedBy pid_cmp ps
sorted ps rising =
    sorted_from_all_adjacent pid_total ps (pid_on 0 0) (λ k within.
    rising_at ps k (k + 1) (pid_on 0 0) rising (omega arith) within)

has_kept : (f : Pid → Bool) (ps : List Pid) (p : Pid) → has (filter f ps) p ≡ (f p && has ps p)
has_kept f ps p =
    any-filter_same (λ q. is_eq (pid_cmp p q)) f (f p) (λ q same.
    ap f (sym (pid_cmp-Equal p q (is_eq-Equal (pid_cmp p q) same)))) ps

and_swap : (a b : Bool) → (a && b) ≡ (b && a)
and_swap a b = grind arith

-- ---- what two lists have in common

common : (xs ys : List Pid) → IsStrictlySortedBy pid_cmp xs → IsStrictlySortedBy pid_cmp ys
    → filter (has ys) xs ≡ filter (has xs) ys
common xs ys xs_rise ys_rise =
    btree_set_from_contains pid_total (as_set (filter (has ys) xs)) (as_set (filter (has xs) ys))
    (IsStrictlySortedBy-filter pid_cmp (has ys) xs xs_rise)
    (IsStrictlySortedBy-filter pid_cmp (has xs) ys ys_rise)
    (λ p. has_kept (has ys) xs p ∙ and_swap (has ys p) (has xs p) ∙ sym (has_kept (has xs) ys p))
    pid_cmp-Equal

pub listed_ends : (ends : BTreeSet Pid) (pids : List Pid) → IsStrictlySortedBy pid_cmp ends.keys
    → IsRising pids
    → filter (is_among pids) ends.keys ≡ filter (contains pid_cmp ends) pids
listed_ends ends pids ordered rising =
    ap (λ (f : Pid → Bool). filter f ends.keys) (λ i p. among_is_has pids p i)
    ∙ common ends.keys pids ordered (sorted pids rising)

-- ---- what the search finds

among_at : (ps : List Pid) (p : Pid) (i : ℕ) → i < length ps → get_or ps i p ≡ p
    → is_among ps p ≡ true
among_at [] p i within at = absurd (omega (arith, within))
among_at (q ∷ ps) p zero within at = let same : q ≡ p = at in rw (same, pid_eq-same p) refl
among_at (q ∷ ps) p (suc i) within at =
    let later : get_or ps i p ≡ p = at in
    rw (among_at ps p i (omega (arith, within)) later) (or_true (pid_eq q p))

pub found_among : (ps : List Pid) (p : Pid) (r : Result ℕ ℕ) → IsRising ps
    → IsSearchInRange r (length ps)
    → IsBinarySearchResult (λ q. pid_cmp q p) ps r → is_ok r ≡ is_among ps p
found_among ps p (Ok i) rising within found =
    sym (among_at ps p i within (pid_cmp-Equal (get_or ps i p) p (found p)))
found_among ps p (Err i) rising within found =
    sym (is_among-missing ps p (missing_from_search ps p (Err i) rising found))
