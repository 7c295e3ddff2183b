-- The pids of streams with further processes are the pids of both, sorted: two lists with the same
-- pids, one rising and the other sorted, begin with the same least pid, and so do their rests.
use Rattle.std.proofs.Common.{◌≡◌, ℕ, ◌+◌, zero, suc, ◌<◌, true, false, cond, List, [], ◌∷◌, ◌++◌}
use Rattle.std.proofs.Common.{slice_get, Some, sum_by, append-nil, refl, sym, ◌∙◌, ap, subst}
use Rattle.std.proofs.Common.{arith, get_or}
use Rattle.std.specs.List.{AllByRecursion}
use Rattle.std.specs.List.Sorted.{IsPermutation, IsSorted}
use Rattle.std.specs.Ordering.{is_lt}
use Rattle.std.proofs.lemmas.Bool.{false≢true}
use Rattle.std.proofs.lemmas.List.Sorted.{IsPermutation-cons, IsPermutation-middle}
use Rattle.std.proofs.lemmas.List.Sorted.{IsPermutation-refl, IsPermutation-trans, ranks_by}
use Rattle.std.proofs.lemmas.List.Sorted.{sorted_far, sum_by-IsPermutation}
use Rattle.std.proofs.lemmas.List.Sums.{sum_by-cons}
use Rattle.std.proofs.lemmas.Option.{get_or_from_slice_get, slice_get_within, same_Some}
use Rattle.st_core.specs.declared.types.Pid.{Pid}
use Rattle.st_core.specs.Pid.{pid_cmp, pid_eq, IsBelow, IsRising}
use Rattle.st_core.specs.Run.{Stream, pids_of}
use Rattle.st_core.specs.Streams.{lists, IsStreams}
use Rattle.st_core.proofs.ForCallers.{all_at, pid_eq-refl, pid_same}
use Rattle.st_pair.proofs.ForCallers.{pid_total}
use Rattle.lack_laws.specs.Silent.{inserted, silent, with_silent}
use Rattle.lack_laws.proofs.ForCallers.{silent_sound, unlisted_with}

-- THE PIDS OF BOTH

inserted_moves : (q : Pid) (xs : List Stream)
    → IsPermutation (q ∷ pids_of xs) (pids_of (inserted q xs))
inserted_moves q [] = IsPermutation-refl (q ∷ [])
inserted_moves q (x ∷ xs) =
    let ps = pids_of xs in
    elim (is_lt (pid_cmp q x.pid)) as (λ b. IsPermutation (q ∷ x.pid ∷ ps)
    (pids_of (cond b (silent q ∷ x ∷ xs) (x ∷ inserted q xs)))) [
      | true ↦ IsPermutation-refl (q ∷ x.pid ∷ ps)
      | false ↦
          let later = pids_of (inserted q xs) in
          IsPermutation-trans (q ∷ x.pid ∷ ps) (x.pid ∷ q ∷ ps) (x.pid ∷ later)
          (IsPermutation-middle (q ∷ []) x.pid ps)
          (IsPermutation-cons x.pid (q ∷ ps) later (inserted_moves q xs))
    ]

silent_moves : (streams : List Stream) → IsStreams streams → (qs : List Pid)
    → AllByRecursion (λ q. lists streams q ≡ false) qs → IsRising qs
    → IsPermutation (pids_of streams ++ qs) (pids_of (with_silent streams qs))
silent_moves streams sound [] apart rising =
    subst (λ ps. IsPermutation ps (pids_of streams)) (sym (append-nil (pids_of streams)))
    (IsPermutation-refl (pids_of streams))
silent_moves streams sound (q ∷ qs) apart rising =
    let ps = pids_of streams in
    let all = with_silent streams qs in
    let rest = silent_moves streams sound qs apart.1 rising.1 in
    subst (λ b. IsPermutation (ps ++ q ∷ qs) (pids_of (cond b all (inserted q all))))
    (sym (unlisted_with streams sound q qs apart.0 rising.0))
    (IsPermutation-trans (ps ++ q ∷ qs) (q ∷ (ps ++ qs)) (pids_of (inserted q all))
    (IsPermutation-middle ps q qs)
    (IsPermutation-trans (q ∷ (ps ++ qs)) (q ∷ pids_of all) (pids_of (inserted q all))
    (IsPermutation-cons q (ps ++ qs) (pids_of all) rest) (inserted_moves q all)))

-- ONE SORTED LIST

abbrev times : Pid → List Pid → ℕ
times p ps = sum_by (λ q. cond (pid_eq q p) 1 0) ps

found : (p : Pid) (ps : List Pid) → 0 < times p ps → (k : ℕ) × (slice_get ps k ≡ Some p)
found p [] some = absurd (omega (arith, some))
found p (q ∷ ps) some =
    elim (pid_eq q p) as (λ b. pid_eq q p ≡ b → times p (q ∷ ps) ≡ cond b 1 0 + times p ps
    → (k : ℕ) × (slice_get (q ∷ ps) k ≡ Some p)) [
      | true ↦ λ same _. (0, ap (λ (r : Pid). Some r) (pid_same q p same))
      | false ↦ λ _ sum. let rest = found p ps (omega (arith, some, sum)) in (suc rest.0, rest.1)
    ] refl (sum_by-cons (λ r. cond (pid_eq r p) 1 0) q ps)

once : (p : Pid) (ps : List Pid) → 0 < times p (p ∷ ps)
once p ps =
    let sum = sum_by-cons (λ r. cond (pid_eq r p) 1 0) p ps
    ∙ ap (λ b. cond b 1 0 + times p ps) (pid_eq-refl p) in
    omega (arith, sum)

abbrev AreSorted : List Pid → Type 0
AreSorted ps = IsSorted pid_cmp ps

rest_sorted : (p : Pid) (ps : List Pid) → AreSorted (p ∷ ps) → AreSorted ps
rest_sorted p ps sorted k d low less =
    let next : suc k + 1 ≡ suc (k + 1) = omega arith in
    subst (λ n. is_lt (pid_cmp (get_or (p ∷ ps) n d) (get_or ps k d)) ≡ false) next
    (sorted (suc k) d (omega arith) (omega arith))

-- a rising and a sorted list that hold each other's first pid begin with one pid
first_is : (x y : Pid) (xs ys : List Pid) → IsRising (x ∷ xs) → AreSorted (y ∷ ys)
    → (j k : ℕ) → slice_get (x ∷ xs) j ≡ Some y → slice_get (y ∷ ys) k ≡ Some x → y ≡ x
first_is x y xs ys rising sorted zero k at there = sym (same_Some x y at)
first_is x y xs ys rising sorted (suc j) zero at there = same_Some y x there
first_is x y xs ys rising sorted (suc j) (suc k) at there =
    let below : is_lt (pid_cmp x y) ≡ true = ap is_lt (all_at (IsBelow x) xs j y rising.0 at) in
    let far = sorted_far (λ a b. is_lt (pid_cmp a b)) (ranks_by pid_total (λ p. p)) (y ∷ ys) sorted
    0 (suc k) y (omega arith) (slice_get_within (y ∷ ys) (suc k) x there) in
    let here : get_or ys k y ≡ x = get_or_from_slice_get ys k x y there in
    absurd (false≢true (sym far ∙ ap (λ p. is_lt (pid_cmp p y)) here ∙ below))

sorted_is : (xs ys : List Pid) → IsRising xs → AreSorted ys
    → ((f : Pid → ℕ) → sum_by f ys ≡ sum_by f xs) → ys ≡ xs
sorted_is [] [] rising sorted same = refl
sorted_is [] (y ∷ ys) rising sorted same =
    let some = once y ys in let none = same (λ q. cond (pid_eq q y) 1 0) in
    absurd (omega (arith, some, none))
sorted_is (x ∷ xs) [] rising sorted same =
    let some = once x xs in let none = same (λ q. cond (pid_eq q x) 1 0) in
    absurd (omega (arith, some, none))
sorted_is (x ∷ xs) (y ∷ ys) rising sorted same =
    let one = once y ys in
    let other = once x xs in
    let in_xs = same (λ q. cond (pid_eq q y) 1 0) in
    let in_ys = same (λ q. cond (pid_eq q x) 1 0) in
    let here = found y (x ∷ xs) (omega (arith, one, in_xs)) in
    let there = found x (y ∷ ys) (omega (arith, other, in_ys)) in
    let first = first_is x y xs ys rising sorted here.0 there.0 here.1 there.1 in
    ap (λ p. p ∷ ys) first
    ∙ ap (λ ps. x ∷ ps) (sorted_is xs ys rising.1 (rest_sorted y ys sorted) (λ f.
    omega (arith, same f, sum_by-cons f x xs, sum_by-cons f y ys, ap f first)))

-- the pids of the streams and the others, sorted, are those of the longer streams
pub silent_pids : (streams : List Stream) → IsStreams streams → (qs before after : List Pid)
    → AllByRecursion (λ q. lists streams q ≡ false) qs → IsRising qs
    → before ≡ pids_of streams ++ qs → IsPermutation before after → AreSorted after
    → after ≡ pids_of (with_silent streams qs)
silent_pids streams sound qs before after apart rising both moved sorted =
    let all = pids_of (with_silent streams qs) in
    sorted_is all after (silent_sound streams sound qs).draft.rising sorted (λ f.
    sum_by-IsPermutation f before after moved ∙ ap (sum_by f) both
    ∙ sym (sum_by-IsPermutation f (pids_of streams ++ qs) all
    (silent_moves streams sound qs apart rising)))
