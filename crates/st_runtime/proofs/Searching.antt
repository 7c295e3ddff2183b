-- Each rising key is at one place, so a binary search by a key finds it.
use Rattle.std.proofs.Common.{◌≡◌, ℕ, zero, suc, ◌<◌, ◌≤◌, List, [], ◌∷◌, length, map, get_or, Some}
use Rattle.std.proofs.Common.{◌∙◌, ap, subst, arith, Result, Ok, Err, ⊎_elim}
use Rattle.std.specs.Prelude.{Contains, slice_get, IfSome}
use Rattle.std.specs.Ordering.{nat_cmp, ordering_index}
use Rattle.std.specs.List.Sorted.{IsBinarySearchResult, IsSearchInRange}
use Rattle.std.specs.declared.cmp.Ordering.{Ordering}
use Rattle.std.specs.declared.cmp.Ordering.TheVariants.{Less, Equal, Greater}
use Rattle.std.proofs.lemmas.Bool.{cases_lt}
use Rattle.std.proofs.lemmas.Bool.Decides.{nat_tests}
use Rattle.std.proofs.lemmas.Option.{same_Some}
use Rattle.std.proofs.lemmas.List.{length-map}
use Rattle.std.specs.Result.{result_ok}
use Rattle.st_core.specs.declared.types.Pid.{Pid}
use Rattle.st_core.specs.Pid.{pid_cmp}
use Rattle.st_core.proofs.ForCallers.{nat_cmp-Equal}
use Rattle.st_log.specs.declared.entry.Entry.{Entry}
use Rattle.st_log.proofs.ForCallers.{search_keys}
use Rattle.st_runtime.specs.Logs.{RanksRise}
use Rattle.st_runtime.specs.Pcb.{Control}
use Rattle.st_runtime.specs.Pieces.{pids_in}
use Rattle.st_runtime.proofs.PidLemmas.{found_from_search}

-- ---- keys

-- the item at a place whose key is known
pub key_at : {X K : Type 0} (key : X → K) (xs : List X) (i : ℕ) (d : X) (k : K)
    → i < length xs → slice_get (map key xs) i ≡ Some k → key (get_or xs i d) ≡ k
key_at key [] i d k within is = absurd (omega arith)
key_at key (x ∷ xs) zero d k within is = same_Some _ _ is
key_at key (x ∷ xs) (suc i) d k within is = key_at key xs i d k (omega arith) is

-- ---- ranks

rank_above : (low : ℕ) (log : List Entry) (j : ℕ) (d : Entry)
    → RanksRise low log → j < length log → low < (get_or log j d).rank
rank_above low [] j d rises within = absurd (omega arith)
rank_above low (x ∷ xs) zero d rises within = rises.0
rank_above low (x ∷ xs) (suc j) d rises within =
    let rest = rank_above x.rank xs j d rises.1 (omega arith) in
    let first = rises.0 in
    omega arith

rank_rises : (low : ℕ) (log : List Entry) (i j : ℕ) (d : Entry)
    → RanksRise low log → i < j → j < length log → (get_or log i d).rank < (get_or log j d).rank
rank_rises low [] i j d rises lt within = absurd (omega arith)
rank_rises low (x ∷ xs) i zero d rises lt within = absurd (omega arith)
rank_rises low (x ∷ xs) zero (suc j) d rises lt within =
    rank_above x.rank xs j d rises.1 (omega arith)
rank_rises low (x ∷ xs) (suc i) (suc j) d rises lt within =
    rank_rises x.rank xs i j d rises.1 (omega arith)
    (omega arith)

rank_itself : (n : ℕ) → nat_cmp n n ≡ Equal
rank_itself n = grind (arith, nat_tests)

rank_order : (m n l : ℕ) → m ≤ n → ordering_index (nat_cmp m l) ≤ ordering_index (nat_cmp n l)
rank_order m n l le = grind (arith, nat_tests)

-- the entry at a place whose rank is that of an entry in the log is this entry
at_its_rank : (log : List Entry) (e : Entry) (i : ℕ) → RanksRise 0 log
    → i < length log → (get_or log i e).rank ≡ e.rank → Contains log e → get_or log i e ≡ e
at_its_rank log e i rises within same has =
    let k = has.0 in
    let inside : k < length log = has.1 in
    let rank : (get_or log k e).rank ≡ e.rank = ap (λ (d : Entry). d.rank) has.2 in
    ⊎_elim
    (λ below. let up = rank_rises 0 log i k e rises below inside in absurd (omega arith))
    (λ from. ⊎_elim
    (λ above. let up = rank_rises 0 log k i e rises above within in absurd (omega arith))
    (λ to. let one : i ≡ k = omega arith in ap (λ n. get_or log n e) one ∙ has.2)
    (cases_lt k i))
    (cases_lt i k)

-- what a binary search for an entry's rank says of the entry
pub entry_found : (log : List Entry) (e : Entry) (i : ℕ) → RanksRise 0 log → i < length log
    → IsBinarySearchResult (λ (y : Entry). nat_cmp y.rank e.rank) log (Ok i) → Contains log e
    → get_or log i e ≡ e
entry_found log e i rises within found has =
    at_its_rank log e i rises within (nat_cmp-Equal (get_or log i e).rank e.rank (found e)) has

not_less_itself : (n : ℕ) → nat_cmp n n ≡ Less → ⊥
not_less_itself n h = let is = rank_itself n in absurd (cc)

not_greater_itself : (n : ℕ) → nat_cmp n n ≡ Greater → ⊥
not_greater_itself n h = let is = rank_itself n in absurd (cc)

pub entry_missing : (log : List Entry) (e : Entry) (i : ℕ) → RanksRise 0 log
    → IsBinarySearchResult (λ (y : Entry). nat_cmp y.rank e.rank) log (Err i) → Contains log e → ⊥
entry_missing log e i rises found has =
    let k = has.0 in
    let inside : k < length log = has.1 in
    let Ranked : Ordering → Entry → Type 0 = λ o d. nat_cmp d.rank e.rank ≡ o in
    let parts = found (λ a b d le below. ⊎_elim
    (λ lt. let up = rank_rises 0 log a b d rises lt below in rank_order _ _ e.rank (omega arith))
    (λ eq. let one : a ≡ b = omega arith in
    rank_order _ _ e.rank (omega (arith, ap (λ n. (get_or log n d).rank) one)))
    (cases_lt a b)) in
    ⊎_elim
    (λ below. not_less_itself e.rank (subst (Ranked Less) has.2 (parts.0 k e (omega arith) below)))
    (λ from. not_greater_itself e.rank
    (subst (Ranked Greater) has.2 (parts.1 k e (omega arith) inside)))
    (cases_lt k i)

-- ---- processes

-- a process that a binary search for its pid finds
pub process_found : (xs : List Control) (p : Pid) (r : Result ℕ ℕ)
    → IsSearchInRange r (length xs)
    → IsBinarySearchResult (λ (x : Control). pid_cmp x.process.pid p) xs r
    → IfSome (result_ok r) (λ i. (i < length xs) × (slice_get (pids_in xs) i ≡ Some p))
process_found xs p (Ok i) within found =
    let long : length (pids_in xs) ≡ length xs = length-map xs (λ (x : Control). x.process.pid) in (
      within,
      found_from_search (pids_in xs) p (Ok i) (omega arith)
          (search_keys (λ (x : Control). x.process.pid) (λ q. pid_cmp q p) xs (Ok i) within found),
    )
process_found xs p (Err i) within found = tt

-- a pid that a binary search of the pids finds
pub pids_found : (xs : List Control) (p : Pid) (r : Result ℕ ℕ)
    → IsSearchInRange r (length xs)
    → IsBinarySearchResult (λ (x : Control). pid_cmp x.process.pid p) xs r
    → IfSome (result_ok r) (λ i. slice_get (pids_in xs) i ≡ Some p)
pids_found xs p (Ok i) within found = (process_found xs p (Ok i) within found).1
pids_found xs p (Err i) within found = tt
