-- A state's pids rise, so each comes once: a pid is found at its place, and a change of one
-- process alone is a write at its place.
use Rattle.std.proofs.Common.{◌≡◌, ℕ, zero, suc, false, cond, List, [], ◌∷◌, map, set, Some, None}
use Rattle.std.proofs.Common.{slice_get, refl, sym, ◌∙◌, ap, subst}
use Rattle.std.specs.List.{AllByRecursion}
use Rattle.std.proofs.lemmas.Option.{same_Some}
use Rattle.st_core.specs.declared.types.Pid.{Pid}
use Rattle.st_core.specs.Pid.{pid_eq, IsBelow, IsRising}
use Rattle.st_core.specs.State.{Process, State, process}
use Rattle.st_core.proofs.ForCallers.{all_apart, IsBelow-apart, pid_eq-same}

abbrev pub pids_in : State → List Pid
pids_in s = map (λ (r : Process). r.pid) s

-- no process of the state has the pid
abbrev pub AreOthers : State → Pid → Type 0
AreOthers s p = AllByRecursion (λ q. pid_eq q p ≡ false) (pids_in s)

-- f leaves each process but those with the pid
abbrev pub LeavesOthersOf : Pid → (Process → Process) → Type 0
LeavesOthersOf p f = (x : Process) → pid_eq x.pid p ≡ false → f x ≡ x

pub missing : (s : State) (p : Pid) → AreOthers s p → process s p ≡ None
missing [] p others = refl
missing (r ∷ s) p others =
    ap (λ b. cond b (Some r) (process s p)) others.0 ∙ missing s p others.1

-- a later process has a greater pid than the first
below_at : (p : Pid) (s : State) (i : ℕ) (r : Process) → AllByRecursion (IsBelow p) (pids_in s)
    → slice_get s i ≡ Some r → IsBelow p r.pid
below_at p [] i r all at = absurd (cc)
below_at p (x ∷ s) zero r all at =
    subst (λ (y : Process). IsBelow p y.pid) (same_Some x r at) all.0
below_at p (x ∷ s) (suc i) r all at = below_at p s i r all.1 at

pub found : (s : State) (i : ℕ) (r : Process) → IsRising (pids_in s) → slice_get s i ≡ Some r
    → process s r.pid ≡ Some r
found [] i r rising at = absurd (cc)
found (x ∷ s) zero r rising at =
    let is : x ≡ r = same_Some x r at in
    subst (λ (y : Process). cond (pid_eq x.pid y.pid) (Some x) (process s y.pid) ≡ Some y) is
    (ap (λ b. cond b (Some x) (process s x.pid)) (pid_eq-same x.pid))
found (x ∷ s) (suc i) r rising at =
    ap (λ b. cond b (Some x) (process s r.pid))
    (IsBelow-apart x.pid r.pid (below_at x.pid s i r rising.0 at))
    ∙ found s i r rising.1 at

map_rest : (s : State) (p : Pid) (f : Process → Process) → AreOthers s p → LeavesOthersOf p f
    → map f s ≡ s
map_rest [] p f others same = refl
map_rest (x ∷ s) p f others same =
    ap (λ y. y ∷ map f s) (same x others.0)
    ∙ ap (λ ys. x ∷ ys) (map_rest s p f others.1 same)

-- a change of one process alone is a write at its place
pub map_one : (s : State) (i : ℕ) (r : Process) (f : Process → Process) → IsRising (pids_in s)
    → slice_get s i ≡ Some r → LeavesOthersOf r.pid f → map f s ≡ set s i (f r)
map_one [] i r f rising at same = absurd (cc)
map_one (x ∷ s) zero r f rising at same =
    let is : x ≡ r = same_Some x r at in
    let others : AreOthers s r.pid =
    subst (λ (y : Process). AreOthers s y.pid) is (all_apart (pids_in s) x.pid rising.0) in
    ap (λ y. f y ∷ map f s) is ∙ ap (λ ys. f r ∷ ys) (map_rest s r.pid f others same)
map_one (x ∷ s) (suc i) r f rising at same =
    let apart = IsBelow-apart x.pid r.pid (below_at x.pid s i r rising.0 at) in
    ap (λ y. y ∷ map f s) (same x apart) ∙ ap (λ ys. x ∷ ys) (map_one s i r f rising.1 at same)

pub set_back : {A : Type 0} (xs : List A) (i : ℕ) (x : A) → slice_get xs i ≡ Some x
    → set xs i x ≡ xs
set_back [] i x at = refl
set_back (y ∷ xs) zero x at = ap (λ z. z ∷ xs) (sym (same_Some y x at))
set_back (y ∷ xs) (suc i) x at = ap (λ ys. y ∷ ys) (set_back xs i x at)

-- writing a process with the same pid leaves the pids
pub set_pids : (s : State) (i : ℕ) (r x : Process) → slice_get s i ≡ Some r → x.pid ≡ r.pid
    → pids_in (set s i x) ≡ pids_in s
set_pids [] i r x at same = refl
set_pids (y ∷ s) zero r x at same =
    ap (λ p. p ∷ pids_in s) (same ∙ ap (λ (z : Process). z.pid) (sym (same_Some y r at)))
set_pids (y ∷ s) (suc i) r x at same = ap (λ ps. y.pid ∷ ps) (set_pids s i r x at same)

pub map_same : {A : Type 0} (f : A → A) (xs : List A) → ((x : A) → f x ≡ x) → map f xs ≡ xs
map_same f [] same = refl
map_same f (x ∷ xs) same =
    ap (λ y. y ∷ map f xs) (same x) ∙ ap (λ ys. x ∷ ys) (map_same f xs same)
