-- If no pid occurs twice in a state, the definition's step changes only the actor's record, at its
-- place, before the act reaches other processes; and a map that changes only one record is a write
-- at its place.
use Rattle.std.proofs.Common.{◌≡◌, ℕ, zero, suc, false, if◌then◌else◌, List, [], ◌∷◌, map, set}
use Rattle.std.proofs.Common.{Some, None, slice_get}
use Rattle.std.proofs.Common.{option_map, option_and_then, refl, sym, ◌∙◌, ap, subst}
use Rattle.std.specs.List.{AllByRecursion}
use Rattle.std.proofs.lemmas.List.{map-id}
use Rattle.std.proofs.lemmas.Simd.{map-map}
use Rattle.std.proofs.lemmas.Option.{same_Some}
use Rattle.st_core.specs.declared.types.Act.{Act}
use Rattle.st_core.specs.declared.types.Pid.{Pid}
use Rattle.st_core.specs.Pid.{pid_eq}
use Rattle.st_core.specs.State.{Process, State, process}
use Rattle.st_core.specs.Step.{Acted, acted, actor, receiver, reached, changed, outcome_of, step}
use Rattle.st_core.proofs.ForCallers.{all_at, pid_eq-same, pid_eq-swap}

-- no pid occurs twice
abbrev pub AreApart : State → Type 0
AreApart [] = Unit {0}
AreApart (r ∷ s) = AllByRecursion (λ x. pid_eq x.pid r.pid ≡ false) s × AreApart s

-- the process with the pid p is r, at the place i
pub record StandsAt (s : State) (p : Pid) (i : ℕ) (r : Process) : Type 0 where
  pub at : slice_get s i ≡ Some r
  pub found : process s p ≡ Some r
  pub own : r.pid ≡ p

-- MAPS

pub map_agree : {A B : Type 0} (f g : A → B) (xs : List A) → ((x : A) → f x ≡ g x)
    → map f xs ≡ map g xs
map_agree f g [] same = refl
map_agree f g (x ∷ xs) same = rw (same x, map_agree f g xs same) refl

pub map_same : {A : Type 0} (f : A → A) (xs : List A) → ((x : A) → f x ≡ x) → map f xs ≡ xs
map_same f xs same = map_agree f (λ x. x) xs same ∙ map-id xs

-- writing what is there changes nothing
pub set_back : {A : Type 0} (xs : List A) (i : ℕ) (x : A) → slice_get xs i ≡ Some x
    → set xs i x ≡ xs
set_back [] i x h = refl
set_back (z ∷ xs) zero x h = ap (λ w. w ∷ xs) (sym (same_Some z x h))
set_back (z ∷ xs) (suc i) x h = ap (λ ys. z ∷ ys) (set_back xs i x h)

-- the function changes no process but q
abbrev pub LeavesRest : Pid → (Process → Process) → Type 0
LeavesRest q f = (x : Process) → pid_eq x.pid q ≡ false → f x ≡ x

map_rest : (s : State) (q : Pid) (f : Process → Process)
    → AllByRecursion (λ x. pid_eq x.pid q ≡ false) s → LeavesRest q f → map f s ≡ s
map_rest [] q f others same = refl
map_rest (x ∷ s) q f others same = rw (same x others.0, map_rest s q f others.1 same) refl

-- if a function changes only one record, mapping it is a write at the record's place
pub map_one : (s : State) (i : ℕ) (r : Process) (f : Process → Process)
    → AreApart s → slice_get s i ≡ Some r → LeavesRest r.pid f → map f s ≡ set s i (f r)
map_one [] i r f apart at same = absurd (cc)
map_one (x ∷ s) zero r f apart at same =
    let e = same_Some x r at in
    let others = subst (λ (y : Process). AllByRecursion (λ z. pid_eq z.pid y.pid ≡ false) s) e
    apart.0 in
    rw (e, map_rest s r.pid f others same) refl
map_one (x ∷ s) (suc i) r f apart at same =
    let other = pid_eq-swap x.pid r.pid ∙ all_at (λ z. pid_eq z.pid x.pid ≡ false) s i r apart.0
    at in
    rw (same x other, map_one s i r f apart.1 at same) refl

-- THE STEP

-- an act's step has two parts: the actor's own, and then what reaches each process
pub step_own : (top : ℕ) (s : State) (a : Act) (i : ℕ) (r q : Process) (done : Acted)
    (own : Process)
    → AreApart s → StandsAt s (actor a) i r → process s (receiver a) ≡ Some q
    → acted top r a ≡ Some done
    → own ≡ record r { local = done.local; queue = done.queue }
    → step top s a ≡ Some (record {
      reply = done.reply;
      report = done.report;
      place = done.place;
      after = map (reached a done.local.token) (set s i own);
    })
step_own top s a i r q done own apart stands there acts is =
    let token = done.local.token in
    let mine : Process → Process =
    λ x. if pid_eq x.pid (actor a) then record x { local = done.local; queue = done.queue } else
    x in
    let others : (x : Process) → pid_eq x.pid r.pid ≡ false
    → mine x ≡ x = λ x other. rw (sym stands.own, other) refl in
    let here : mine r ≡ own = rw (sym stands.own, pid_eq-same r.pid, is) refl in
    let written : map mine s ≡ set s i own =
    map_one s i r mine apart stands.at others ∙ ap (set s i) here in
    let after : map (changed a done) s ≡ map (reached a done.local.token) (set s i own) =
    sym (map-map (reached a token) mine s) ∙ ap (map (reached a token)) written in
    rw (stands.found, there, acts) (rw after refl)

-- if the actor's own part has no value, the act has no step
pub step_full : (top : ℕ) (s : State) (a : Act) (r : Process)
    → process s (actor a) ≡ Some r → acted top r a ≡ None → step top s a ≡ None
step_full top s a r found full =
    rw found
    (elim (process s (receiver a)) as
    (λ o. option_and_then (λ _. option_map (outcome_of s a) (acted top r a)) o ≡ None) [
      | None ↦ refl
      | Some q ↦ rw full refl
    ])
