-- An act changes one list of tags at most: a send its receiver's, and a receive its own.
use Rattle.std.proofs.Common.{◌≡◌, ℕ, ◌≤◌, false, cond, List, [], ◌∷◌, ◌++◌, length, map, get_or}
use Rattle.std.proofs.Common.{set, Option, Some}
use Rattle.std.proofs.Common.{None, option_and_then, refl, sym, ◌∙◌, ap, inl, inr, if◌then◌else◌}
use Rattle.std.specs.Option.{OnSome, IfNone}
use Rattle.std.specs.List.{AllByRecursion, slice_get, remove}
use Rattle.std.proofs.lemmas.Option.{none-some, slice_get-get_or}
use Rattle.std.proofs.lemmas.Bool.{cases_lt}
use Rattle.std.proofs.lemmas.List.{set-get_or}
use Rattle.st_core.specs.declared.types.Pid.{Pid}
use Rattle.st_core.specs.declared.types.Want.{Want}
use Rattle.st_core.specs.declared.types.Act.TheVariants as act
use Rattle.st_core.specs.Pid.{pid_eq, IsRising}
use Rattle.st_core.specs.Pairs.{Tags, tags_after, pair_at}
use Rattle.st_core.proofs.ForCallers.{pid_eq-same, remove_past}
use Rattle.st_arena.specs.Arena.{Arena}
use Rattle.st_check.specs.Progress.{without_tag, pair_to}
use Rattle.st_check.proofs.Places.{map_apart, map_at, entry_at}

-- A SEND

abbrev pub pushed : Tags → Pid → ℕ → Tags
pushed t to n x = if pid_eq x to then t x ++ n ∷ [] else t x

pushed_other : (t : Tags) (to : Pid) (n : ℕ) (q : Pid) → pid_eq q to ≡ false → pushed t to n q ≡ t q
pushed_other t to n q apart = ap (λ b. cond b (t q ++ n ∷ []) (t q)) apart

-- a send to a process that isn't listed changes no tags
pub push_missing : (lists : List (List ℕ)) (pids : List Pid) (to : Pid) (n : ℕ)
    → AllByRecursion (λ p. pid_eq p to ≡ false) pids → (t : Tags) → lists ≡ map t pids
    → lists ≡ map (pushed t to n) pids
push_missing lists pids to n apart t are =
    are ∙ sym (map_apart t (pushed t to n) pids to apart (pushed_other t to n))

-- the receiver's list gets the number
pub push_found : (lists new : List (List ℕ)) (pids : List Pid) (list : ℕ) (to : Pid) (n : ℕ)
    → IsRising pids
    → slice_get pids list ≡ Some to → new ≡ set lists list (get_or lists list [] ++ n ∷ [])
    → (t : Tags)
    → lists ≡ map t pids → new ≡ map (pushed t to n) pids
push_found lists new pids list to n rising at is t are =
    let own : t to ++ n ∷ [] ≡ pushed t to n to =
    ap (λ b. cond b (t to ++ n ∷ []) (t to)) (sym (pid_eq-same to)) in
    is ∙ ap (λ xs. set xs list (get_or xs list [] ++ n ∷ [])) are
    ∙ ap (λ xs. set (map t pids) list (xs ++ n ∷ [])) (entry_at t pids list to [] at)
    ∙ ap (set (map t pids) list) own
    ∙ sym (map_at t (pushed t to n) pids list to rising at (pushed_other t to n))

-- A RECEIVE

past_end : (xs : List ℕ) (k : ℕ) → slice_get xs k ≡ None → length xs ≤ k
past_end xs k none =
    elim (cases_lt k (length xs)) [
      | inl within ↦ absurd
          (none-some (get_or xs k 0) (sym none ∙ slice_get-get_or xs k 0 within))
      | inr past ↦ past
    ]

-- a take removes the number at the place, if there is one
pub take_leaves : (old new : Arena ℕ) (list place : ℕ) (result : Option ℕ)
    → result ≡ slice_get (get_or old.lists list []) place
    → OnSome result (new.lists ≡ set old.lists list (remove (get_or old.lists list []) place))
    → IfNone result (new ≡ old)
    → new.lists ≡ set old.lists list (remove (get_or old.lists list []) place)
take_leaves old new list place (Some n) value taken none = taken
take_leaves old new list place None value taken none =
    let xs = get_or old.lists list [] in
    ap (λ (a : Arena ℕ). a.lists) none
    ∙ sym (set-get_or old.lists list [])
    ∙ ap (set old.lists list) (remove_past xs place (past_end xs place (sym value)))

pub without_is : (t : Tags) (lists new : List (List ℕ)) (pids : List Pid) (list : ℕ) (p : Pid)
    (w : Want) (n : ℕ)
    (place : Option ℕ) → IsRising pids → slice_get pids list ≡ Some p
    → new ≡ without_tag lists list place
    → lists ≡ map t pids → new ≡ map (tags_after t n (act.Receive p w) place) pids
without_is t lists new pids list p w n None rising at is are = is ∙ are
without_is t lists new pids list p w n (Some k) rising at is are =
    let later = tags_after t n (act.Receive p w) (Some k) in
    let own : remove (t p) k ≡ later p =
    ap (λ b. cond b (remove (t p) k) (t p)) (sym (pid_eq-same p)) in
    is ∙ ap (λ xs. set xs list (remove (get_or xs list []) k)) are
    ∙ ap (λ xs. set (map t pids) list (remove xs k)) (entry_at t pids list p [] at)
    ∙ ap (set (map t pids) list) own
    ∙ sym (map_at t later pids list p rising at
    (λ q apart. ap (λ b. cond b (remove (t q) k) (t q)) apart))

pair_of_taken : (n : ℕ) (sent : Option ℕ)
    → (let ps : List (ℕ × ℕ) = elim sent [ None ↦ [] | Some s ↦ (n, s) ∷ [] ] in
    ps) ≡ pair_to n sent
pair_of_taken n None = refl
pair_of_taken n (Some s) = refl

pub pair_is : (t : Tags) (lists : List (List ℕ)) (pids : List Pid) (list : ℕ) (p : Pid) (w : Want)
    (n : ℕ)
    (place sent : Option ℕ) → slice_get pids list ≡ Some p
    → sent ≡ option_and_then (slice_get (get_or lists list [])) place → lists ≡ map t pids
    → pair_at t n (act.Receive p w) place ≡ pair_to n sent
pair_is t lists pids list p w n None sent at is are = ap (pair_to n) (sym is)
pair_is t lists pids list p w n (Some k) sent at is are =
    let entry : get_or lists list [] ≡ t p =
    ap (λ xs. get_or xs list []) are ∙ entry_at t pids list p [] at in
    pair_of_taken n (slice_get (t p) k)
    ∙ ap (pair_to n) (ap (λ xs. slice_get xs k) (sym entry) ∙ sym is)
