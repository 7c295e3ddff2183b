-- One more act adds to the acts of its own process, and to those of no other. So if it comes next
-- in its process's script, the acts of each process stay the first ones of its script.
use Rattle.std.proofs.Common.{◌≡◌, ◌∙◌, ℕ, ◌+◌, ◌<◌, Bool, true, false, cond, List, [], ◌∷◌}
use Rattle.std.proofs.Common.{◌++◌, length, map, take, get_or, set, sym, ap, subst, arith, Some}
use Rattle.std.proofs.Common.{⊎_elim}
use Rattle.std.specs.Prelude.{slice_get}
use Rattle.std.proofs.lemmas.Bool.{cases_eq}
use Rattle.std.proofs.lemmas.List.{append-nil, ext_get_or, get_or-map, get_or-set_other}
use Rattle.std.proofs.lemmas.List.{get_or-set_same, length-map, take_all, take_more}
use Rattle.std.proofs.lemmas.List.Elements.{filter-append}
use Rattle.st_core.specs.declared.types.Act.{Act}
use Rattle.st_core.specs.declared.types.Pid.{Pid}
use Rattle.st_core.specs.Pid.{pid_eq, pid_on, IsRising}
use Rattle.st_core.specs.Step.{actor}
use Rattle.st_core.proofs.ForCallers.{pid_eq-true, pid_eq-same}
use Rattle.st_runtime.specs.Driven.{acts_by}
use Rattle.st_runtime.specs.Joining.{AreEnded}
use Rattle.st_runtime.proofs.Members.{got_at}
use Rattle.st_runtime.proofs.Passing.{false_unless, one_place}

-- each process's acts are the first ones of its script, as many as were made
abbrev pub AreBegun : List Pid → List Act → List ℕ → List (List Act) → Type 0
AreBegun ps acts made scripts = (i : ℕ) → i < length ps → (q : Pid)
    → acts_by (get_or ps i q) acts ≡ take (get_or made i 0) (get_or scripts i [])

one_more : (p : Pid) (acts : List Act) (a : Act) (b : Bool) → pid_eq (actor a) p ≡ b
    → acts_by p (acts ++ a ∷ []) ≡ acts_by p acts ++ cond b (a ∷ []) []
one_more p acts a b is = filter-append (λ x. pid_eq (actor x) p) acts (a ∷ [])
    ∙ ap (λ t. acts_by p acts ++ cond t (a ∷ []) []) is

pub further : (ps : List Pid) (acts : List Act) (made : List ℕ) (scripts : List (List Act))
    (place : ℕ) (a : Act) → IsRising ps → length made ≡ length ps
    → slice_get ps place ≡ Some (actor a)
    → slice_get (get_or scripts place []) (get_or made place 0) ≡ Some a
    → AreBegun ps acts made scripts
    → AreBegun ps (acts ++ a ∷ []) (set made place (get_or made place 0 + 1)) scripts
further ps acts made scripts place a rising even at next so_far i below q =
    let p = get_or ps i q in
    let script = get_or scripts i [] in
    let n = get_or made place 0 in
    let whose = got_at ps place (actor a) q at in
    ⊎_elim
    (λ here.
    let own : pid_eq (actor a) p ≡ true =
    ap (pid_eq (actor a)) (ap (λ j. get_or ps j q) here ∙ whose.1) ∙ pid_eq-same (actor a) in
    let within : place < length made = omega (arith, whose.0, even) in
    let count : get_or (set made place (n + 1)) i 0 ≡ n + 1 =
    ap (λ j. get_or (set made place (n + 1)) j 0) here
    ∙ get_or-set_same made place (n + 1) 0 within in
    let then : slice_get script n ≡ Some a =
    subst (λ j. slice_get (get_or scripts j []) n ≡ Some a) (sym here) next in
    let got = got_at script n a a then in
    let longer : take n script ++ a ∷ [] ≡ take (n + 1) script =
    ap (λ x. take n script ++ x ∷ []) (sym got.1) ∙ sym (take_more script n a got.0) in
    one_more p acts a true own
    ∙ ap (λ l. l ++ a ∷ []) (so_far i below q ∙ ap (λ j. take (get_or made j 0) script) here)
    ∙ longer ∙ ap (λ k. take k script) (sym count))
    (λ other.
    let apart : pid_eq (actor a) p ≡ false =
    false_unless (pid_eq (actor a) p)
    (λ same. other (one_place ps i place q rising below whose.0
    (sym (pid_eq-true (actor a) p same) ∙ sym whose.1))) in
    one_more p acts a false apart ∙ append-nil (acts_by p acts) ∙ so_far i below q
    ∙ ap (λ k. take k script) (sym (get_or-set_other made place i (n + 1) 0 other)))
    (cases_eq i place)

-- the act at place k comes next in its process's script
pub further_at : (ps : List Pid) (acts : List Act) (made : List ℕ) (scripts : List (List Act))
    (place k m : ℕ) (d : Act) → IsRising ps → k < length acts → length made ≡ length ps
    → slice_get ps place ≡ Some (actor (get_or acts k d))
    → slice_get (get_or scripts place []) (get_or made place 0) ≡ Some (get_or acts k d)
    → m ≡ get_or made place 0 + 1 → AreBegun ps (take k acts) made scripts
    → AreBegun ps (take (k + 1) acts) (set made place m) scripts
further_at ps acts made scripts place k m d rising within even at next is so_far =
    subst (λ xs. AreBegun ps xs (set made place m) scripts) (sym (take_more acts k d within))
    (subst (λ n. AreBegun ps (take k acts ++ get_or acts k d ∷ []) (set made place n) scripts)
    (sym is)
    (further ps (take k acts) made scripts place (get_or acts k d) rising even at next so_far))

pub all_made : (ps : List Pid) (acts : List Act) (made : List ℕ) (scripts : List (List Act))
    → length scripts ≡ length ps → AreBegun ps acts made scripts
    → AreEnded made scripts (length scripts) → map (λ p. acts_by p acts) ps ≡ scripts
all_made ps acts made scripts even begun ended =
    let by : Pid → List Act = λ p. acts_by p acts in
    let many = length-map ps by in
    let q = pid_on 0 0 in
    ext_get_or [] (map by ps) scripts (many ∙ sym even)
    (λ i below.
    let here : i < length ps = omega (arith, below, many) in
    let there : i < length scripts = omega (arith, here, even) in
    let script = get_or scripts i [] in
    let end : get_or made i 0 ≡ length script = ended i there in
    get_or-map by ps i q [] here ∙ begun i here q
    ∙ take_all (get_or made i 0) script (omega (arith, end)))
