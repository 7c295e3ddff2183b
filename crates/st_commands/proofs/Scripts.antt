-- An act is in the script of its own process and in no other, so one more act is appended to that
-- script alone.
use Rattle.std.proofs.Common.{◌≡◌, zero, suc, Bool, true, false, List, [], ◌∷◌, ◌++◌, cond, refl}
use Rattle.std.proofs.Common.{sym, ap, ◌∙◌, ℕ, ◌+◌}
use Rattle.std.proofs.Common.{◌<◌, get_or, set, slice_get, take, length, Some, subst, arith}
use Rattle.std.specs.List.{AllByRecursion}
use Rattle.std.specs.Prelude.{replicate}
use Rattle.std.proofs.lemmas.List.{append-nil, length-map, take_more}
use Rattle.std.proofs.lemmas.List.Elements.{filter-append}
use Rattle.std.proofs.lemmas.Option.{same_Some}
use Rattle.st_core.specs.declared.types.Pid.{Pid}
use Rattle.st_core.specs.declared.types.Act.{Act}
use Rattle.st_core.specs.Pid.{pid_eq, IsRising}
use Rattle.st_core.specs.Step.{actor}
use Rattle.st_core.proofs.ForCallers.{pid_eq-same, pid_eq-swap, above_apart, place_within}
use Rattle.st_core.proofs.ForCallers.{all_apart}
use Rattle.st_runtime.specs.Driven.{acts_by}
use Rattle.st_commands.specs.Recorded.{scripts_of}

pub none_yet : (ps : List Pid) → replicate (length ps) [] ≡ scripts_of ps []
none_yet [] = refl
none_yet (p ∷ ps) = ap (λ (xs : List (List Act)). [] ∷ xs) (none_yet ps)

-- one more act is appended to p's script if it is p's, and otherwise leaves the script as it was
one_more : (p : Pid) (xs : List Act) (a : Act) (b : Bool) → pid_eq p (actor a) ≡ b
    → acts_by p (xs ++ a ∷ []) ≡ acts_by p xs ++ cond b (a ∷ []) []
one_more p xs a b is =
    filter-append (λ x. pid_eq (actor x) p) xs (a ∷ [])
    ∙ ap (λ (t : Bool). acts_by p xs ++ cond t (a ∷ []) []) (pid_eq-swap (actor a) p ∙ is)

not_own : (p : Pid) (xs : List Act) (a : Act) → pid_eq p (actor a) ≡ false
    → acts_by p (xs ++ a ∷ []) ≡ acts_by p xs
not_own p xs a other = one_more p xs a false other ∙ append-nil (acts_by p xs)

pub unscripted : (ps : List Pid) (xs : List Act) (a : Act)
    → AllByRecursion (λ p. pid_eq p (actor a) ≡ false) ps
    → scripts_of ps xs ≡ scripts_of ps (xs ++ a ∷ [])
unscripted [] xs a others = refl
unscripted (p ∷ ps) xs a others =
    ap (λ (script : List Act). script ∷ scripts_of ps xs) (sym (not_own p xs a others.0))
    ∙ ap (λ (scripts : List (List Act)). acts_by p (xs ++ a ∷ []) ∷ scripts)
    (unscripted ps xs a others.1)

-- the scripts after the act is appended to the script at place i
abbrev longer : List (List Act) → ℕ → Act → List (List Act)
longer scripts i a = set scripts i (get_or scripts i [] ++ a ∷ [])

pub scripted : (ps : List Pid) (xs : List Act) (a : Act) (i : ℕ) → IsRising ps
    → slice_get ps i ≡ Some (actor a) → longer (scripts_of ps xs) i a ≡ scripts_of ps (xs ++ a ∷ [])
scripted [] xs a i rising at = absurd (cc)
scripted (p ∷ ps) xs a zero rising at =
    let same = same_Some p (actor a) at in
    let own : pid_eq p (actor a) ≡ true =
    ap (λ (q : Pid). pid_eq q (actor a)) same ∙ pid_eq-same (actor a) in
    ap (λ (script : List Act). script ∷ scripts_of ps xs) (sym (one_more p xs a true own))
    ∙ ap (λ (scripts : List (List Act)). acts_by p (xs ++ a ∷ []) ∷ scripts)
    (unscripted ps xs a (subst (λ (q : Pid). AllByRecursion (λ r. pid_eq r q ≡ false) ps) same
    (all_apart ps p rising.0)))
scripted (p ∷ ps) xs a (suc i) rising at =
    let apart = above_apart ps p (actor a) i rising.0 at in
    ap (λ (script : List Act). script ∷ longer (scripts_of ps xs) i a) (sym (not_own p xs a apart))
    ∙ ap (λ (scripts : List (List Act)). acts_by p (xs ++ a ∷ []) ∷ scripts)
    (scripted ps xs a i rising.1 at)

-- ---- the acts up to place k, and the one there

pub next_unscripted : (ps : List Pid) (acts : List Act) (k : ℕ) (d : Act)
    (scripts : List (List Act)) → scripts ≡ scripts_of ps (take k acts) → k < length acts
    → AllByRecursion (λ p. pid_eq p (actor (get_or acts k d)) ≡ false) ps
    → scripts ≡ scripts_of ps (take (k + 1) acts)
next_unscripted ps acts k d scripts is within others =
    is
    ∙ unscripted ps (take k acts) (get_or acts k d) others
    ∙ ap (scripts_of ps) (sym (take_more acts k d within))

pub next_scripted : (ps : List Pid) (acts : List Act) (k : ℕ) (d : Act) (scripts : List (List Act))
    (i : ℕ) → scripts ≡ scripts_of ps (take k acts) → k < length acts → IsRising ps
    → slice_get ps i ≡ Some (actor (get_or acts k d))
    → longer scripts i (get_or acts k d) ≡ scripts_of ps (take (k + 1) acts)
next_scripted ps acts k d scripts i is within rising at =
    let a = get_or acts k d in
    ap (λ (s : List (List Act)). longer s i a) is
    ∙ scripted ps (take k acts) a i rising at
    ∙ ap (scripts_of ps) (sym (take_more acts k d within))

-- each pid has a script at its place
pub script_within : (ps : List Pid) (xs : List Act) (scripts : List (List Act)) (p : Pid) (i : ℕ)
    → scripts ≡ scripts_of ps xs → slice_get ps i ≡ Some p → i < length scripts
script_within ps xs scripts p i is at =
    let within : i < length ps = place_within ps i p at in
    omega (arith, ap length is, length-map ps (λ q. acts_by q xs))
