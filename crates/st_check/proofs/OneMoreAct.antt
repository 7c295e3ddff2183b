-- One more act at the end adds one outcome, and leaves what the acts before came to as it was.
use Rattle.std.proofs.Common.{◌≡◌, ℕ, ◌+◌, suc, List, [], ◌∷◌, ◌++◌, length, Option, Some, None}
use Rattle.std.proofs.Common.{is_some, option_map, option_and_then, option_to_list, refl, sym, ◌∙◌}
use Rattle.std.proofs.Common.{ap, arith, append-nil, append_assoc, if◌then◌else◌}
use Rattle.std.proofs.lemmas.Option.{same_Some}
use Rattle.st_core.specs.declared.types.Pid.{Pid}
use Rattle.st_core.specs.declared.types.Act.{Act}
use Rattle.st_core.specs.Pid.{pid_eq}
use Rattle.st_core.specs.State.{State}
use Rattle.st_core.specs.Step.{Outcome, actor, step}
use Rattle.st_core.specs.Run.{run_from, stream}
use Rattle.st_core.specs.Pairs.{Tags, tags_after, pair_at, pairs_from}
use Rattle.st_core.proofs.ForCallers.{run_parts}
use Rattle.st_check.specs.Progress.{state_from, tags_from}

pub length-run : (top : ℕ) (s : State) (acts : List Act) (os : List Outcome)
    → run_from top s acts ≡ Some os
    → length os ≡ length acts
length-run top s [] os h = ap length (sym (same_Some [] os h))
length-run top s (a ∷ acts) os h =
    let t = run_parts top s a acts os h in ap length t.is_whole
    ∙ ap suc (length-run top t.first.after acts t.others t.is_rest)

last_step : (o : Option Outcome) → option_and_then (λ x. option_map (λ os. x ∷ os) (Some [])) o
    ≡ option_map (λ x. x ∷ []) o
last_step None = refl
last_step (Some x) = refl

later_step : (first : Outcome) (others : List Outcome) (o : Option Outcome)
    → option_map (λ os. first ∷ os) (option_map (λ x. others ++ x ∷ []) o)
    ≡ option_map (λ x. (first ∷ others) ++ x ∷ []) o
later_step first others None = refl
later_step first others (Some x) = refl

-- the run of acts and one more
pub run-append : (top : ℕ) (s : State) (acts : List Act) (a : Act) (os : List Outcome)
    → run_from top s acts ≡ Some os
    → run_from top s (acts ++ a ∷ [])
    ≡ option_map (λ o. os ++ o ∷ []) (step top (state_from s os) a)
run-append top s [] a os h =
    last_step (step top s a)
    ∙ ap (λ (xs : List Outcome). option_map (λ o. xs ++ o ∷ []) (step top (state_from s xs) a))
    (same_Some [] os h)
run-append top s (b ∷ acts) a os h =
    let t = run_parts top s b acts os h in
    ap (option_and_then (λ o. option_map (λ xs. o ∷ xs) (run_from top o.after (acts ++ a ∷ []))))
    t.is_first
    ∙ ap (option_map (λ xs. t.first ∷ xs)) (run-append top t.first.after acts a t.others t.is_rest)
    ∙ later_step t.first t.others (step top (state_from t.first.after t.others) a)
    ∙ ap (λ (xs : List Outcome). option_map (λ o. xs ++ o ∷ []) (step top (state_from s xs) a))
    (sym t.is_whole)

pub state_from-append : (s : State) (os : List Outcome) (o : Outcome)
    → o.after ≡ state_from s (os ++ o ∷ [])
state_from-append s [] o = refl
state_from-append s (x ∷ os) o = state_from-append x.after os o

-- the stream of acts and one more
pub stream-append : (acts : List Act) (a : Act) (os : List Outcome) (o : Outcome) (p : Pid)
    → length os ≡ length acts
    → stream (acts ++ a ∷ []) (os ++ o ∷ []) p ≡ stream acts os p
    ++ (if pid_eq (actor a) p then option_to_list o.report else [])
stream-append [] a [] o p even =
    append-nil (if pid_eq (actor a) p then option_to_list o.report else [])
stream-append (b ∷ acts) a (x ∷ os) o p even =
    let first = (if pid_eq (actor b) p then option_to_list x.report else []) in
    ap (λ rest. first ++ rest) (stream-append acts a os o p (omega arith))
    ∙ sym (append_assoc first (stream acts os p)
    (if pid_eq (actor a) p then option_to_list o.report else []))
stream-append acts a os o p even = absurd (omega arith)

-- the tags of acts and one more
pub tags_from-append : (tags : Tags) (n : ℕ) (acts : List Act) (a : Act) (os : List Outcome)
    (o : Outcome)
    → length os ≡ length acts → tags_from tags n (acts ++ a ∷ []) (os ++ o ∷ [])
    ≡ tags_after (tags_from tags n acts os) (n + length acts) a o.place
tags_from-append tags n [] a [] o even =
    let same : n ≡ n + 0 = omega arith in ap (λ k. tags_after tags k a o.place) same
tags_from-append tags n (b ∷ acts) a (x ∷ os) o even =
    let next = tags_after tags n b x.place in
    let same : (n + 1) + length acts ≡ n + suc (length acts) = omega arith in
    tags_from-append next (n + 1) acts a os o (omega arith)
    ∙ ap (λ k. tags_after (tags_from next (n + 1) acts os) k a o.place) same
tags_from-append tags n acts a os o even = absurd (omega arith)

-- the pairs of an act, if it has a report
abbrev pub pair_of : Tags → ℕ → Act → Outcome → List (ℕ × ℕ)
pair_of tags n a o = if is_some o.report then pair_at tags n a o.place else []

-- the pairs of acts and one more
pub pairs_from-append : (tags : Tags) (n : ℕ) (acts : List Act) (a : Act) (os : List Outcome)
    (o : Outcome)
    → length os ≡ length acts → pairs_from tags n (acts ++ a ∷ []) (os ++ o ∷ [])
    ≡ pairs_from tags n acts os
    ++ pair_of (tags_from tags n acts os) (n + length acts) a o
pairs_from-append tags n [] a [] o even =
    let same : n ≡ n + 0 = omega arith in
    append-nil (pair_of tags n a o) ∙ ap (λ k. pair_of tags k a o) same
pairs_from-append tags n (b ∷ acts) a (x ∷ os) o even =
    let next = tags_after tags n b x.place in
    let same : (n + 1) + length acts ≡ n + suc (length acts) = omega arith in
    ap (λ rest. pair_of tags n b x ++ rest)
    (pairs_from-append next (n + 1) acts a os o (omega arith)
    ∙ ap (λ k. pairs_from next (n + 1) acts os ++ pair_of (tags_from next (n + 1) acts os) k a o)
    same)
    ∙ sym (append_assoc (pair_of tags n b x) (pairs_from next (n + 1) acts os)
    (pair_of (tags_from next (n + 1) acts os) (n + suc (length acts)) a o))
pairs_from-append tags n acts a os o even = absurd (omega arith)
