-- The verdict can be computed, since it looks at each front of the run in turn; worked cases
-- evaluate by it.
use Rattle.std.proofs.Common.{◌≡◌, ℕ, ◌+◌, ◌<◌, ◌≤◌, ◌&&◌, zero, suc, Bool, true, false, not, cond}
use Rattle.std.proofs.Common.{List, [], ◌∷◌, ◌++◌, length, take, find, Option, Some, None, is_some}
use Rattle.std.proofs.Common.{◌⊎◌, inl, inr, refl, sym, ◌∙◌, ap, subst, arith}
use Rattle.std.specs.List.{AllByRecursion, list_all}
use mathlib.Core.List.{IsPrefix}
use Rattle.std.proofs.lemmas.Bool.{false≢true, cases_lt}
use Rattle.std.proofs.lemmas.Option.{same_Some, none-some}
use Rattle.std.proofs.lemmas.List.{take_all}
use Rattle.std.proofs.lemmas.List.Elements.{All-from_recursion, recursion_from_All}
use Rattle.st_core.specs.declared.types.Event.{Event}
use Rattle.st_core.specs.declared.types.Act.{Act}
use Rattle.st_core.specs.Event.{event_eq}
use Rattle.st_core.specs.Step.{Outcome}
use Rattle.st_core.specs.Run.{Stream, pids_of, run, stream}
use Rattle.st_core.specs.Pairs.{pairs}
use Rattle.st_core.specs.Verdict.{Verdict, Stuck, Differs, Left, Yes, IsPassing, Passes, left_over}
use Rattle.st_core.specs.Verdict.{IsVerdict}
use Rattle.st_core.proofs.Events.{event_eq-true, event_eq-same}
use Rattle.st_core.proofs.Runs.{FailsAt}
use Rattle.st_core.proofs.Exists.{none_passes, passed_yes}
use Rattle.st_core.proofs.Bools.{both_of, not_true, not_false}

-- THE COMPUTATION

-- the first events are at the front of the second ones
abbrev pub is_front : List Event → List Event → Bool
is_front [] es = true
is_front (d ∷ ds) [] = false
is_front (d ∷ ds) (e ∷ es) = event_eq d e && is_front ds es

-- the acts run, and each process reports the front of its stream
abbrev pub fronts : List Stream → List Act → Option (List Outcome) → Bool
fronts streams acts None = false
fronts streams acts (Some os) = list_all (λ x. is_front (stream acts os x.pid) x.events) streams

-- the acts pass
abbrev pub passes : ℕ → List Stream → List Act → Bool
passes top streams acts = fronts streams acts (run top (pids_of streams) acts)

-- the numbers of these acts, from n on
abbrev pub numbers_from : ℕ → List Act → List ℕ
numbers_from n [] = []
numbers_from n (a ∷ acts) = n ∷ numbers_from (n + 1) acts

-- the first act that fails to pass
abbrev pub first_fault : ℕ → List Stream → List Act → Option ℕ
first_fault top streams acts =
    find (λ n. not (passes top streams (take (n + 1) acts))) (numbers_from 0 acts)

-- the verdict if act n fails, by the run of the acts up to it
abbrev pub failed : ℕ → Option (List Outcome) → Verdict
failed n None = Stuck n
failed n (Some os) = Differs n

-- the verdict of acts that pass, by the first stream with events left
abbrev pub passed : List Act → List Outcome → Option Stream → Verdict
passed acts os None = Yes (pairs acts os)
passed acts os (Some x) = Left x.pid

-- the verdict of acts that pass, by their run
abbrev pub ended : List Stream → List Act → Option (List Outcome) → Verdict
ended streams acts None = Stuck 0
ended streams acts (Some os) = passed acts os (left_over streams acts os)

-- the verdict by the first act that fails
abbrev pub judged : ℕ → List Stream → List Act → Option ℕ → Verdict
judged top streams acts (Some n) = failed n (run top (pids_of streams) (take (n + 1) acts))
judged top streams acts None = ended streams acts (run top (pids_of streams) acts)

abbrev pub verdict : ℕ → List Stream → List Act → Verdict
verdict top streams acts = judged top streams acts (first_fault top streams acts)

-- FRONTS

front_sound : (ds es : List Event) → is_front ds es ≡ true → IsPrefix ds es
front_sound [] es h = (es, refl)
front_sound (d ∷ ds) [] h = absurd (cc)
front_sound (d ∷ ds) (e ∷ es) h =
    let parts = both_of _ _ h in
    let rest = front_sound ds es parts.1 in
    (rest.0, ap (λ x. x ∷ (ds ++ rest.0)) (event_eq-true d e parts.0) ∙ ap (λ xs. e ∷ xs) rest.1)

front_complete : (ds es left : List Event) → ds ++ left ≡ es → is_front ds es ≡ true
front_complete [] es left h = refl
front_complete (d ∷ ds) [] left h = absurd (cc)
front_complete (d ∷ ds) (e ∷ es) left h =
    let head : d ≡ e = cc in
    let tail : ds ++ left ≡ es = cc in
    rw (head, event_eq-same e) (front_complete ds es left tail)

all_sound : (acts : List Act) (os : List Outcome) (streams : List Stream)
    → list_all (λ x. is_front (stream acts os x.pid) x.events) streams ≡ true
    → AllByRecursion (λ x. IsPrefix (stream acts os x.pid) x.events) streams
all_sound acts os [] h = tt
all_sound acts os (x ∷ streams) h =
    let parts = both_of _ _ h in
    (front_sound (stream acts os x.pid) x.events parts.0, all_sound acts os streams parts.1)

all_complete : (acts : List Act) (os : List Outcome) (streams : List Stream)
    → AllByRecursion (λ x. IsPrefix (stream acts os x.pid) x.events) streams
    → list_all (λ x. is_front (stream acts os x.pid) x.events) streams ≡ true
all_complete acts os [] all = refl
all_complete acts os (x ∷ streams) all =
    rw (front_complete (stream acts os x.pid) x.events all.0.0 all.0.1)
    (all_complete acts os streams all.1)

-- ACTS THAT PASS

fronts_sound : (top : ℕ) (streams : List Stream) (acts : List Act) (outs : Option (List Outcome))
    → run top (pids_of streams) acts ≡ outs → fronts streams acts outs ≡ true
    → Passes top streams acts
fronts_sound top streams acts None e h = absurd (false≢true h)
fronts_sound top streams acts (Some os) e h = (
  os,
  record {
    runs = e;
    fronts = All-from_recursion (λ x. IsPrefix (stream acts os x.pid) x.events) streams
        (all_sound acts os streams h);
  },
)

passes_sound : (top : ℕ) (streams : List Stream) (acts : List Act) → passes top streams acts ≡ true
    → Passes top streams acts
passes_sound top streams acts h =
    fronts_sound top streams acts (run top (pids_of streams) acts) refl h

passes_complete : (top : ℕ) (streams : List Stream) (acts : List Act) → Passes top streams acts
    → passes top streams acts ≡ true
passes_complete top streams acts h =
    ap (fronts streams acts) h.1.runs
    ∙ all_complete acts h.0 streams
    (recursion_from_All (λ x. IsPrefix (stream acts h.0 x.pid) x.events) streams h.1.fronts)

-- NUMBERS OF ACTS

-- n is the first of the numbers from k on that passes the test
record IsFirst (test : ℕ → Bool) (k : ℕ) (acts : List Act) (n : ℕ) : Type 0 where
  within : n < k + length acts
  from : k ≤ n
  passes : test n ≡ true
  before : (m : ℕ) → k ≤ m → m < n → test m ≡ false

below_or_at : (k m : ℕ) → k ≤ m → (k ≡ m) ⊎ (k + 1 ≤ m)
below_or_at k m above = elim (cases_lt k m) [
  | inl below ↦ inr (omega arith)
  | inr at ↦
      inl (omega arith)
]

number_found : (test : ℕ → Bool) (k : ℕ) (acts : List Act) (n : ℕ)
    → find test (numbers_from k acts) ≡ Some n
    → IsFirst test k acts n
number_found test k [] n h = absurd (none-some n h)
number_found test k (a ∷ acts) n h =
    elim (test k) as (λ b.
    test k ≡ b → cond b (Some k) (find test (numbers_from (k + 1) acts)) ≡ Some n
    → IsFirst test k (a ∷ acts) n) [
      | true ↦ λ e h.
          let same : k ≡ n = same_Some k n h in
          record {
            within = omega arith;
            from = omega arith;
            passes = subst (λ m. test m ≡ true) same e;
            before = λ m above below. absurd (omega arith);
          }
      | false ↦ λ e h.
          let rest = number_found test (k + 1) acts n h in
          let within : n < k + 1 + length acts = rest.within in
          let from : k + 1 ≤ n = rest.from in
          record {
            within = omega arith;
            from = omega arith;
            passes = rest.passes;
            before = λ m above below. elim (below_or_at k m above) [
              | inl at ↦ subst (λ i. test i ≡ false) at e
              | inr more ↦ rest.before m more below
            ];
          }
    ] refl h

number_missing : (test : ℕ → Bool) (k : ℕ) (acts : List Act) (m : ℕ)
    → find test (numbers_from k acts) ≡ None → k ≤ m
    → m < k + length acts → test m ≡ false
number_missing test k [] m h above below = absurd (omega arith)
number_missing test k (a ∷ acts) m h above below =
    elim (test k) as (λ b.
    test k ≡ b → cond b (Some k) (find test (numbers_from (k + 1) acts)) ≡ None → test m ≡ false) [
      | true ↦ λ e h. absurd (none-some k (sym h))
      | false ↦ λ e h. elim (below_or_at k m above) [
        | inl at ↦ subst (λ i. test i ≡ false) at e
        | inr more ↦ number_missing test (k + 1) acts m h more (omega arith)
      ]
    ] refl h

-- THE VERDICT

passing_before : (top : ℕ) (streams : List Stream) (acts : List Act) (n : ℕ)
    → ((m : ℕ) → m < n → not (passes top streams (take (m + 1) acts)) ≡ false)
    → Passes top streams (take n acts)
passing_before top streams acts zero before = none_passes top streams
passing_before top streams acts (suc n) before =
    let next : n + 1 ≡ suc n = omega arith in
    subst (λ k. Passes top streams (take k acts)) next
    (passes_sound top streams (take (n + 1) acts) (not_false _ (before n (omega arith))))

failed_is : (top : ℕ) (streams : List Stream) (acts : List Act) (n : ℕ) → FailsAt top streams acts n
    → (outs : Option (List Outcome)) → run top (pids_of streams) (take (n + 1) acts) ≡ outs
    → IsVerdict top streams acts (failed n outs)
failed_is top streams acts n f None e = (f.within, f.before, e)
failed_is top streams acts n f (Some os) e =
    (f.within, f.before, ap (λ (o : Option (List Outcome)). is_some o) e, f.fails)

passed_is : (top : ℕ) (streams : List Stream) (acts : List Act) (os : List Outcome)
    → IsPassing top streams acts os
    → (left : Option Stream) → left_over streams acts os ≡ left
    → IsVerdict top streams acts (passed acts os left)
passed_is top streams acts os passing (Some x) e = (os, passing, x, e, refl)
passed_is top streams acts os passing None e = passed_yes top streams acts os passing e

judged_is : (top : ℕ) (streams : List Stream) (acts : List Act) (fault : Option ℕ)
    → first_fault top streams acts ≡ fault
    → IsVerdict top streams acts (judged top streams acts fault)
judged_is top streams acts (Some n) e =
    let first = number_found (λ n. not (passes top streams (take (n + 1) acts))) 0 acts n e in
    let within : n < 0 + length acts = first.within in
    let fails : FailsAt top streams acts n = record {
      within = omega arith;
      before = passing_before top streams acts n (λ m below. first.before m (omega arith) below);
      fails = λ h. false≢true (sym (not_true _ first.passes)
          ∙ passes_complete top streams (take (n + 1) acts) h);
    } in
    failed_is top streams acts n fails (run top (pids_of streams) (take (n + 1) acts)) refl
judged_is top streams acts None e =
    let all =
    passing_before top streams acts (length acts)
    (λ m below.
    number_missing (λ n. not (passes top streams (take (n + 1) acts))) 0 acts m e (omega arith)
    (omega arith)) in
    let whole : Passes top streams acts =
    subst (Passes top streams) (take_all (length acts) acts (omega arith)) all in
    subst (λ (outs : Option (List Outcome)). IsVerdict top streams acts (ended streams acts outs))
    (sym whole.1.runs)
    (passed_is top streams acts whole.0 whole.1 (left_over streams acts whole.0) refl)

-- the computed verdict is the verdict
pub verdict_is : (top : ℕ) (streams : List Stream) (acts : List Act)
    → IsVerdict top streams acts (verdict top streams acts)
verdict_is top streams acts = judged_is top streams acts (first_fault top streams acts) refl

-- the verdict is any value that the computation evaluates to
pub computed : (top : ℕ) (streams : List Stream) (acts : List Act) (v : Verdict)
    → verdict top streams acts ≡ v
    → IsVerdict top streams acts v
computed top streams acts v h = subst (IsVerdict top streams acts) h (verdict_is top streams acts)
