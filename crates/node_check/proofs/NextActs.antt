-- The next act has no step, reports another event, or passes and moves the tables with it.
use Rattle.std.proofs.Common.{◌≡◌, ℕ, zero, suc, ◌+◌, ◌<◌, ◌≤◌, false, List, [], ◌∷◌, ◌++◌, length}
use Rattle.std.proofs.Common.{map, take, get_or, IsSome, replicate, slice_get, Option, Some, None}
use Rattle.std.proofs.Common.{option_map, option_and_then, refl, sym, ◌∙◌, ap, subst, arith}
use Rattle.std.specs.List.{AllByRecursion}
use Rattle.std.proofs.lemmas.List.{get_or-map, length-map, length-replicate, length-take-le}
use Rattle.std.proofs.lemmas.List.{take_all, take_more}
use Rattle.st_core.specs.declared.types.Event.{Event}
use Rattle.st_core.specs.declared.types.Pid.{Pid}
use Rattle.st_core.specs.Pid.{IsRising, pid_eq}
use Rattle.st_core.specs.Run.{Stream, pids_of}
use Rattle.st_core.specs.State.{Process, State, process, zero_state}
use Rattle.st_core.specs.Step.{outcome_of, receiver}
use Rattle.st_core.specs.Streams.{events_of}
use Rattle.node_machine.specs.Node.{machine_act, node_acted, node_actor, node_run, node_step}
use Rattle.node_machine.specs.Node.{NodeAct}
use Rattle.node_check.specs.declared.processes.Processes.{Processes}
use Rattle.node_check.specs.declared.processes.StepFault.{StepFault}
use Rattle.node_check.specs.declared.processes.StepFault.TheVariants as fault
use Rattle.node_check.specs.declared.progress.Progress.{Progress}
use Rattle.node_check.specs.declared.progress.Stop.TheVariants as stop
use Rattle.node_check.specs.Kept.{IsKeptAt, IsDone, IsUndone, kept_state}
use Rattle.node_check.specs.Progress.{counts_after, HasPassedOnNode, IsNextEvent, IsPassedOnNode}
use Rattle.node_check.specs.Progress.{IsStopOnNode, stop_by}
use Rattle.node_check.specs.declared.verdict.NodeVerdict.TheVariants as verdict
use Rattle.node_check.specs.Verdict.{IsNodeVerdict, PassesOnNode}
use Rattle.node_check.proofs.Rows.{rows_pids}
use Rattle.node_check.proofs.States.{missing}
use Rattle.node_check.proofs.Verdicts.{differs_more, is_passing, passed_more, stuck_more}

-- NO STEP

pub no_actor : (s : State) (a : NodeAct) → process s (node_actor a) ≡ None → node_step s a ≡ None
no_actor s a gone = rw gone refl

pub no_receiver : (s : State) (a : NodeAct) → process s (receiver (machine_act a)) ≡ None
    → node_step s a ≡ None
no_receiver s a gone =
    let rest =
    λ (r : Process). option_map (λ (_ : Process). outcome_of s (machine_act a) (node_acted r a))
    (process s (receiver (machine_act a))) in
    elim (process s (node_actor a)) as (λ o. option_and_then rest o ≡ None) [
      | None ↦ refl
      | Some r ↦
          rw gone refl
    ]

pub unlisted : {pids : List Pid} {number : ℕ} (x : Processes) (p : Pid) → IsKeptAt pids number x
    → AllByRecursion (λ q. pid_eq q p ≡ false) pids → process (kept_state pids x) p ≡ None
unlisted {pids} x p kept apart =
    missing (kept_state pids x) p
    (subst (AllByRecursion (λ q. pid_eq q p ≡ false))
    (sym (rows_pids x.nodes.items pids x.rows.items x.queues.boxes kept.rows_len kept.queues_len))
    apart)

-- THE ACT OF A NUMBER

pub act_within : {X : Type 0} (f : X → NodeAct) (xs : List X) (n : ℕ) → n < length xs
    → n < length (map f xs)
act_within f xs n within = let size = length-map xs f in omega arith

pub act_at : {X : Type 0} (f : X → NodeAct) (xs : List X) (n : ℕ) (x : X) (a : NodeAct)
    → n < length xs → x ≡ get_or xs n x → a ≡ f x → a ≡ get_or (map f xs) n a
act_at f xs n x a within at is = is ∙ ap f at ∙ sym (get_or-map f xs n x a within)

pub many : (acts : List NodeAct) (n : ℕ) → n < length acts → length (take n acts) ≡ n
many acts n within = length-take-le n acts (omega arith)

module _ (streams : List Stream) (acts : List NodeAct) (n : ℕ) (a : NodeAct) (kept : Progress)
    (within : n < length acts) (is : a ≡ get_or acts n a)
    (p : HasPassedOnNode streams (take n acts) kept) where
  abbrev pub s : State
  s = kept_state (pids_of streams) kept.processes

  more : take n acts ++ a ∷ [] ≡ take (n + 1) acts
  more = ap (λ x. take n acts ++ x ∷ []) is ∙ sym (take_more acts n a within)

  -- the tables are of as many acts as the number
  pub kept_at : IsKeptAt (pids_of streams) n kept.processes
  kept_at =
      subst (λ k. IsKeptAt (pids_of streams) k kept.processes) (many acts n within) p.processes

  pub stuck_at : node_step s a ≡ None → IsStopOnNode streams (take (n + 1) acts) stop.Stuck
  stuck_at none =
      subst (λ xs. node_run (pids_of streams) xs ≡ None) more
      (stuck_more streams p.rising (take n acts) s kept.counts.items p.passed a none)

  pub undone_at : (f : StepFault) → IsUndone s a f
      → IsStopOnNode streams (take (n + 1) acts) (stop_by f)
  undone_at fault.Memory is = tt
  undone_at fault.Unknown none = stuck_at none

  pub unlisted_at : AllByRecursion (λ q. pid_eq q (node_actor a) ≡ false) (pids_of streams)
      → IsStopOnNode streams (take (n + 1) acts) stop.Stuck
  unlisted_at apart =
      stuck_at (no_actor s a (unlisted kept.processes (node_actor a) kept_at apart))

  module _ (told : Option Event) (new : Processes) (place : ℕ) (me : Pid)
      (done : IsDone (pids_of streams) n a told kept.processes new)
      (at : slice_get (pids_of streams) place ≡ Some me) (own : node_actor a ≡ me) where
    pub passes_at : (later : Progress) → later.processes ≡ new
        → later.counts.items ≡ counts_after kept.counts.items place told
        → IsNextEvent (events_of streams me) (get_or kept.counts.items place 0) told
        → HasPassedOnNode streams (take (n + 1) acts) later
    passes_at later same counts next = record {
      rising = p.rising;
      passed =
          subst (λ xs. IsPassedOnNode streams xs (kept_state (pids_of streams) later.processes)
          later.counts.items) more
          (subst (λ (y : Processes).
          IsPassedOnNode streams (take n acts ++ a ∷ [])
          (kept_state (pids_of streams) y) later.counts.items) (sym same)
          (subst (IsPassedOnNode streams (take n acts ++ a ∷ [])
          (kept_state (pids_of streams) new)) (sym counts)
          (passed_more streams p.rising (take n acts) s kept.counts.items p.passed
          a told (kept_state (pids_of streams) new) done.step place me at own next)));
      processes =
          subst (λ k. IsKeptAt (pids_of streams) k later.processes)
          (sym (length-take-le (n + 1) acts (omega arith)))
          (subst (IsKeptAt (pids_of streams) (n + 1)) (sym same) done.kept);
    }

    pub differs_at
        : (IsNextEvent (events_of streams me) (get_or kept.counts.items place 0) told → ⊥)
        → IsStopOnNode streams (take (n + 1) acts) stop.Differs
    differs_at other =
        subst (λ xs. IsSome (node_run (pids_of streams) xs) × ¬ PassesOnNode streams xs) more
        (differs_more streams p.rising (take n acts) s kept.counts.items p.passed
        a told (kept_state (pids_of streams) new) done.step place me at own other)

-- THE START

all_alike : {A : Type 0} (x : A) (n : ℕ) (k : ℕ) → get_or (replicate n x) k x ≡ x
all_alike x zero k = refl
all_alike x (suc n) zero = refl
all_alike x (suc n) (suc k) = all_alike x n k

pub passed_start : (streams : List Stream) (pids : List Pid) (kept : Progress)
    → IsRising (pids_of streams) → pids ≡ pids_of streams → IsKeptAt pids 0 kept.processes
    → kept_state pids kept.processes ≡ zero_state pids
    → kept.counts.items ≡ replicate (length pids) 0 → HasPassedOnNode streams [] kept
passed_start streams pids kept rising are zero_kept at_zero counts = record {
  rising = rising;
  passed = record {
    outcomes = [];
    runs = refl;
    is_state = subst (λ ps. kept_state ps kept.processes ≡ zero_state ps) are at_zero;
    counts_len =
        ap length counts ∙ length-replicate (length pids) 0 ∙ ap length are;
    matched = λ k p at.
        let none : get_or kept.counts.items k 0 ≡ 0 =
        ap (λ (xs : List ℕ). get_or xs k 0) counts ∙ all_alike 0 (length pids) k in
        record {
          first = ap (λ n. take n (events_of streams p)) (sym none);
          within = omega arith;
        };
  };
  processes = subst (λ ps. IsKeptAt ps 0 kept.processes) are zero_kept;
}

-- THE VERDICT

-- the acts before one that stops pass
module _ (streams : List Stream) (acts : List NodeAct) (n : ℕ) (kept : Progress)
    (within : n < length acts) (p : HasPassedOnNode streams (take n acts) kept) where
  passes : PassesOnNode streams (take n acts)
  passes = (
    p.passed.outcomes,
    is_passing streams p.rising (take n acts) (kept_state (pids_of streams) kept.processes)
        kept.counts.items p.passed,
  )

  pub stuck_verdict : IsStopOnNode streams (take (n + 1) acts) stop.Stuck
      → IsNodeVerdict streams acts (verdict.Stuck n)
  stuck_verdict none = (within, passes, none)

  pub differs_verdict : IsStopOnNode streams (take (n + 1) acts) stop.Differs
      → IsNodeVerdict streams acts (verdict.Differs n)
  differs_verdict differs = (within, passes, differs.0, differs.1)

-- after the loop all acts passed
module _ (streams : List Stream) (acts : List NodeAct) (kept : Progress) where
  pub all_passed : (n : ℕ) → length acts ≤ n → HasPassedOnNode streams (take n acts) kept
      → HasPassedOnNode streams acts kept
  all_passed n whole p = subst (λ xs. HasPassedOnNode streams xs kept) (take_all n acts whole) p
