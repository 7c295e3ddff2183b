-- One more act at the end of a run adds one outcome, and leaves those before it. So the first acts
-- of a run have the first outcomes.
use Rattle.std.proofs.Common.{◌≡◌, ℕ, zero, suc, Bool, true, false, List, [], ◌∷◌, ◌++◌, length}
use Rattle.std.proofs.Common.{take, Option, Some, None, option_map, option_and_then, option_to_list}
use Rattle.std.proofs.Common.{refl, sym, ◌∙◌, ap, arith, append-nil, append_assoc, if◌then◌else◌}
use mathlib.Core.List.{IsPrefix}
use Rattle.std.proofs.lemmas.Option.{same_Some}
use Rattle.st_core.specs.declared.types.Event.{Event}
use Rattle.st_core.specs.declared.types.Pid.{Pid}
use Rattle.st_core.specs.Pid.{pid_eq}
use Rattle.st_core.specs.State.{State}
use Rattle.st_core.specs.Step.{Outcome}
use Rattle.node_machine.specs.Node.{NodeAct, node_actor, node_run_from, node_step}
use Rattle.node_machine.proofs.ForCallers.{node_run_parts}
use Rattle.node_streams.specs.Runs.{node_stream}
use Rattle.node_check.specs.Progress.{state_behind}

pub length_run : (s : State) (acts : List NodeAct) (os : List Outcome)
    → node_run_from s acts ≡ Some os → length os ≡ length acts
length_run s [] os h = ap length (sym (same_Some [] os h))
length_run s (a ∷ acts) [] h = absurd (node_run_parts s a acts [] h)
length_run s (a ∷ acts) (o ∷ os) h =
    ap suc (length_run o.after acts os (node_run_parts s a acts (o ∷ os) h).1)

last_step : (o : Option Outcome) → option_and_then (λ x. option_map (λ os. x ∷ os) (Some [])) o
    ≡ option_map (λ x. x ∷ []) o
last_step None = refl
last_step (Some x) = refl

later_step : (first : Outcome) (others : List Outcome) (o : Option Outcome)
    → option_map (λ os. first ∷ os) (option_map (λ x. others ++ x ∷ []) o)
    ≡ option_map (λ x. (first ∷ others) ++ x ∷ []) o
later_step first others None = refl
later_step first others (Some x) = refl

pub run_append : (s : State) (acts : List NodeAct) (a : NodeAct) (os : List Outcome)
    → node_run_from s acts ≡ Some os
    → node_run_from s (acts ++ a ∷ [])
    ≡ option_map (λ o. os ++ o ∷ []) (node_step (state_behind s os) a)
run_append s [] a os h =
    last_step (node_step s a)
    ∙ ap (λ (xs : List Outcome). option_map (λ o. xs ++ o ∷ []) (node_step (state_behind s xs) a))
    (same_Some [] os h)
run_append s (b ∷ acts) a [] h = absurd (node_run_parts s b acts [] h)
run_append s (b ∷ acts) a (x ∷ os) h =
    let run = node_run_parts s b acts (x ∷ os) h in
    ap (option_and_then (λ o. option_map (λ xs. o ∷ xs) (node_run_from o.after (acts ++ a ∷ []))))
    run.0
    ∙ ap (option_map (λ xs. x ∷ xs)) (run_append x.after acts a os run.1)
    ∙ later_step x os (node_step (state_behind x.after os) a)

pub state_append : (s : State) (os : List Outcome) (o : Outcome)
    → o.after ≡ state_behind s (os ++ o ∷ [])
state_append s [] o = refl
state_append s (x ∷ os) o = state_append x.after os o

pub stream_append : (acts : List NodeAct) (a : NodeAct) (os : List Outcome) (o : Outcome) (p : Pid)
    → length os ≡ length acts
    → node_stream (acts ++ a ∷ []) (os ++ o ∷ []) p ≡ node_stream acts os p
    ++ (if pid_eq (node_actor a) p then option_to_list o.report else [])
stream_append [] a [] o p even =
    append-nil (if pid_eq (node_actor a) p then option_to_list o.report else [])
stream_append [] a (x ∷ os) o p even = absurd (omega arith)
stream_append (b ∷ acts) a [] o p even = absurd (omega arith)
stream_append (b ∷ acts) a (x ∷ os) o p even =
    let first = (if pid_eq (node_actor b) p then option_to_list x.report else []) in
    ap (λ rest. first ++ rest) (stream_append acts a os o p (omega arith))
    ∙ sym (append_assoc first (node_stream acts os p)
    (if pid_eq (node_actor a) p then option_to_list o.report else []))

module _ (acts : List NodeAct) (a : NodeAct) (os : List Outcome) (o : Outcome)
    (even : length os ≡ length acts) where
  -- the streams of other processes stay
  pub stream_other : (p : Pid) → pid_eq (node_actor a) p ≡ false
      → node_stream (acts ++ a ∷ []) (os ++ o ∷ []) p ≡ node_stream acts os p
  stream_other p apart =
      stream_append acts a os o p even
      ∙ ap (λ b. node_stream acts os p ++ (if b then option_to_list o.report else [])) apart
      ∙ append-nil (node_stream acts os p)

  no_event : (b : Bool) → (if b then option_to_list {X = Event} None else []) ≡ []
  no_event true = refl
  no_event false = refl

  pub stream_silent : (p : Pid) → o.report ≡ None
      → node_stream (acts ++ a ∷ []) (os ++ o ∷ []) p ≡ node_stream acts os p
  stream_silent p silent =
      stream_append acts a os o p even
      ∙ ap (λ r. node_stream acts os p
      ++ (if pid_eq (node_actor a) p then option_to_list r else [])) silent
      ∙ ap (λ es. node_stream acts os p ++ es) (no_event (pid_eq (node_actor a) p))
      ∙ append-nil (node_stream acts os p)

  -- the actor's stream grows by its report
  pub stream_own : (p : Pid) (e : Event) → pid_eq (node_actor a) p ≡ true → o.report ≡ Some e
      → node_stream (acts ++ a ∷ []) (os ++ o ∷ []) p ≡ node_stream acts os p ++ e ∷ []
  stream_own p e same is =
      stream_append acts a os o p even
      ∙ ap (λ b. node_stream acts os p ++ (if b then option_to_list o.report else [])) same
      ∙ ap (λ r. node_stream acts os p ++ option_to_list r) is

-- THE FIRST ACTS

pub stream_take : (acts : List NodeAct) (os : List Outcome) (n : ℕ) (p : Pid)
    → IsPrefix (node_stream (take n acts) (take n os) p) (node_stream acts os p)
stream_take acts os zero p = (node_stream acts os p, refl)
stream_take [] os (suc n) p = ([], refl)
stream_take (a ∷ acts) [] (suc n) p = ([], refl)
stream_take (a ∷ acts) (o ∷ os) (suc n) p =
    let first = (if pid_eq (node_actor a) p then option_to_list o.report else []) in
    let rest = stream_take acts os n p in (
      rest.0,
      append_assoc first (node_stream (take n acts) (take n os) p) rest.0
          ∙ ap (λ es. first ++ es) rest.1,
    )
