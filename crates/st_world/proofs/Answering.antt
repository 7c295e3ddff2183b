-- A part of `step` returns a step as the definition has it: an outcome is the definition's and
-- leaves each process sound, and a refusal comes only if the definition has no step, or if memory
-- for it ran out.
use Rattle.std.proofs.Common.{◌≡◌, ◌⊎◌, ℕ, true, List, length, Option, Some, None, Ok, Err, IsSome}
use Rattle.std.proofs.Common.{All, IfSome}
use Rattle.std.proofs.Common.{Result, IfOk, OnErr, position, get_or, set, refl, ◌∙◌, ap, inl, inr}
use Rattle.std.proofs.lemmas.List.{length-set, set-get_or}
use Rattle.std.specs.Option.{ForSome}
use Rattle.st_core.specs.declared.types.Pid.{Pid}
use Rattle.st_core.specs.declared.types.Event.{Event}
use Rattle.st_core.specs.declared.types.Message.{Message}
use Rattle.st_core.specs.declared.types.Act.{Act}
use Rattle.st_core.specs.Laws.{IsSound}
use Rattle.st_core.specs.Pid.{pid_eq}
use Rattle.st_core.specs.State.{LocalState, Process, State, process}
use Rattle.st_core.specs.Step.{actor, receiver, step}
use Rattle.st_core.proofs.ForCallers.{process_holds, step_sound, step_no_actor, step_no_receiver}
use Rattle.st_mail.specs.Actor.{is_inner, is_send_act, ActsOutside}
use Rattle.st_mail.specs.declared.outcome.Outcome.{Outcome as Told}
use Rattle.st_world.specs.declared.outcome.StepFault.TheVariants as fault
use Rattle.st_world.specs.Rows.{state_of, AreRows}
use Rattle.st_world.specs.World.{outcome_to, AreOrdered, AreStamped, IsStep, Rises}
use Rattle.st_world.proofs.Steps.{step_inner}

-- a sound process has ordered counts
pub ordered : (top : ℕ) (s : State) (p : Pid)
    → All (IsSound top) s → IfSome (process s p) (λ r. AreOrdered top r.local)
ordered top s p sound = by (process s p) refl
  where
    by : (o : Option Process) → process s p ≡ o → IfSome o (λ r. AreOrdered top r.local)
    by None e = tt
    by (Some r) e =
        let one = process_holds (IsSound top) s p r e sound in
        record { last = one.ordered; clock = one.within }

-- a sound process has a queue of stamped messages
pub stamped : (top : ℕ) (s : State) (p : Pid)
    → All (IsSound top) s → IfSome (process s p) (λ r. AreStamped top r.queue)
stamped top s p sound = by (process s p) refl
  where
    by : (o : Option Process) → process s p ≡ o → IfSome o (λ r. AreStamped top r.queue)
    by None e = tt
    by (Some r) e = (process_holds (IsSound top) s p r e sound).queued

rising : (o : Option Event) → ForSome o Rises → IfSome o Rises
rising None rises = tt
rising (Some e) rises = rises e refl

module _ (top : ℕ) (s : State) (a : Act) where
  -- an act is refused if the actor or the receiver isn't in the state
  pub refused_unknown : (process s (actor a) ≡ None) ⊎ (process s (receiver a) ≡ None)
      → IsStep top s a (Err fault.Unknown) s
  refused_unknown gone = record {
    steps = tt;
    rises = tt;
    stays = refl;
    refused = gone;
    stepless =
        inr (elim gone [ inl h ↦ step_no_actor top s a h | inr h ↦ step_no_receiver top s a h ]);
    memory = λ e. absurd (cc);
  }

  -- an act is refused if its stamp has no value
  pub refused_full : (new : State) → new ≡ s
      → IsSome (process s (actor a)) → IsSome (process s (receiver a)) → step top s a ≡ None
      → IsStep top s a (Err fault.ClockFull) new
  refused_full new same actor_there receiver_there none = record {
    steps = tt;
    rises = tt;
    stays = same;
    refused = (actor_there, receiver_there, none);
    stepless = inr none;
    memory = λ e. absurd (cc);
  }

  -- a send is refused if there is no memory for its message
  pub refused_memory : (new : State) → new ≡ s → is_send_act a ≡ true → IsSome (step top s a)
      → IsStep top s a (Err fault.Memory) new
  refused_memory new same send some = record {
    steps = tt;
    rises = tt;
    stays = same;
    refused = some;
    stepless = inl refl;
    memory = λ e. send;
  }

  -- an act that has a step returns its outcome
  pub answered : (told : Told) (new : State) → All (IsSound top) s
      → step top s a ≡ Some (outcome_to told new)
      → IsStep top s a (Ok told) new
  answered told new sound steps = record {
    steps = steps;
    rises = rising told.report (step_sound top s a (outcome_to told new) steps sound).report;
    stays = tt;
    refused = tt;
    stepless = tt;
    memory = λ e. absurd (cc);
  }

-- the rows after a step are the rows of a world
pub rows_after
    : (top : ℕ) (ps : List Pid) (ls ls2 : List LocalState) (bs bs2 : List (List Message)) (a : Act)
    (told : Told)
    → AreRows top ps ls bs → length ls2 ≡ length ls → length bs2 ≡ length bs
    → step top (state_of ps ls bs) a ≡ Some (outcome_to told (state_of ps ls2 bs2))
    → AreRows top ps ls2 bs2
rows_after top ps ls ls2 bs bs2 a told rows locals queues steps = record {
  aligned = record {
    rising = rows.aligned.rising;
    locals_len = locals ∙ rows.aligned.locals_len;
    queues_len = queues ∙ rows.aligned.queues_len;
  };
  sound = (step_sound top (state_of ps ls bs) a (outcome_to told (state_of ps ls2 bs2)) steps
      rows.sound).processes;
}

-- so are the rows after an act that touches no queue, and after its refusal
pub rows_after_inner : {E : Type 0} (top : ℕ) (ps : List Pid) (ls : List LocalState)
    (bs : List (List Message))
    → (a : Act) (i : ℕ) (l l2 : LocalState) (r : Result Told E)
    → AreRows top ps ls bs → is_inner a ≡ true → position (λ p. pid_eq p (actor a)) ps ≡ Some i
    → l ≡ get_or ls i l
    → IfOk r (ActsOutside top a (actor a) l l2) → OnErr r (l2 ≡ l) → AreRows top ps (set ls i l2) bs
rows_after_inner top ps ls bs a i l l2 (Ok told) rows inner at el acts err =
    rows_after top ps ls (set ls i l2) bs bs a told rows (length-set ls i l2) refl
    (step_inner top ps ls bs rows.aligned a i l told l2 inner at el acts)
rows_after_inner top ps ls bs a i l l2 (Err e) rows inner at el acts err =
    let back : set ls i l2 ≡ ls = ap (set ls i) (err ∙ el) ∙ set-get_or ls i l in
    rw back rows
