-- The acts of all moves run in a row and report what is told of the moves, since each move's acts
-- go on from the state that the moves before it left.
use Rattle.std.proofs.Common.{◌≡◌, ℕ, List, [], ◌∷◌, ◌++◌, Some, None}
use Rattle.std.proofs.Common.{option_to_list}
use Rattle.std.proofs.Common.{append_assoc, get_or, All, refl, sym, ◌∙◌, ap, subst, if◌then◌else◌}
use Rattle.std.proofs.lemmas.Option.{same_Some}
use Rattle.st_core.specs.declared.types.Pid.{Pid}
use Rattle.st_core.specs.declared.types.Event.{Event}
use Rattle.st_core.specs.declared.types.Act.{Act}
use Rattle.st_core.specs.Pid.{pid_eq}
use Rattle.st_core.specs.State.{State, zero_state}
use Rattle.st_core.specs.Step.{Outcome, actor}
use Rattle.st_core.specs.Run.{Stream, Shows, pids_of, run_from, stream}
use Rattle.st_core.proofs.ForCallers.{run_parts}
use Rattle.st_plan.specs.Marks.{Marks}
use Rattle.st_plan.specs.Moves.{Move}
use Rattle.st_plan.specs.Build.{state_after, build, tracers_after, construction}
use Rattle.st_plan.specs.Plain.{told_of_move, told_of_moves}
use Rattle.st_plan.proofs.FreeMoves.{AllAlong}
use Rattle.st_plan.proofs.OwnActs.{run_append, stream_silent}
use Rattle.st_plan.proofs.KeptState.{IsKept, Continues}
use Rattle.st_plan.proofs.Tracers.{opens}

pub stream_append : (top : ℕ) (s : State) (xs ys : List Act) (os ps : List Outcome) (p : Pid)
    → run_from top s xs ≡ Some os → stream (xs ++ ys) (os ++ ps) p
    ≡ stream xs os p ++ stream ys ps p
stream_append top s [] ys os ps p runs =
    ap (λ zs. stream ys (zs ++ ps) p) (sym (same_Some [] os runs))
stream_append top s (a ∷ xs) ys os ps p runs =
    let t = run_parts top s a xs os runs in
    let here : List Event = if pid_eq (actor a) p then option_to_list t.first.report else [] in
    ap (λ zs. stream (a ∷ (xs ++ ys)) (zs ++ ps) p) t.is_whole
    ∙ ap (λ es. here ++ es) (stream_append top t.first.after xs ys t.others ps p t.is_rest)
    ∙ sym (append_assoc here (stream xs t.others p) (stream ys ps p))
    ∙ ap (λ zs. stream (a ∷ xs) zs p ++ stream ys ps p) (sym t.is_whole)

-- the move goes on from every state that the moves before it leave
abbrev pub Serves : ℕ → List Stream → Marks → List Move → Move → Type 0
Serves top streams marks earlier m =
    (s : State) → IsKept streams marks earlier s → Continues top streams marks earlier s m

pub record IsBuilt (top : ℕ) (streams : List Stream) (marks : Marks) (s : State)
    (ms : List Move) : Type 0 where
  pub acts : List Act
  pub os : List Outcome
  pub are : build top streams marks s ms ≡ Some acts
  pub runs : run_from top s acts ≡ Some os
  pub tells : (p : Pid) → stream acts os p ≡ told_of_moves marks p ms

pub built : (top : ℕ) (streams : List Stream) (marks : Marks) (earlier ms : List Move) (s : State)
    → AllAlong (Serves top streams marks) earlier ms → IsKept streams marks earlier s
    → IsBuilt top streams marks s ms
built top streams marks earlier [] s all kept =
    record { acts = []; os = []; are = refl; runs = refl; tells = λ p. refl }
built top streams marks earlier (m ∷ ms) s all kept =
    let step = all.0 s kept in
    let one = step.0 in
    let rest = built top streams marks (m ∷ earlier) ms (state_after s one.outcomes) all.1 step.1 in
    record {
      acts = one.acts ++ rest.acts;
      os = one.outcomes ++ rest.os;
      are = rw (one.is_before, one.are, one.runs, rest.are) refl;
      runs = run_append top s one.acts rest.acts one.outcomes rest.os one.runs rest.runs;
      tells = λ p. stream_append top s one.acts rest.acts one.outcomes rest.os p one.runs
          ∙ ap (λ es. es ++ stream rest.acts rest.os p) (one.tells p)
          ∙ ap (λ es. told_of_move marks p m ++ es) (rest.tells p);
    }

-- if each move goes on, and together they tell what each process shows, the construction is a
-- certificate
pub construction_shows : (top : ℕ) (streams : List Stream) (marks : Marks) (shown : List Stream)
    (m : Move) (ms : List Move) → AllAlong (Serves top streams marks) [] (m ∷ ms)
    → pids_of streams ≡ pids_of shown
    → All (λ (x : Stream). told_of_moves marks x.pid (m ∷ ms) ≡ x.events) shown
    → (acts : List Act) × (construction top streams marks (m ∷ ms) ≡ Some acts)
    × Shows top shown acts
construction_shows top streams marks shown m ms serve pids told =
    let opening = opens top streams marks in
    let o = opening.0 in
    let start = zero_state (pids_of streams) in
    let first = tracers_after None (pids_of streams) in
    let b = built top streams marks [] (m ∷ ms) (state_after start o.os) serve opening.1 in
    let runs : run_from top start (first ++ b.acts) ≡ Some (o.os ++ b.os) =
    run_append top start first b.acts o.os b.os o.runs b.runs in (
      first ++ b.acts,
      rw (o.runs, b.are) refl,
      (
        o.os ++ b.os,
        subst (λ ps. run_from top (zero_state ps) (first ++ b.acts)
            ≡ Some (o.os ++ b.os)) pids runs,
        λ k d within.
            let p = (get_or shown k d).pid in
            stream_append top start first b.acts o.os b.os p o.runs
            ∙ ap (λ es. es ++ stream b.acts b.os p) (stream_silent first o.os p o.silent)
            ∙ b.tells p ∙ told k d within,
      ),
    )
