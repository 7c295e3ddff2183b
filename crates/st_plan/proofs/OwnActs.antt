-- Acts of one process's own as steps of the whole machine.
use Rattle.std.proofs.Common.{◌≡◌, ℕ, true, false, cond, List, [], ◌∷◌, ◌++◌, Option, Some, None}
use Rattle.std.proofs.Common.{option_map}
use Rattle.std.proofs.Common.{option_and_then, option_to_list, refl, sym, ◌∙◌, ap, subst}
use Rattle.std.specs.List.{AllByRecursion}
use Rattle.std.proofs.lemmas.Option.{same_Some, none-some}
use Rattle.st_core.specs.declared.types.Pid.{Pid}
use Rattle.st_core.specs.declared.types.Act.{Act}
use Rattle.st_core.specs.declared.types.Act.TheVariants as act
use Rattle.st_core.specs.Pid.{pid_eq}
use Rattle.st_core.specs.State.{LocalState, Process, State, process}
use Rattle.st_core.specs.Step.{Acted, Outcome, acted, actor, receiver, touches, reached, changed}
use Rattle.st_core.specs.Step.{outcome_of, step}
use Rattle.st_core.specs.Run.{run_from, stream}
use Rattle.st_core.proofs.ForCallers.{changed_pid, changed_untouched, pid_eq-refl, process_pid}
use Rattle.st_core.proofs.ForCallers.{process-map, step_done}
use Rattle.st_plan.specs.Build.{state_after}
use Rattle.st_plan.proofs.Readiness.{is_alone, QuietRun}

-- A STEP FROM ITS PARTS

pub process_then : (s : State) (a : Act) (done : Acted) (p : Pid)
    → process (outcome_of s a done).after p ≡ option_map (changed a done) (process s p)
process_then s a done p = process-map (changed a done) (changed_pid a done) s p

-- RUNS

pub run_append : (top : ℕ) (s : State) (xs ys : List Act) (os ps : List Outcome)
    → run_from top s xs ≡ Some os
    → run_from top (state_after s os) ys ≡ Some ps → run_from top s (xs ++ ys) ≡ Some (os ++ ps)
run_append top s [] ys os ps one two =
    let none : [] ≡ os = same_Some [] os one in
    subst (λ zs. run_from top s ys ≡ Some (zs ++ ps)) none
    (subst (λ zs. run_from top (state_after s zs) ys ≡ Some ps) (sym none) two)
run_append top s (a ∷ xs) ys os ps one two =
    elim (step top s a) as (λ first.
    option_and_then (λ (o : Outcome). option_map (λ rest. o ∷ rest) (run_from top o.after xs)) first
    ≡ Some os
    → option_and_then (λ (o : Outcome). option_map (λ rest. o ∷ rest)
    (run_from top o.after (xs ++ ys))) first
    ≡ Some (os ++ ps)) [
      | None ↦ λ h. absurd (none-some os h)
      | Some o ↦ λ h.
          elim (run_from top o.after xs) as (λ later. run_from top o.after xs ≡ later
          → option_map (λ rest. o ∷ rest) later ≡ Some os
          → option_map (λ rest. o ∷ rest) (run_from top o.after (xs ++ ys)) ≡ Some (os ++ ps)) [
            | None ↦ λ e h. absurd (none-some os h)
            | Some rest ↦ λ e h.
                let whole : o ∷ rest ≡ os = same_Some (o ∷ rest) os h in
                let end : run_from top (state_after o.after rest) ys ≡ Some ps =
                subst (λ zs. run_from top (state_after s zs) ys ≡ Some ps) (sym whole) two in
                ap (option_map (λ xs. o ∷ xs)) (run_append top o.after xs ys rest ps e end)
                ∙ ap (λ zs. Some (zs ++ ps)) whole
          ] refl h
    ] one

pub state_append : (s : State) (os ps : List Outcome)
    → state_after s (os ++ ps) ≡ state_after (state_after s os) ps
state_append s [] ps = refl
state_append s (o ∷ os) ps = state_append o.after os ps

-- acts that report nothing
abbrev pub Silent : List Outcome → Type 0
Silent os = AllByRecursion (λ (o : Outcome). o.report ≡ None) os

pub stream_silent : (acts : List Act) (os : List Outcome) (p : Pid) → Silent os
    → stream acts os p ≡ []
stream_silent [] os p all = refl
stream_silent (a ∷ acts) [] p all = refl
stream_silent (a ∷ acts) (o ∷ os) p all =
    ap (λ report. cond (pid_eq (actor a) p) (option_to_list report) [] ++ stream acts os p) all.0
    ∙ elim (pid_eq (actor a) p) as (λ b. cond b (option_to_list None) [] ++ stream acts os p ≡ []) [
      | true ↦ stream_silent acts os p all.1
      | false ↦ stream_silent acts os p all.1
    ]

-- QUIET ACTS

pub record Lifted (top : ℕ) (s : State) (p : Pid) (r : Process) (acts : List Act) : Type 0 where
  pub os : List Outcome
  pub runs : run_from top s acts ≡ Some os
  pub here : process (state_after s os) p ≡ Some r
  pub others : (x : Pid) → pid_eq x p ≡ false → process (state_after s os) x ≡ process s x
  pub silent : Silent os

alone_actor : (p : Pid) (a : Act) → is_alone p a → (actor a ≡ p) × (receiver a ≡ p)
alone_actor p (act.Print q v) h = (sym h, sym h)
alone_actor p (act.Set q c) h = (sym h, sym h)
alone_actor p (act.Clear q) h = (sym h, sym h)
alone_actor p (act.Restore q t) h = (sym h, sym h)
alone_actor p a h = absurd h

alone_touches : (p : Pid) (a : Act) (x : Pid) → is_alone p a → pid_eq x p ≡ false
    → touches a x ≡ false
alone_touches p (act.Print q v) x h apart = ap (pid_eq x) (sym h) ∙ apart
alone_touches p (act.Set q c) x h apart = ap (pid_eq x) (sym h) ∙ apart
alone_touches p (act.Clear q) x h apart = ap (pid_eq x) (sym h) ∙ apart
alone_touches p (act.Restore q t) x h apart = ap (pid_eq x) (sym h) ∙ apart
alone_touches p a x h apart = absurd h

alone_reached : (p : Pid) (a : Act) (done : Acted) (r : Process) → is_alone p a
    → reached a done.local.token r ≡ r
alone_reached p (act.Print q v) done r h = refl
alone_reached p (act.Set q c) done r h = refl
alone_reached p (act.Clear q) done r h = refl
alone_reached p (act.Restore q t) done r h = refl
alone_reached p a done r h = absurd h

pub changed_own : (a : Act) (done : Acted) (r : Process) → r.pid ≡ actor a
    → changed a done r ≡ reached a done.local.token
    (record r { local = done.local; queue = done.queue })
changed_own a done r is = rw (is, pid_eq-refl (actor a)) refl

unchanged : (a : Act) (done : Acted) (x : Pid) (found : Option Process)
    → ((r : Process) → found ≡ Some r → r.pid ≡ x)
    → touches a x ≡ false → option_map (changed a done) found ≡ found
unchanged a done x None is h = refl
unchanged a done x (Some r) is h =
    ap (λ (y : Process). Some y) (changed_untouched a done r (ap (touches a) (is r refl) ∙ h))

pub lifted : (top : ℕ) (p : Pid) (acts : List Act) (s : State) (r : Process) (l m : LocalState)
    → process s p ≡ Some r
    → r.local ≡ l → QuietRun top p l acts m → Lifted top s p (record r { local = m }) acts
lifted top p [] s r l m is local runs = record {
  os = [];
  runs = refl;
  here = is ∙ ap (λ (x : LocalState). Some (record r { local = x })) (local ∙ runs);
  others = λ x apart. refl;
  silent = tt;
}
lifted top p (a ∷ acts) s r l m is local runs =
    let x = runs.0 in
    let q = runs.1 in
    let who = process_pid s p r is in
    let by = alone_actor p a q.alone in
    let done : Acted = record {
      local = x;
      queue = r.queue;
      reply = q.reply;
      report = None;
      place = None;
    } in
    let same : r ≡ record { pid = p; local = l; queue = r.queue } =
    λ i. record { pid = who i; local = local i; queue = r.queue } in
    let acted_is : acted top r a ≡ Some done =
    ap (λ (y : Process). acted top y a) same ∙ q.acts r.queue in
    let first : step top s a ≡ Some (outcome_of s a done) =
    step_done top s a r r done (ap (process s) by.0
    ∙ is) (ap (process s) by.1 ∙ is) acted_is in
    let after : State = (outcome_of s a done).after in
    let next : Process = record r { local = x } in
    let mine : changed a done r ≡ next = changed_own a done r (who ∙ sym by.0)
    ∙ alone_reached p a done (record r { local = x; queue = r.queue }) q.alone in
    let here : process after p ≡ Some next =
    process_then s a done p ∙ ap (option_map (changed a done)) is
    ∙ ap (λ (y : Process). Some y) mine in
    let rest = lifted top p acts after next x m here refl runs.2 in
    record {
      os = outcome_of s a done ∷ rest.os;
      runs = ap (option_and_then (λ (o : Outcome). option_map (λ os. o ∷ os)
          (run_from top o.after acts))) first
          ∙ ap (option_map (λ os. outcome_of s a done ∷ os)) rest.runs;
      here = rest.here;
      others = λ y apart. rest.others y apart ∙ process_then s a done y
          ∙ unchanged a done y (process s y) (process_pid s y) (alone_touches p a y q.alone apart);
      silent = (refl, rest.silent);
    }
