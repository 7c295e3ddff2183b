-- The acts of a move end with the act of its event, by the event's kind.
use Rattle.std.proofs.Common.{◌≡◌, ℕ, Bool, true, false, cond, List, [], ◌∷◌, ◌++◌, Option, Some}
use Rattle.std.proofs.Common.{None, option_map, option_to_list, position, refl, sym, ◌∙◌, ap}
use Rattle.std.proofs.lemmas.Option.{same_Some, none-some}
use Rattle.st_core.specs.declared.types.Pid.{Pid}
use Rattle.st_core.specs.declared.types.Event.{Event}
use Rattle.st_core.specs.declared.types.Kind.TheVariants as kind
use Rattle.st_core.specs.declared.types.Act.{Act}
use Rattle.st_core.specs.declared.types.Act.TheVariants as act
use Rattle.st_core.specs.declared.types.Want.TheVariants as want
use Rattle.st_core.specs.State.{Process, State, process}
use Rattle.st_core.specs.Step.{Outcome, step}
use Rattle.st_core.specs.Run.{Stream, run_from}
use Rattle.st_core.proofs.ForCallers.{run_from-more, run_parts}
use Rattle.st_mail.specs.Mail.{bears_stamp}
use Rattle.st_world.specs.World.{place_in}
use Rattle.st_order.specs.declared.item.Item.TheVariants as item
use Rattle.st_plan.specs.Marks.{Marks}
use Rattle.st_plan.specs.Moves.{move_by}
use Rattle.st_plan.specs.Build.{acts_of, flags_of, ready, start_of, state_after}
use Rattle.st_audit.specs.Progress.{if_told}

-- the acts of a receive that takes the message at this place, if there is one
abbrev taking : Pid → Option ℕ → Option (List Act)
taking p place = option_map (λ (a : Act). a ∷ [])
    (option_map (λ k. act.Receive p (want.Place k)) place)

taken_at : (p : Pid) (place : Option ℕ) (acts : List Act) → taking p place ≡ Some acts
    → (k : ℕ) × (place ≡ Some k) × (act.Receive p (want.Place k) ∷ [] ≡ acts)
taken_at p None acts h = absurd (none-some acts h)
taken_at p (Some k) acts h = (k, refl, same_Some (act.Receive p (want.Place k) ∷ []) acts h)

-- the acts that make p ready for the event's stamp, and then the act a
abbrev pub ended : List Stream → Marks → Pid → ℕ → Event → Process → Act → List Act
ended streams marks p i e r a =
    ready p (start_of r.local) e.label e.serial
    (flags_of streams marks (move_by (item.Reported p i) e)) ++ a ∷ []

module _ (streams : List Stream) (marks : Marks) (p : Pid) (i : ℕ) (e : Event) (r : Process)
    (acts : List Act)
    (are : acts_of streams marks r (move_by (item.Reported p i) e) ≡ Some acts) where
  pub print_acts : e.kind ≡ kind.Print
      → ended streams marks p i e r (act.Print p e.value) ≡ acts
  print_acts is =
      let plan = ended streams marks p i e r (act.Print p e.value) in
      let made : acts_of streams marks r (move_by (item.Reported p i) e) ≡ Some plan = rw is refl in
      same_Some plan acts (sym made ∙ are)

  pub send_acts : (to : Pid) → e.kind ≡ kind.Send → e.to ≡ Some to
      → ended streams marks p i e r (act.Send p to e.value) ≡ acts
  send_acts to is is_to =
      let plan = ended streams marks p i e r (act.Send p to e.value) in
      let made : acts_of streams marks r (move_by (item.Reported p i) e) ≡ Some plan =
      rw (is, is_to) refl in
      same_Some plan acts (sym made ∙ are)

  -- a send with acts has a receiver
  pub send_goes : e.kind ≡ kind.Send → e.to ≡ None → ⊥
  send_goes is is_to =
      let made : acts_of streams marks r (move_by (item.Reported p i) e) ≡ None =
      rw (is, is_to) refl in
      none-some acts (sym made ∙ are)

  -- a receive is from the place where the message lies
  pub record IsTakenAt (s : State) : Type 0 where
    pub place : ℕ
    pub found : place_in s p e.from e.serial.this ≡ Some place
    pub same : act.Receive p (want.Place place) ∷ [] ≡ acts

  pub receive_acts : (s : State) → process s p ≡ Some r → e.kind ≡ kind.Receive → IsTakenAt s
  receive_acts s at is =
      let lying = position (λ x. bears_stamp e.from e.serial.this x.token) r.queue in
      let lies : place_in s p e.from e.serial.this ≡ lying = rw at refl in
      let made : acts_of streams marks r (move_by (item.Reported p i) e) ≡ taking p lying =
      rw is refl in
      let taken = taken_at p lying acts (sym made ∙ are) in
      let found : place_in s p e.from e.serial.this ≡ Some taken.0 = lies ∙ taken.1 in
      record { place = taken.0; found = found; same = taken.2 }

-- the acts of a hidden send are its sender's
pub hidden_acts : (streams : List Stream) (marks : Marks) (p : Pid) (i : ℕ) (e : Event)
    (r : Process) (acts : List Act)
    (to : Pid)
    → acts_of streams marks r (move_by (item.Hidden p i) e) ≡ Some acts → e.to ≡ Some to
    → ready e.from (start_of r.local) e.label e.serial
    (record { send = false; receive = marks p i; print = false })
    ++ act.Send e.from to e.value ∷ [] ≡ acts
hidden_acts streams marks p i e r acts to are is_to =
    let plan = ready e.from (start_of r.local) e.label e.serial
    (record { send = false; receive = marks p i; print = false }) ++ act.Send e.from to e.value
    ∷ [] in
    let made : acts_of streams marks r (move_by (item.Hidden p i) e) ≡ Some plan = rw is_to refl in
    same_Some plan acts (sym made ∙ are)

pub hidden_goes : (streams : List Stream) (marks : Marks) (p : Pid) (i : ℕ) (e : Event)
    (r : Process) (acts : List Act)
    → acts_of streams marks r (move_by (item.Hidden p i) e) ≡ Some acts → e.to ≡ None → ⊥
hidden_goes streams marks p i e r acts are is_to =
    let made : acts_of streams marks r (move_by (item.Hidden p i) e) ≡ None = rw is_to refl in
    none-some acts (sym made ∙ are)

pub only : (o : Option Event) (b : Bool) (e : Event) → option_to_list o ++ [] ≡ cond b (e ∷ []) []
    → o ≡ if_told b e
only None true e h = absurd (cc)
only None false e h = refl
only (Some x) true e h = ap (λ (x : Event). Some x) (cc)
only (Some x) false e h = absurd (cc)

-- acts that ran and end with act a
pub record LastStep (top : ℕ) (s : State) (xs : List Act) (a : Act) (os : List Outcome) : Type 0
  where
    pub front : List Outcome
    pub end : Outcome
    pub runs : run_from top s xs ≡ Some front
    pub steps : step top (state_after s front) a ≡ Some end
    pub whole : os ≡ front ++ end ∷ []

pub last_step : (top : ℕ) (s : State) (xs : List Act) (a : Act) (os : List Outcome)
    → run_from top s (xs ++ a ∷ []) ≡ Some os → LastStep top s xs a os
last_step top s [] a os runs =
    let t = run_parts top s a [] os runs in
    record {
      front = [];
      end = t.first;
      runs = refl;
      steps = t.is_first;
      whole = t.is_whole ∙ ap (λ zs. t.first ∷ zs) (sym (same_Some [] t.others t.is_rest));
    }
last_step top s (x ∷ xs) a os runs =
    let t = run_parts top s x (xs ++ a ∷ []) os runs in
    let rest = last_step top t.first.after xs a t.others t.is_rest in
    record {
      front = t.first ∷ rest.front;
      end = rest.end;
      runs = run_from-more top s x xs t.first rest.front t.is_first rest.runs;
      steps = rest.steps;
      whole = t.is_whole ∙ ap (λ zs. t.first ∷ zs) rest.whole;
    }
