-- Acts are tried up to the first that has no step. After acts that ran that is the first of the
-- later acts, so calls in a row have the outcome of their acts in a row.
use Rattle.std.proofs.Common.{◌≡◌, ℕ, Bool, false, List, [], ◌∷◌, ◌++◌, Option, Some, None}
use Rattle.std.proofs.Common.{option_map, option_and_then, Result, Ok, Err, append_assoc, refl, sym}
use Rattle.std.proofs.Common.{◌∙◌, ap, subst}
use Rattle.std.proofs.lemmas.List.{append-nil}
use Rattle.std.proofs.lemmas.Option.{same_Some, none-some}
use Rattle.st_core.specs.declared.types.Act.{Act}
use Rattle.st_core.specs.State.{State}
use Rattle.st_core.specs.Step.{Outcome, step}
use Rattle.st_core.specs.Run.{run_from}
use Rattle.st_core.proofs.ForCallers.{run_parts}
use Rattle.st_mail.specs.declared.outcome.Outcome.{Outcome as Told}
use Rattle.st_plan.specs.Build.{state_after}
use Rattle.st_plan.proofs.ForCallers.{run_append, state_append}
use Rattle.st_audit.specs.declared.construction.Construction.{Construction}
use Rattle.st_audit.specs.declared.construction.Halt.{Halt}
use Rattle.st_audit.specs.declared.construction.Halt.TheVariants as halt
use Rattle.st_audit.specs.declared.finding.Reason.{Reason}
use Rattle.st_audit.specs.Construction.{attempt, last_report, tried_acts, turn_by, Turn, Through}
use Rattle.st_audit.specs.Construction.{Stopped, Refused}
use Rattle.st_audit.specs.Progress.{acts_turn, Meets, TellsLast, TriesAct, WentThrough}

-- ACTS THAT ARE TRIED

abbrev tried_on : ℕ → List Act → Option Outcome → List Act
tried_on top rest None = []
tried_on top rest (Some o) = tried_acts top o.after rest

abbrev run_on : ℕ → List Act → Outcome → Option (List Outcome)
run_on top rest o = option_map (λ os. o ∷ os) (run_from top o.after rest)

map_none : {A B : Type 0} (f : A → B) (o : Option A) → option_map f o ≡ None → o ≡ None
map_none f None h = refl
map_none f (Some x) h = absurd (none-some (f x) (sym h))

tried_after : (top : ℕ) (s : State) (xs ys : List Act) (os : List Outcome)
    → run_from top s xs ≡ Some os
    → tried_acts top s (xs ++ ys) ≡ xs ++ tried_acts top (state_after s os) ys
tried_after top s [] ys os runs =
    subst (λ zs. tried_acts top s ys ≡ tried_acts top (state_after s zs) ys) (same_Some [] os runs)
    refl
tried_after top s (x ∷ xs) ys os runs =
    let t = run_parts top s x xs os runs in
    ap (λ o. x ∷ tried_on top (xs ++ ys) o) t.is_first
    ∙ ap (λ zs. x ∷ zs) (tried_after top t.first.after xs ys t.others t.is_rest)
    ∙ ap (λ zs. x ∷ (xs ++ tried_acts top (state_after s zs) ys)) (sym t.is_whole)

none_after : (top : ℕ) (s : State) (xs ys : List Act) (os : List Outcome)
    → run_from top s xs ≡ Some os
    → run_from top (state_after s os) ys ≡ None → run_from top s (xs ++ ys) ≡ None
none_after top s [] ys os runs none =
    ap (λ zs. run_from top (state_after s zs) ys) (same_Some [] os runs) ∙ none
none_after top s (x ∷ xs) ys os runs none =
    let t = run_parts top s x xs os runs in
    let rest = none_after top t.first.after xs ys t.others t.is_rest
    (ap (λ zs. run_from top (state_after s zs) ys) (sym t.is_whole) ∙ none) in
    ap (option_and_then (run_on top (xs ++ ys))) t.is_first ∙ ap (option_map (λ os. t.first ∷ os))
    rest

-- acts after the first that has no step aren't tried
record StuckBefore (top : ℕ) (s : State) (xs ys : List Act) : Type 0 where
  pub none : run_from top s (xs ++ ys) ≡ None
  pub same : tried_acts top s (xs ++ ys) ≡ tried_acts top s xs

front_stuck : (top : ℕ) (s : State) (xs ys : List Act) → run_from top s xs ≡ None
    → StuckBefore top s xs ys
front_stuck top s [] ys h = absurd (none-some [] (sym h))
front_stuck top s (x ∷ xs) ys h =
    elim (step top s x) as (λ o. step top s x ≡ o → option_and_then (run_on top xs) o ≡ None
    → StuckBefore top s (x ∷ xs) ys) [
      | None ↦ λ is h. record {
        none = ap (option_and_then (run_on top (xs ++ ys))) is;
        same = ap (λ o. x ∷ tried_on top (xs ++ ys) o) is
            ∙ sym (ap (λ o. x ∷ tried_on top xs o) is);
      }
      | Some o ↦ λ is h.
          let rest = front_stuck top o.after xs ys
          (map_none (λ os. o ∷ os) (run_from top o.after xs) h) in
          record {
            none = ap (option_and_then (run_on top (xs ++ ys))) is ∙ ap (option_map (λ os. o ∷ os))
                rest.none;
            same = ap (λ o. x ∷ tried_on top (xs ++ ys) o) is ∙ ap (λ zs. x ∷ zs) rest.same
                ∙ sym (ap (λ o. x ∷ tried_on top xs o) is);
          }
    ] refl h

-- THE TURN OF ACTS

abbrev pub outcomes_in : Turn → Option (List Outcome)
outcomes_in (Through acts os) = Some os
outcomes_in t = None

abbrev pub acts_in : Turn → List Act
acts_in (Through acts os) = acts
acts_in (Stopped acts) = acts
acts_in (Refused r) = []

turn_outcomes : (top : ℕ) (s : State) (acts : List Act) (o : Option (List Outcome))
    → outcomes_in (turn_by top s acts o) ≡ o
turn_outcomes top s acts None = refl
turn_outcomes top s acts (Some os) = refl

-- acts that go through run
pub through_runs : (top : ℕ) (s : State) (acts xs : List Act) (os : List Outcome)
    → acts_turn top s acts ≡ Through xs os → (run_from top s acts ≡ Some os) × (acts ≡ xs)
through_runs top s acts xs os is =
    let runs : run_from top s acts ≡ Some os =
    sym (turn_outcomes top s acts (run_from top s acts)) ∙ ap outcomes_in is in
    (runs, ap acts_in (sym (ap (turn_by top s acts) runs) ∙ is))

-- acts that stop have no run
stopped_none : (top : ℕ) (s : State) (acts xs : List Act) → acts_turn top s acts ≡ Stopped xs
    → (run_from top s acts ≡ None) × (tried_acts top s acts ≡ xs)
stopped_none top s acts xs is =
    let none : run_from top s acts ≡ None =
    sym (turn_outcomes top s acts (run_from top s acts)) ∙ ap outcomes_in is in
    (none, ap acts_in (sym (ap (turn_by top s acts) none) ∙ is))

-- acts alone are never refused
pub never_refused : (top : ℕ) (s : State) (acts : List Act) (o : Option (List Outcome)) (r : Reason)
    → turn_by top s acts o ≡ Refused r → ⊥
never_refused top s acts None r is = absurd (cc)
never_refused top s acts (Some os) r is = absurd (cc)

-- if there is an act, one is tried
tries_by : (top : ℕ) (s : State) (a : Act) (rest : List Act) (o : Option (List Outcome))
    → TriesAct (turn_by top s (a ∷ rest) o)
tries_by top s a rest None = tt
tries_by top s a rest (Some os) = tt

pub tries_in : (top : ℕ) (s : State) (xs : List Act) (a : Act) (ys : List Act)
    (o : Option (List Outcome))
    → TriesAct (turn_by top s (xs ++ a ∷ ys) o)
tries_in top s [] a ys o = tries_by top s a ys o
tries_in top s (x ∷ xs) a ys o = tries_by top s x (xs ++ a ∷ ys) o

tries_more : (top : ℕ) (s : State) (xs ys : List Act) (o p : Option (List Outcome))
    → TriesAct (turn_by top s xs o)
    → TriesAct (turn_by top s (xs ++ ys) p)
tries_more top s [] ys None p tries = absurd tries
tries_more top s [] ys (Some os) p tries = absurd tries
tries_more top s (x ∷ xs) ys o p tries = tries_by top s x (xs ++ ys) p

-- ACTS THAT WERE PERFORMED

-- the acts ran, and were added at the end
pub record Performed {top : ℕ} (acts : List Act) (old new : Construction top) : Type 0 where
  pub outcomes : List Outcome
  pub runs : run_from top old.world acts ≡ Some outcomes
  pub after : new.world ≡ state_after old.world outcomes
  pub put : new.acts ≡ old.acts ++ acts

pub none_performed : {top : ℕ} (c : Construction top) → Performed [] c c
none_performed c = record {
  outcomes = [];
  runs = refl;
  after = refl;
  put = sym (append-nil c.acts);
}

module _ {top : ℕ} {T : Type 0} (says : T → List Outcome → Type 0) where
  -- acts that went through were performed
  pub record Done (acts : List Act) (old : Construction top) (x : T) (new : Construction top) : Type
      0 where
    pub made : Performed acts old new
    pub said : says x made.outcomes

  pub done_by : (acts : List Act) (old : Construction top) (x : T) (new : Construction top)
      → WentThrough says (acts_turn top old.world acts) old x new → Done acts old x new
  done_by acts old x new went =
      let parts = through_runs top old.world acts went.acts went.outcomes went.through in
      record {
        made = record {
          outcomes = went.outcomes;
          runs = parts.0;
          after = went.after;
          put = went.put ∙ ap (λ zs. old.acts ++ zs) (sym parts.1);
        };
        said = went.said;
      }

  pub goes_through : (acts : List Act) (old : Construction top) (x : T) (new : Construction top)
      → (made : Performed acts old new) → says x made.outcomes
      → WentThrough says (acts_turn top old.world acts) old x new
  goes_through acts old x new made said = record {
    acts = acts;
    outcomes = made.outcomes;
    through = ap (turn_by top old.world acts) made.runs;
    said = said;
    after = made.after;
    put = made.put;
  }

-- one act that was performed had a step
pub one_step : {top : ℕ} (a : Act) (old new : Construction top) → Performed (a ∷ []) old new
    → (o : Outcome) × (step top old.world a ≡ Some o) × (new.world ≡ o.after)
one_step {top} a old new made =
    let t = run_parts top old.world a [] made.outcomes made.runs in (
      t.first,
      t.is_first,
      made.after ∙ ap (state_after old.world) t.is_whole
          ∙ ap (state_after t.first.after) (sym (same_Some [] t.others t.is_rest)),
    )

-- acts that were performed after others were performed together with them
pub then_performed : {top : ℕ} (xs ys : List Act) (old mid new : Construction top)
    → Performed xs old mid
    → Performed ys mid new → Performed (xs ++ ys) old new
then_performed {top} xs ys old mid new one two = record {
  outcomes = one.outcomes ++ two.outcomes;
  runs = run_append top old.world xs ys one.outcomes two.outcomes one.runs
      (ap (λ s. run_from top s ys) (sym one.after) ∙ two.runs);
  after = two.after ∙ ap (λ s. state_after s two.outcomes) one.after
      ∙ sym (state_append old.world one.outcomes two.outcomes);
  put = two.put ∙ ap (λ zs. zs ++ ys) one.put ∙ append_assoc old.acts xs ys;
}

-- ONE CALL AFTER THE OTHER

-- acts that halt have the same outcome if others come after them
pub halts_before : {top : ℕ} {T U : Type 0} (one : T → List Outcome → Type 0)
    (two : U → List Outcome → Type 0)
    (xs ys : List Act) (old : Construction top) (h : Halt) (new : Construction top)
    → Meets one (acts_turn top old.world xs) old (Err h) new
    → Meets two (acts_turn top old.world (xs ++ ys)) old (Err h) new
halts_before {top} one two xs ys old halt.Memory new meets =
    tries_more top old.world xs ys (run_from top old.world xs) (run_from top old.world (xs ++ ys))
    meets
halts_before {top} one two xs ys old halt.Stopped new meets =
    let was = stopped_none top old.world xs meets.acts meets.stopped in
    let more = front_stuck top old.world xs ys was.0 in
    record {
      acts = tried_acts top old.world (xs ++ ys);
      stopped = ap (turn_by top old.world (xs ++ ys)) more.none;
      put = meets.put ∙ ap (λ zs. old.acts ++ zs) (sym (more.same ∙ was.1));
    }
halts_before {top} one two xs ys old h new meets =
    absurd (never_refused top old.world xs (run_from top old.world xs) _ meets)

-- acts that halt after performed acts give the outcome of all of them
pub halts_after : {top : ℕ} {T U : Type 0} (one : T → List Outcome → Type 0)
    (two : U → List Outcome → Type 0)
    (xs : List Act) (a : Act) (ys : List Act) (old mid : Construction top) (h : Halt)
    (new : Construction top)
    → Performed xs old mid → Meets one (acts_turn top mid.world (a ∷ ys)) mid (Err h) new
    → Meets two (acts_turn top old.world (xs ++ a ∷ ys)) old (Err h) new
halts_after {top} one two xs a ys old mid halt.Memory new made meets =
    tries_in top old.world xs a ys (run_from top old.world (xs ++ a ∷ ys))
halts_after {top} one two xs a ys old mid halt.Stopped new made meets =
    let was = stopped_none top mid.world (a ∷ ys) meets.acts meets.stopped in
    let none = none_after top old.world xs (a ∷ ys) made.outcomes made.runs
    (ap (λ s. run_from top s (a ∷ ys)) (sym made.after) ∙ was.0) in
    let tried : xs ++ meets.acts ≡ tried_acts top old.world (xs ++ a ∷ ys) =
    ap (λ zs. xs ++ zs) (sym was.1) ∙ ap (λ s. xs ++ tried_acts top s (a ∷ ys)) made.after
    ∙ sym (tried_after top old.world xs (a ∷ ys) made.outcomes made.runs) in
    record {
      acts = tried_acts top old.world (xs ++ a ∷ ys);
      stopped = ap (turn_by top old.world (xs ++ a ∷ ys)) none;
      put = meets.put ∙ ap (λ zs. zs ++ meets.acts) made.put ∙ append_assoc old.acts xs meets.acts
          ∙ ap (λ zs. old.acts ++ zs) tried;
    }
halts_after {top} one two xs a ys old mid h new made meets =
    absurd (never_refused top mid.world (a ∷ ys) (run_from top mid.world (a ∷ ys)) _ meets)

pub last_report-push : (r : Option _) (os : List Outcome) (o : Outcome)
    → last_report r (os ++ o ∷ []) ≡ o.report
last_report-push r [] o = refl
last_report-push r (p ∷ os) o = last_report-push p.report os o

-- an act after performed acts is performed together with them
pub one_more : {top : ℕ} (xs : List Act) (a : Act) (old mid : Construction top)
    (r : Result Told Halt)
    (new : Construction top) → Performed xs old mid
    → Meets TellsLast (acts_turn top mid.world (a ∷ [])) mid r new
    → Meets TellsLast (acts_turn top old.world (xs ++ a ∷ [])) old r new
unfolding then_performed
one_more {top} xs a old mid (Ok told) new made meets =
    let last = done_by TellsLast (a ∷ []) mid told new meets in
    let t = run_parts top mid.world a [] last.made.outcomes last.made.runs in
    let one : last.made.outcomes ≡ t.first ∷ [] =
    t.is_whole ∙ ap (λ os. t.first ∷ os) (sym (same_Some [] t.others t.is_rest)) in
    goes_through TellsLast (xs ++ a ∷ []) old told new
    (then_performed xs (a ∷ []) old mid new made last.made)
    (ap (λ os. last_report None (made.outcomes ++ os)) one ∙ last_report-push None made.outcomes
    t.first
    ∙ ap (last_report None) (sym one) ∙ last.said)
one_more {top} xs a old mid (Err h) new made meets =
    halts_after TellsLast TellsLast xs a [] old mid h new made meets

-- THE ATTEMPT

-- an attempt of which no reason holds is the outcome of its acts
pub attempt_acts : (top : ℕ) (s : State) (one two : Bool) (plan : Option (List Act))
    (acts : List Act)
    → one ≡ false → two ≡ false → plan ≡ Some acts
    → attempt top s one two plan ≡ acts_turn top s acts
attempt_acts top s one two plan acts is_one is_two is = rw (is, is_one, is_two) refl

-- an attempt that goes through
pub record Attempted (top : ℕ) (s : State) (one two : Bool) (plan : Option (List Act))
    (acts : List Act)
    (os : List Outcome) : Type 0 where
  pub no_one : one ≡ false
  pub no_two : two ≡ false
  pub are : plan ≡ Some acts
  pub runs : run_from top s acts ≡ Some os

pub attempt_runs : (top : ℕ) (s : State) (one two : Bool) (plan : Option (List Act))
    (acts : List Act)
    (os : List Outcome) → attempt top s one two plan ≡ Through acts os
    → Attempted top s one two plan acts os
attempt_runs top s one two None acts os is = absurd (cc)
attempt_runs top s false false (Some xs) acts os is =
    let parts = through_runs top s xs acts os is in
    record {
      no_one = refl;
      no_two = refl;
      are = ap (λ (zs : List Act). Some zs) parts.1;
      runs = ap (run_from top s) (sym parts.1) ∙ parts.0;
    }
attempt_runs top s one two plan acts os is = absurd (cc)

-- a call whose turn goes through halts only because memory ran out
pub only_memory : {top : ℕ} {T : Type 0} (says : T → List Outcome → Type 0) (t : Turn)
    (acts : List Act)
    (os : List Outcome) (old : Construction top) (h : Halt) (new : Construction top)
    → t ≡ Through acts os
    → Meets says t old (Err h) new → h ≡ halt.Memory
only_memory says t acts os old halt.Memory new through meets = refl
only_memory says t acts os old halt.Stopped new through meets = let stopped = meets.stopped in
    absurd (cc)
only_memory says t acts os old h new through meets = absurd (cc)

-- a call does the same from another construction with the same world and acts
pub from_same : {top : ℕ} {T : Type 0} (says : T → List Outcome → Type 0) (t : Turn)
    (mid old : Construction top)
    (r : Result T Halt) (new : Construction top) → mid.world ≡ old.world → mid.acts ≡ old.acts
    → Meets says t mid r new → Meets says t old r new
from_same says t mid old (Ok x) new world acts meets = record {
  acts = meets.acts;
  outcomes = meets.outcomes;
  through = meets.through;
  said = meets.said;
  after = meets.after ∙ ap (λ s. state_after s meets.outcomes) world;
  put = meets.put ∙ ap (λ zs. zs ++ meets.acts) acts;
}
from_same says t mid old (Err halt.Stopped) new world acts meets =
    record {
      acts = meets.acts;
      stopped = meets.stopped;
      put = meets.put ∙ ap (λ zs. zs ++ meets.acts) acts;
    }
from_same says t mid old r new world acts meets = meets
