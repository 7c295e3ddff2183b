-- A tracer is put on a node at its first pid, so the tracers put so far are the front of all of
-- them.
use Rattle.std.proofs.Common.{◌≡◌, ℕ, ◌==◌, Bool, true, false, not, cond, List, [], ◌∷◌, ◌++◌}
use Rattle.std.proofs.Common.{Option, Some, None, Err, ◌+◌, ◌<◌, ◌≤◌, suc, append_assoc, arith}
use Rattle.std.proofs.Common.{drop, get_or, length, refl, sym, ◌∙◌, ap, subst}
use Rattle.std.proofs.Math.ListN.{drop_of_length-le}
use Rattle.std.proofs.Math.Seq.{drop-cons}
use Rattle.std.specs.Option.{option_eq, option_map_or}
use Rattle.std.proofs.lemmas.List.{append-nil}
use Rattle.st_core.specs.declared.types.Pid.{Pid}
use Rattle.st_core.specs.declared.types.Act.{Act}
use Rattle.st_core.specs.declared.types.Act.TheVariants as act
use Rattle.st_core.specs.Run.{Stream}
use Rattle.st_plan.specs.Build.{tracers_after}
use Rattle.st_audit.specs.declared.construction.Construction.{Construction}
use Rattle.st_audit.specs.declared.construction.Halt.{Halt}
use Rattle.st_audit.specs.Progress.{acts_turn, AreAllCounted, AreTold, IsSoFar, Meets, SaysNothing}
use Rattle.st_audit.specs.Progress.{TellsLast}
use Rattle.st_audit.proofs.Attempts.{halts_after, halts_before, none_performed, one_step}
use Rattle.st_audit.proofs.Attempts.{then_performed, Performed}
use Rattle.st_audit.proofs.FirstCounts.{tracer_counted}

-- the tracers put so far come before those of the pids left, if the last was put on the node
-- `seen`
pub record Opens {top : ℕ} (pids : List Pid) (seen : Option ℕ) (left : List Pid)
    (old now : Construction top)
    : Type 0 where
  pub tracers : List Act
  pub made : Performed tracers old now
  pub rest : tracers_after None pids ≡ tracers ++ tracers_after seen left

-- the node of p is the one seen last
abbrev pub is_seen : Option ℕ → Pid → Bool
is_seen seen p = option_map_or (λ n. n == p.node) seen false

pub next_left : (pids : List Pid) (n : ℕ) (d : Pid) → n < length pids
    → drop n pids ≡ get_or pids n d ∷ drop (n + 1) pids
next_left pids n d within =
    let next : suc n ≡ n + 1 = omega arith in
    drop-cons pids n d within ∙ ap (λ k. get_or pids n d ∷ drop k pids) next

seen_eq : (seen : Option ℕ) (p : Pid)
    → option_eq (λ m n. m == n) seen (Some p.node) ≡ is_seen seen p
seen_eq None p = refl
seen_eq (Some n) p = refl

-- the code's test is whether p's node wasn't the one seen last
pub was_seen : (seen : Option ℕ) (p : Pid) (b : Bool)
    → b ≡ not (option_eq (λ m n. m == n) seen (Some p.node))
    → is_seen seen p ≡ not b
was_seen seen p b is =
    elim (is_seen seen p) as (λ c. b ≡ not c → c ≡ not b) [
      | true ↦ λ h. ap not (sym h)
      | false ↦ λ h. ap not (sym h)
    ] (is ∙ ap not (seen_eq seen p))

module _ {top : ℕ} (pids : List Pid) (old : Construction top) where
  pub none_opened : Opens pids None pids old old
  none_opened = record { tracers = []; made = none_performed old; rest = refl }

  pub all_opened : (seen : Option ℕ) (now : Construction top) (n : ℕ) → length pids ≤ n
      → Opens pids seen (drop n pids) old now → Performed (tracers_after None pids) old now
  all_opened seen now n past opens =
      let end : tracers_after seen (drop n pids) ≡ [] =
      ap (tracers_after seen) (drop_of_length-le pids past) in
      let whole : opens.tracers ≡ tracers_after None pids =
      sym (opens.rest ∙ ap (λ xs. opens.tracers ++ xs) end ∙ append-nil opens.tracers) in
      subst (λ xs. Performed xs old now) whole opens.made

  module _ (seen : Option ℕ) (p : Pid) (left : List Pid) (now : Construction top)
      (opens : Opens pids seen (p ∷ left) old now) where
    pub seen_before : is_seen seen p ≡ true → Opens pids seen left old now
    seen_before is = record {
      tracers = opens.tracers;
      made = opens.made;
      rest = opens.rest ∙ ap (λ b. opens.tracers ++ cond b (tracers_after seen left)
          (act.Tracer p true ∷ tracers_after (Some p.node) left)) is;
    }

    module _ (is : is_seen seen p ≡ false) (new : Construction top) where
      after_it : tracers_after None pids ≡ opens.tracers ++ act.Tracer p true
          ∷ tracers_after (Some p.node) left
      after_it = opens.rest ∙ ap (λ b. opens.tracers ++ cond b (tracers_after seen left)
          (act.Tracer p true ∷ tracers_after (Some p.node) left)) is

      pub one_opened : Performed (act.Tracer p true ∷ []) now new
          → Opens pids (Some p.node) left old new
      one_opened made = record {
        tracers = opens.tracers ++ act.Tracer p true ∷ [];
        made = then_performed opens.tracers (act.Tracer p true ∷ []) old now new opens.made made;
        rest = after_it ∙ sym (append_assoc opens.tracers (act.Tracer p true ∷ [])
            (tracers_after (Some p.node) left));
      }

      -- if the next tracer halts, all of them have that outcome
      pub opening_halts : (h : Halt)
          → Meets TellsLast (acts_turn top now.world (act.Tracer p true ∷ [])) now (Err h) new
          → Meets {T = Unit {0}} SaysNothing (acts_turn top old.world (tracers_after None pids)) old
          (Err h) new
      opening_halts h meets =
          let rest = tracers_after (Some p.node) left in
          let next : Meets TellsLast (acts_turn top now.world (act.Tracer p true ∷ rest)) now
          (Err h) new =
          halts_before TellsLast TellsLast (act.Tracer p true ∷ []) rest now h new meets in
          subst (λ xs. Meets {T = Unit {0}} SaysNothing (acts_turn top old.world xs) old (Err h)
          new) (sym after_it)
          (halts_after {U = Unit {0}} TellsLast SaysNothing opens.tracers (act.Tracer p true) rest
          old now h new
          opens.made next)

-- a tracer changes no count of the construction
pub tracer_so_far : {top : ℕ} (p : Pid) (old new : Construction top)
    → Performed (act.Tracer p true ∷ []) old new
    → new.skipped ≡ old.skipped → new.told ≡ old.told
    → (streams : List Stream) → IsSoFar streams [] old → IsSoFar streams [] new
tracer_so_far {top} p old new made skipped told streams so =
    let one = one_step (act.Tracer p true) old new made in
    record {
      counted = subst (AreAllCounted []) (sym one.2)
          (tracer_counted top old.world p true one.0 one.1 so.counted);
      missed = skipped ∙ so.missed;
      listed = ap (λ t. length t.items) told ∙ so.listed;
      told = subst (λ t. AreTold streams [] t.items) (sym told) so.told;
    }
