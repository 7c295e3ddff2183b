-- Acts after acts with a run have a run, whether none, one that has a step, or several: the run of
-- all is that of the first, and from its last state that of the others.
use Rattle.std.proofs.Common.{◌≡◌, ℕ, ◌<◌, ◌≤◌, false, List, [], ◌∷◌, ◌++◌, length}
use Rattle.std.proofs.Common.{Some, option_map}
use Rattle.std.proofs.Common.{option_and_then, append-nil, append_assoc, length-append, refl, sym}
use Rattle.std.proofs.Common.{◌∙◌, ap, subst, arith}
use Rattle.st_core.specs.declared.types.Pid.{Pid}
use Rattle.st_core.specs.declared.types.Act.{Act}
use Rattle.st_core.specs.Laws.{is_reset, NoReset}
use Rattle.st_core.specs.State.{zero_state}
use Rattle.st_core.specs.Step.{Outcome, step}
use Rattle.st_core.specs.Run.{run_from}
use Rattle.st_plan.specs.Build.{state_after}
use Rattle.st_plan.proofs.ForCallers.{append_none, run_append, state_append}
use Rattle.lack_acts.specs.declared.lean.Acts.{Acts}
use Rattle.lack_acts.specs.Acts.{Extends, IsBegun, RunsWithin}

pub extends_none : {top : ℕ} (a : Acts top) → Extends a a
extends_none a = record {
  added = [];
  outcomes = [];
  appended = sym (append-nil a.acts);
  runs = refl;
  leads = refl;
  no_reset = tt;
  most = refl;
  within = λ h. h;
}

pub extends_then : {top : ℕ} (a b c : Acts top) → Extends a b → Extends b c → Extends a c
extends_then {top} a b c one two = record {
  added = one.added ++ two.added;
  outcomes = one.outcomes ++ two.outcomes;
  appended = two.appended ∙ ap (λ xs. xs ++ two.added) one.appended
      ∙ append_assoc a.acts one.added two.added;
  runs = run_append top a.world one.added two.added one.outcomes two.outcomes one.runs
      (subst (λ s. run_from top s two.added ≡ Some two.outcomes) one.leads two.runs);
  leads = two.leads ∙ ap (λ s. state_after s two.outcomes) one.leads
      ∙ sym (state_append a.world one.outcomes two.outcomes);
  no_reset = append_none one.added two.added one.no_reset two.no_reset;
  most = two.most ∙ one.most;
  within = λ h. two.within (one.within h);
}

-- one act that has a step, if there is room for it
pub extends_one : {top : ℕ} (a b : Acts top) (act : Act) (o : Outcome)
    → b.acts ≡ a.acts ++ act ∷ [] → step top a.world act ≡ Some o → b.world ≡ o.after
    → is_reset act ≡ false → b.most ≡ a.most → length a.acts < a.most → Extends a b
extends_one {top} a b act o acts steps world no_reset most room = record {
  added = act ∷ [];
  outcomes = o ∷ [];
  appended = acts;
  runs = ap (option_and_then (λ (x : Outcome). option_map (λ os. x ∷ os)
      (run_from top x.after []))) steps;
  leads = world;
  no_reset = (no_reset, tt);
  most = most;
  within = λ h.
      let long = ap length acts ∙ length-append a.acts (act ∷ []) in
      omega (arith, long, most, room);
}

-- acts that begin with none have a run from zero clocks
pub runs_within : {top : ℕ} (pids : List Pid) (most : ℕ) (a b : Acts top) → IsBegun pids most a
    → Extends a b → RunsWithin top most pids b.acts
runs_within {top} pids most a b begun more =
    let all : b.acts ≡ more.added = more.appended ∙ ap (λ xs. xs ++ more.added) begun.acts in
    let room : length a.acts ≤ a.most =
    let none = ap length begun.acts in omega (arith, none) in
    let limit = more.most ∙ begun.limit in
    let few = more.within room in
    record {
      outcomes = more.outcomes;
      runs = ap (run_from top (zero_state pids)) all
          ∙ subst (λ s. run_from top s more.added ≡ Some more.outcomes) begun.world more.runs;
      no_reset = subst NoReset (sym all) more.no_reset;
      within = omega (arith, few, limit);
    }
