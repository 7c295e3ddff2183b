-- The findings for one result of an act on lent processes exclude those for the others, so each
-- refusal comes exactly if its reason holds.
use Rattle.std.proofs.Common.{◌≡◌, ℕ, ◌+◌, ◌≤◌, true, false, max, List, [], ◌∷◌, Option, Some}
use Rattle.std.proofs.Common.{option_map, refl, sym, ◌∙◌, ap, subst, arith}
use Rattle.std.specs.Prelude.{◌↔◌, IfOk, IfErr, OnErr, IsSome, Result, Ok, Err}
use Rattle.st_core.specs.declared.types.Act.{Act}
use Rattle.st_core.specs.declared.types.Reply.{Reply}
use Rattle.st_core.specs.declared.types.Act.TheVariants as act
use Rattle.st_core.specs.Pid.{pid_eq}
use Rattle.st_core.specs.Step.{Acted, acted, actor, outcome_of, step}
use Rattle.st_mail.specs.Actor.{is_inner}
use Rattle.st_runtime.specs.declared.fault.ActFault.{ActFault}
use Rattle.st_runtime.specs.declared.fault.ActFault.TheVariants as act_fault
use Rattle.st_runtime.specs.declared.fault.PcbFault.{PcbFault}
use Rattle.st_runtime.specs.declared.fault.PcbFault.TheVariants as fault
use Rattle.st_runtime.specs.Inside.{IsAppended}
use Rattle.st_log.specs.Entries.{last_rank}
use Rattle.st_runtime.specs.Lent.{AreSame, FindsStep, FindsClockFull, FindsRankFull, IsLentStep}
use Rattle.st_runtime.specs.Locked.{IsHeldStep}
use Rattle.st_runtime.specs.Pcb.{Control, IsStepped, greatest_rank, is_alone, lent_state}
use Rattle.st_runtime.proofs.StepLemmas.{step_alone, step_between, stepped_alone}

-- ---- what a result says

pub lent_ok : (top ranks : ℕ) (a : Act) (xs ys : List Control) (r : Result Reply PcbFault)
    → IsLentStep top ranks a xs ys r → IfOk r (λ y. IsStepped top a y xs ys)
lent_ok top ranks a xs ys (Ok y) is = is.1
lent_ok top ranks a xs ys (Err f) is = tt

pub lent_err : (top ranks : ℕ) (a : Act) (xs ys : List Control) (r : Result Reply PcbFault)
    → IsLentStep top ranks a xs ys r → OnErr r (AreSame xs ys)
lent_err top ranks a xs ys (Ok y) is = tt
lent_err top ranks a xs ys (Err fault.ClockFull) is = is.1
lent_err top ranks a xs ys (Err fault.RankFull) is = is.1
lent_err top ranks a xs ys (Err fault.Memory) is = is.1

-- if there is a step, it isn't missing
no_step : (top : ℕ) (a : Act) (xs : List Control) → IsSome (step top (lent_state xs) a)
    → ¬ FindsClockFull top a xs
no_step top a xs steps none = let bad = subst IsSome none steps in cc

pub lent_clock : (top ranks : ℕ) (a : Act) (xs ys : List Control) (r : Result Reply PcbFault)
    → IsLentStep top ranks a xs ys r → (r ≡ Err fault.ClockFull) ↔ FindsClockFull top a xs
lent_clock top ranks a xs ys (Ok y) is =
    (λ same. cc, λ none. absurd (no_step top a xs is.0.steps none))
lent_clock top ranks a xs ys (Err fault.ClockFull) is = (λ same. is.0, λ none. refl)
lent_clock top ranks a xs ys (Err fault.RankFull) is =
    (λ same. cc, λ none. absurd (no_step top a xs is.0.steps none))
lent_clock top ranks a xs ys (Err fault.Memory) is =
    (λ same. cc, λ none. absurd (no_step top a xs is.0.steps none))

pub lent_rank : (top ranks : ℕ) (a : Act) (xs ys : List Control) (r : Result Reply PcbFault)
    → IsLentStep top ranks a xs ys r → (r ≡ Err fault.RankFull) ↔ FindsRankFull top ranks a xs
lent_rank top ranks a xs ys (Ok y) is = (λ same. cc, λ finds. absurd (is.0.rank finds.full))
lent_rank top ranks a xs ys (Err fault.ClockFull) is =
    (λ same. cc, λ finds. absurd (no_step top a xs finds.steps is.0))
lent_rank top ranks a xs ys (Err fault.RankFull) is = (λ same. is.0, λ finds. refl)
lent_rank top ranks a xs ys (Err fault.Memory) is =
    (λ same. cc, λ finds. absurd (is.0.rank finds.full))

-- ---- how a call comes to its result

-- there is a step, and the next rank is within the greatest
pub finds_step : (top ranks : ℕ) (a : Act) (xs : List Control) (last n : ℕ)
    → IsSome (step top (lent_state xs) a) → greatest_rank xs ≡ last → n ≡ last + 1 → n ≤ ranks
    → FindsStep top ranks a xs
finds_step top ranks a xs last n steps greatest next within = record {
  steps = steps;
  rank = λ full. omega (arith, greatest, next, within, full);
}

-- a mapped option has a value if the option had one
map_some : {A B : Type 0} (f : A → B) (o : Option A) (x : A) → o ≡ Some x → IsSome (option_map f o)
map_some f o x is = rw is refl

-- ---- of one process

-- the greatest rank is that of the one log
pub alone_rank : (x : Control) → greatest_rank (x ∷ []) ≡ last_rank 0 x.log
alone_rank x = omega arith

pub alone_steps : (top : ℕ) (a : Act) (x : Control) (done : Acted) → is_alone a ≡ true
    → actor a ≡ x.process.pid
    → acted top x.process a ≡ Some done → IsSome (step top (lent_state (x ∷ [])) a)
alone_steps top a x done alone mine acts =
    rw (step_alone top x.process a alone mine)
    (map_some (outcome_of (x.process ∷ []) a) _ done acts)

pub alone_stepped : (top ranks : ℕ) (a : Act) (y : Reply) (x z : Control) (n : ℕ)
    → is_alone a ≡ true
    → actor a ≡ x.process.pid → n ≡ last_rank 0 x.log + 1 → n ≤ ranks → IsAppended top a y x z
    → IsLentStep top ranks a (x ∷ []) (z ∷ []) (Ok y)
alone_stepped top ranks a y x z n alone mine next within is =
    let acts : acted top x.process a ≡ Some is.part.done =
    ap (acted top x.process) (sym is.act) ∙ is.part.acts in (
      finds_step top ranks a (x ∷ []) (last_rank 0 x.log) n
          (alone_steps top a x is.part.done alone mine acts)
          (alone_rank x) next within,
      stepped_alone top a y x z alone mine is,
    )

-- an act that leaves all queues touches its actor alone
pub inner_alone : (a : Act) → is_inner a ≡ true → is_alone a ≡ true
inner_alone (act.Send p q v) inner = absurd (cc)
inner_alone (act.Receive p w) inner = refl
inner_alone (act.Print p v) inner = refl
inner_alone (act.PrintAt p n v) inner = refl
inner_alone (act.Set p c) inner = refl
inner_alone (act.Clear p) inner = refl
inner_alone (act.Restore p t) inner = refl
inner_alone (act.Look p) inner = refl
inner_alone (act.Reset p) inner = absurd (cc)
inner_alone (act.Tracer p b) inner = absurd (cc)

-- ---- of two

pub between_rank : (x y : Control)
    → greatest_rank (x ∷ y ∷ []) ≡ max (last_rank 0 x.log) (last_rank 0 y.log)
between_rank x y = omega arith

pub between_steps : (top : ℕ) (x y : Control) (v : ℕ) (done : Acted)
    → pid_eq x.process.pid y.process.pid ≡ false
    → acted top x.process (act.Send x.process.pid y.process.pid v) ≡ Some done
    → IsSome (step top (lent_state (x ∷ y ∷ [])) (act.Send x.process.pid y.process.pid v))
between_steps top x y v done apart acts =
    rw (step_between top x.process y.process v apart)
    (map_some (outcome_of (x.process ∷ y.process ∷ []) (act.Send x.process.pid y.process.pid v)) _
    done acts)

-- ---- under locks, whose refusals are those of the call

-- the act's result is that of the call
pub record IsTold (r : Result Reply PcbFault) (q : Result Reply ActFault) : Type 0 where
  pub ok : IfOk q (λ y. r ≡ Ok y)
  pub err : IfErr q (λ f. (refusal : PcbFault) × (r ≡ Err refusal))
  pub clock : (q ≡ Err act_fault.ClockFull) ↔ (r ≡ Err fault.ClockFull)
  pub rank : (q ≡ Err act_fault.RankFull) ↔ (r ≡ Err fault.RankFull)

told_ok : (top ranks : ℕ) (a : Act) (xs ys : List Control) (r : Result Reply PcbFault)
    (q : Result Reply ActFault)
    → IsLentStep top ranks a xs ys r → IfOk q (λ y. r ≡ Ok y)
    → IfOk q (λ y. IsStepped top a y xs ys)
told_ok top ranks a xs ys r (Ok y) is same =
    lent_ok top ranks a xs ys (Ok y) (subst (IsLentStep top ranks a xs ys) same is)
told_ok top ranks a xs ys r (Err f) is same = tt

told_err : (top ranks : ℕ) (a : Act) (xs ys : List Control) (r : Result Reply PcbFault)
    (q : Result Reply ActFault)
    → IsLentStep top ranks a xs ys r → IfErr q (λ f. (refusal : PcbFault) × (r ≡ Err refusal))
    → OnErr q (AreSame xs ys)
told_err top ranks a xs ys r (Ok y) is told = tt
told_err top ranks a xs ys r (Err f) is told =
    lent_err top ranks a xs ys (Err told.0) (subst (IsLentStep top ranks a xs ys) told.1 is)

-- the locks held the act's own processes
pub held_step : (top ranks : ℕ) (a : Act) (AreOwn : Type 0) (xs ys : List Control)
    (r : Result Reply PcbFault) (q : Result Reply ActFault)
    → AreOwn → IsLentStep top ranks a xs ys r → IsTold r q → IsHeldStep top ranks a AreOwn xs ys q
held_step top ranks a AreOwn xs ys r q own is told =
    let clock = lent_clock top ranks a xs ys r is in
    let rank = lent_rank top ranks a xs ys r is in
    record {
      ok = told_ok top ranks a xs ys r q is told.ok;
      err = told_err top ranks a xs ys r q is told.err;
      clock = (λ full. (own, clock.0 (told.clock.0 full)), λ both. told.clock.1 (clock.1 both.1));
      rank = (λ full. (own, rank.0 (told.rank.0 full)), λ both. told.rank.1 (rank.1 both.1));
    }

-- the locks held other processes
pub held_stray : (top ranks : ℕ) (a : Act) (AreOwn : Type 0) (xs ys : List Control)
    → ¬ AreOwn → AreSame xs ys → IsHeldStep top ranks a AreOwn xs ys (Err act_fault.Stray)
held_stray top ranks a AreOwn xs ys others same = record {
  ok = tt;
  err = same;
  clock = (λ full. cc, λ both. absurd (others both.0));
  rank = (λ full. cc, λ both. absurd (others both.0));
}
