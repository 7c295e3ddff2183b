-- No act that is built is a reset: it is a tracer, an act before a stamp, or an item's own act.
use Rattle.std.proofs.Common.{◌≡◌, ℕ, ◌-◌, ◌==◌, zero, suc, nat_lt, Bool, true, false, List, []}
use Rattle.std.proofs.Common.{◌∷◌, ◌++◌, Option, Some, None, position, option_map, option_and_then}
use Rattle.std.proofs.Common.{refl, subst, if◌then◌else◌}
use Rattle.std.specs.List.{AllByRecursion}
use Rattle.std.specs.Option.{option_map_or}
use Rattle.std.proofs.lemmas.Option.{same_Some, option_and_then_some}
use Rattle.st_core.specs.declared.types.Pid.{Pid}
use Rattle.st_core.specs.declared.types.Label.{Label}
use Rattle.st_core.specs.declared.types.Flags.{Flags}
use Rattle.st_core.specs.declared.types.Serial.{Serial}
use Rattle.st_core.specs.declared.types.Token.{Token}
use Rattle.st_core.specs.declared.types.Kind.TheVariants as kind
use Rattle.st_core.specs.declared.types.Component.TheVariants as component
use Rattle.st_core.specs.declared.types.Want.TheVariants as want
use Rattle.st_core.specs.declared.types.Act.{Act}
use Rattle.st_core.specs.declared.types.Act.TheVariants as act
use Rattle.st_core.specs.Laws.{is_reset, NoReset}
use Rattle.st_core.specs.State.{Process, State, process, zero_state}
use Rattle.st_core.specs.Step.{Outcome}
use Rattle.st_core.specs.Run.{Stream, pids_of, run_from}
use Rattle.st_core.proofs.ForCallers.{mapped}
use Rattle.st_mail.specs.Mail.{bears_stamp}
use Rattle.st_order.specs.declared.item.Item.TheVariants as item
use Rattle.st_order.proofs.ForCallers.{all_append}
use Rattle.st_plan.specs.declared.plan.Start.{Start}
use Rattle.st_plan.specs.Marks.{Marks}
use Rattle.st_plan.specs.Moves.{Move, is_taking}
use Rattle.st_plan.specs.Build.{act_of, acts_of, build, construction, dress, flags_of, is_dressed}
use Rattle.st_plan.specs.Build.{opening, quiet, raise, ready, renew, renewed_start, silent_prints}
use Rattle.st_plan.specs.Build.{start_of, state_after, tracers_after, unstamped_token}

abbrev IsNoReset : Act → Type 0
IsNoReset a = is_reset a ≡ false

pub append_none : (xs ys : List Act) → NoReset xs → NoReset ys → NoReset (xs ++ ys)
append_none xs ys one two = all_append IsNoReset xs ys one two

either : (P : Act → Type 0) (b : Bool) (xs ys : List Act) → AllByRecursion P xs
    → AllByRecursion P ys → AllByRecursion P (if b then xs else ys)
either P true xs ys one two = one
either P false xs ys one two = two

-- THE ACTS BEFORE A STAMP

-- a fact that holds of each act that makes p ready for a stamp
module _ (P : Act → Type 0) (p : Pid) (restores : (t : Token) → P (act.Restore p t))
    (prints : P (act.Print p 0)) (clears : P (act.Clear p))
    (sets : (n : Label) → P (act.Set p (component.Label n))) where
  dress_all : (token : Option Token) (n : Label) (f : Flags) → AllByRecursion P (dress p token n f)
  dress_all token n f = either P (is_dressed n f token) []
      (act.Restore p (unstamped_token p n f) ∷ []) tt (restores (unstamped_token p n f), tt)

  silent_all : (n : ℕ) → AllByRecursion P (silent_prints p n)
  silent_all zero = tt
  silent_all (suc n) = (prints, silent_all n)

  brought_all : (token : Option Token) (n : Label) (count : ℕ) (rest : List Act)
      → AllByRecursion P rest
      → AllByRecursion P (dress p token n quiet ++ (silent_prints p count ++ rest))
  brought_all token n count rest h =
      all_append P (dress p token n quiet) (silent_prints p count ++ rest) (dress_all token n quiet)
      (all_append P (silent_prints p count) rest (silent_all count) h)

  renew_all : (x : Start) (n : Label) (prev : ℕ) → AllByRecursion P (renew p x n prev)
  renew_all x n prev =
      let up = dress p x.token n quiet ++ silent_prints p (prev - x.clock) in
      all_append P (if nat_lt x.clock prev then up else [])
      (act.Clear p ∷ act.Set p (component.Label n) ∷ [])
      (either P (nat_lt x.clock prev) up []
      (all_append P (dress p x.token n quiet) (silent_prints p (prev - x.clock))
      (dress_all x.token n quiet) (silent_all (prev - x.clock))) tt)
      (clears, (sets n, tt))

  raise_all : (x : Start) (n : Label) (count : ℕ) (f : Flags)
      → AllByRecursion P (raise p x n count f)
  raise_all x n count f =
      let on = dress p (Some (unstamped_token p n quiet)) n f in
      either P (nat_lt x.clock count)
      (dress p x.token n quiet ++ (silent_prints p (count - x.clock) ++ on)) (dress p x.token n f)
      (brought_all x.token n (count - x.clock) on
      (dress_all (Some (unstamped_token p n quiet)) n f))
      (dress_all x.token n f)

  pub ready_all : (x : Start) (n : Label) (s : Serial) (f : Flags)
      → AllByRecursion P (ready p x n s f)
  ready_all x n s f =
      let again = renewed_start p x n s.prev in
      either P (s.prev == x.last) (raise p x n (s.this - 1) f)
      (renew p x n s.prev ++ raise p again n (s.this - 1) f) (raise_all x n (s.this - 1) f)
      (all_append P (renew p x n s.prev) (raise p again n (s.this - 1) f) (renew_all x n s.prev)
      (raise_all again n (s.this - 1) f))

-- AN ITEM'S OWN

made_none : {X : Type 0} (f : X → Act) (o : Option X) (a : Act) → ((x : X) → is_reset (f x) ≡ false)
    → option_map f o ≡ Some a → is_reset a ≡ false
made_none f o a none h = let parts = mapped f o a h in subst IsNoReset parts.2 (none parts.0)

act_none : (r : Process) (m : Move) (a : Act) → act_of r m ≡ Some a → is_reset a ≡ false
act_none r m a h =
    let place = position (λ x. bears_stamp m.event.from m.event.serial.this x.token) r.queue in
    elim m.item as (λ x. act_of r (record m { item = x }) ≡ Some a → is_reset a ≡ false) [
      | item.Hidden p i ↦ λ h. made_none (λ to. act.Send m.who to m.event.value) m.event.to a
          (λ x. refl) h
      | item.Reported p i ↦
          elim m.event.kind as (λ k. act_of r (record m {
            item = item.Reported p i;
            event = record m.event { kind = k };
          }) ≡ Some a → is_reset a ≡ false) [
            | kind.Send ↦ λ h. made_none (λ to. act.Send m.who to m.event.value) m.event.to a
                (λ x. refl) h
            | kind.Receive ↦ λ h. made_none (λ k. act.Receive m.who (want.Place k)) place a
                (λ x. refl) h
            | kind.Print ↦ λ h. subst IsNoReset (same_Some (act.Print m.who m.event.value) a h) refl
          ]
    ] h

pub acts_none : (streams : List Stream) (marks : Marks) (r : Process) (m : Move) (acts : List Act)
    → acts_of streams marks r m ≡ Some acts → NoReset acts
acts_none streams marks r m acts h =
    let before = ready m.who (start_of r.local) m.event.label m.event.serial
    (flags_of streams marks m) in
    let first : List Act = if is_taking m then [] else before in
    let parts = mapped (λ a. first ++ a ∷ []) (act_of r m) acts h in
    subst NoReset parts.2
    (append_none first (parts.0 ∷ [])
    (either IsNoReset (is_taking m) [] before tt
    (ready_all IsNoReset m.who (λ t. refl) refl refl (λ n. refl) (start_of r.local) m.event.label
    m.event.serial (flags_of streams marks m)))
    (act_none r m parts.0 parts.1, tt))

-- ALL

pub tracers_none : (seen : Option ℕ) (ps : List Pid) → NoReset (tracers_after seen ps)
tracers_none seen [] = tt
tracers_none seen (p ∷ ps) =
    either IsNoReset (option_map_or (λ n. n == p.node) seen false) (tracers_after seen ps)
    (act.Tracer p true ∷ tracers_after (Some p.node) ps) (tracers_none seen ps)
    (refl, tracers_none (Some p.node) ps)

opening_none : (streams : List Stream) (ms : List Move) → NoReset (opening streams ms)
opening_none streams [] = tt
opening_none streams (m ∷ ms) = tracers_none None (pids_of streams)

build_none : (top : ℕ) (streams : List Stream) (marks : Marks) (s : State) (ms : List Move)
    (acts : List Act) → build top streams marks s ms ≡ Some acts → NoReset acts
build_none top streams marks s [] acts h = subst NoReset (same_Some [] acts h) tt
build_none top streams marks s (m ∷ ms) acts h =
    let rest = λ (os : List Outcome). build top streams marks (state_after s os) ms in
    let ran = λ (first : List Act) (os : List Outcome). option_map (λ (xs : List Act). first ++ xs)
    (rest os) in
    let from = λ (first : List Act). option_and_then (ran first) (run_from top s first) in
    let by = λ (r : Process). option_and_then from (acts_of streams marks r m) in
    option_and_then_some by (process s m.who) acts h (λ r is_r h.
    option_and_then_some from (acts_of streams marks r m) acts h (λ first are h.
    option_and_then_some (ran first) (run_from top s first) acts h (λ os runs h.
    let parts = mapped (λ (xs : List Act). first ++ xs) (rest os) acts h in
    subst NoReset parts.2
    (append_none first parts.0 (acts_none streams marks r m first are)
    (build_none top streams marks (state_after s os) ms parts.0 parts.1)))))

-- no construction has a reset
pub no_reset : (top : ℕ) (streams : List Stream) (marks : Marks) (ms : List Move) (acts : List Act)
    → construction top streams marks ms ≡ Some acts → NoReset acts
no_reset top streams marks ms acts h =
    let first = opening streams ms in
    let zero = zero_state (pids_of streams) in
    let rest = λ (os : List Outcome). build top streams marks (state_after zero os) ms in
    let ran = λ (os : List Outcome). option_map (λ (xs : List Act). first ++ xs) (rest os) in
    option_and_then_some ran (run_from top zero first) acts h (λ os runs h.
    let parts = mapped (λ (xs : List Act). first ++ xs) (rest os) acts h in
    subst NoReset parts.2
    (append_none first parts.0 (opening_none streams ms)
    (build_none top streams marks (state_after zero os) ms parts.0 parts.1)))
