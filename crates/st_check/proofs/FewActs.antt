-- No clock is above the number of acts so far, so each stamp has a value while there are at most
-- TOP acts; and each actor and receiver is there.
use Rattle.std.proofs.Common.{◌≡◌, ℕ, ◌+◌, ◌<◌, ◌≤◌, true, false, cond, List, [], ◌∷◌}
use Rattle.std.proofs.Common.{length, map, get_or, Option, Some, None, is_some, option_map}
use Rattle.std.proofs.Common.{option_and_then, All, refl, sym, ◌∙◌, ap, subst, arith, if◌then◌else◌}
use Rattle.std.specs.Prelude.{IsSome}
use Rattle.std.specs.Option.{ForSome}
use Rattle.std.specs.List.{list_all}
use Rattle.std.proofs.lemmas.Bool.{lt-ltb}
use Rattle.st_core.specs.declared.types.Pid.{Pid}
use Rattle.st_core.specs.declared.types.Token.{Token}
use Rattle.st_core.specs.declared.types.Label.{Label}
use Rattle.st_core.specs.declared.types.Act.{Act}
use Rattle.st_core.specs.declared.types.Act.TheVariants as act
use Rattle.st_core.specs.declared.types.Reply.TheVariants as reply
use Rattle.st_core.specs.Pid.{pid_eq}
use Rattle.st_core.specs.State.{LocalState, Process, State, process, zero_state}
use Rattle.st_core.specs.Stamp.{stamped_token, stamp, stamp_any}
use Rattle.st_core.specs.Local.{has_label}
use Rattle.st_core.specs.Streams.{is_among}
use Rattle.st_core.specs.Step.{Acted, Outcome, actor, receiver, acted, answers, prints, sends}
use Rattle.st_core.specs.Step.{outcome_of, step}
use Rattle.st_core.specs.Run.{run_from}
use Rattle.st_core.specs.Laws.{IsStamped, IsSound}
use Rattle.st_core.proofs.ForCallers.{step_sound, zero_sound, process_holds, leaves_others}
use Rattle.st_core.proofs.ForCallers.{step_done}
use Rattle.st_core.proofs.ForCallers.{zero_pids, both_of}
use Rattle.st_check.specs.Laws.{acts_among, FewActsRun}

-- WHO IS THERE

-- s has a record of p
record IsThere (s : State) (p : Pid) : Type 0 where
  found : Process
  is : process s p ≡ Some found

there : (s : State) (p : Pid) → is_among (map (λ (r : Process). r.pid) s) p ≡ true → IsThere s p
there [] p among = absurd (cc)
there (r ∷ s) p among = elim (pid_eq r.pid p) as (λ b. pid_eq r.pid p ≡ b → IsThere (r ∷ s) p) [
  | true ↦ λ here. record { found = r; is = ap (λ b. cond b (Some r) (process s p)) here }
  | false ↦ λ apart.
      let later = there s p (rw apart at among) in
      record { found = later.found; is = ap (λ b. cond b (Some r) (process s p)) apart ∙ later.is }
] refl

-- A STAMP

-- the actor's part of a step has one value, at both bounds
record ActsAlike (high low : ℕ) (r : Process) (a : Act) : Type 0 where
  done : Acted
  at_high : acted high r a ≡ Some done
  at_low : acted low r a ≡ Some done

-- a stamp has one value, at both bounds
record StampsAlike (stamps : ℕ → Option LocalState) (high low : ℕ) : Type 0 where
  stamped : LocalState
  at_high : stamps high ≡ Some stamped
  at_low : stamps low ≡ Some stamped

has_stamp : (top : ℕ) (p : Pid) (l : LocalState) (t : Token) → l.token ≡ Some t → l.clock < top
    → stamp top p l ≡ Some (record l { token = Some (stamped_token p l t); clock = l.clock + 1 })
has_stamp top p l t has below =
    rw (has, lt-ltb l.clock top below) refl

module _ (high low : ℕ) (p : Pid) (l : LocalState) (below_high : l.clock < high)
    (below_low : l.clock < low) where
  stamps_alike : (t : Token) → l.token ≡ Some t → StampsAlike (λ top. stamp top p l) high low
  stamps_alike t has =
      record {
        stamped = _;
        at_high = has_stamp high p l t has below_high;
        at_low =
            has_stamp low p l t has below_low;
      }

  any_alike : (token : Option Token) → l.token ≡ token
      → StampsAlike (λ top. stamp_any top p l) high low
  any_alike None none = record {
    stamped = l;
    at_high = rw none refl;
    at_low = rw none refl;
  }
  any_alike (Some t) some =
      let both = stamps_alike t some in
      record {
        stamped = both.stamped;
        at_high = ap (λ (o : Option Token). if is_some o then stamp high p l else Some l) some
            ∙ both.at_high;
        at_low = ap (λ (o : Option Token). if is_some o then stamp low p l else Some l) some
            ∙ both.at_low;
      }

-- ONE ACT

module _ (high low : ℕ) (r : Process) (below_high : r.local.clock < high)
    (below_low : r.local.clock < low) where
  always : (a : Act) (done : Acted) → acted high r a ≡ Some done → acted low r a ≡ Some done
      → ActsAlike high low r a
  always a done at_high at_low = record { done = done; at_high = at_high; at_low = at_low }

  by_stamp : (f : LocalState → Acted) (stamps : ℕ → Option LocalState) (a : Act)
      → acted high r a ≡ option_map f (stamps high) → acted low r a ≡ option_map f (stamps low)
      → StampsAlike stamps high low → ActsAlike high low r a
  by_stamp f stamps a is_high is_low both =
      always a (f both.stamped) (is_high ∙ ap (option_map f) both.at_high)
      (is_low ∙ ap (option_map f) both.at_low)

  unlabelled : (p : Pid) (n : Label) (v : ℕ) → has_label n r.local.token ≡ false
      → ActsAlike high low r (act.PrintAt p n v)
  unlabelled p n v other = always (act.PrintAt p n v) (answers r r.local reply.Done)
      (rw other refl) (rw other refl)

  at_label : (p : Pid) (n : Label) (v : ℕ) (token : Option Token) → r.local.token ≡ token
      → ActsAlike high low r (act.PrintAt p n v)
  at_label p n v None none = unlabelled p n v (ap (has_label n) none)
  at_label p n v (Some t) some =
      elim (has_label n r.local.token) as (λ b. has_label n r.local.token ≡ b
      → ActsAlike high low r (act.PrintAt p n v)) [
        | true ↦ λ same.
            by_stamp (prints r v) (λ top. stamp top r.pid r.local) (act.PrintAt p n v)
            (rw same refl) (rw same refl)
            (stamps_alike high low r.pid r.local below_high below_low t some)
        | false ↦ λ other. unlabelled p n v other
      ] refl

  acts_alike : (a : Act) → ActsAlike high low r a
  acts_alike (act.Send p q v) =
      by_stamp (sends r q v) (λ top. stamp_any top r.pid r.local) (act.Send p q v) refl refl
      (any_alike high low r.pid r.local below_high below_low r.local.token refl)
  acts_alike (act.Print p v) =
      by_stamp (prints r v) (λ top. stamp_any top r.pid r.local) (act.Print p v) refl refl
      (any_alike high low r.pid r.local below_high below_low r.local.token refl)
  acts_alike (act.PrintAt p n v) = at_label p n v r.local.token refl
  acts_alike a = always _ _ refl refl

-- THE BOUND ON CLOCKS

later_token : (k : ℕ) (from : Pid) (token : Option Token) → ForSome token (IsStamped k from)
    → ForSome token (IsStamped (k + 1) from)
later_token k from token h =
    λ t is. let stamped = h t is in
    record { from = stamped.from; rises = stamped.rises; within = omega arith }

later_sound : (k : ℕ) (s : State) → All (IsSound k) s → All (IsSound (k + 1)) s
later_sound k s all = λ i d within.
    let r = get_or s i d in
    let sound = all i d within in
    record {
      ordered = sound.ordered;
      within = omega arith;
      queued = λ j m inside. let sent = get_or r.queue j m in
          later_token k sent.from sent.token (sound.queued j m inside);
    }

-- ONE STEP

-- an act has one step, at both bounds
record StepsAlike (high low : ℕ) (s : State) (a : Act) : Type 0 where
  outcome : Outcome
  at_high : step high s a ≡ Some outcome
  at_low : step low s a ≡ Some outcome

steps_alike : (high low : ℕ) (s : State) (a : Act) → All (λ r. r.local.clock < high) s
    → All (λ r. r.local.clock < low) s → acts_among (map (λ (r : Process). r.pid) s) a ≡ true
    → StepsAlike high low s a
steps_alike high low s a below_high below_low among =
    let pids = map (λ (r : Process). r.pid) s in
    let parts = both_of (is_among pids (actor a)) (is_among pids (receiver a)) among in
    let actor_there = there s (actor a) parts.0 in
    let receiver_there = there s (receiver a) parts.1 in
    let r = actor_there.found in
    let both = acts_alike high low r
    (process_holds (λ x. x.local.clock < high) s (actor a) r actor_there.is
    below_high) (process_holds (λ x. x.local.clock < low) s (actor a) r actor_there.is below_low)
    a in
    record {
      outcome = outcome_of s a both.done;
      at_high = step_done high s a r receiver_there.found both.done actor_there.is receiver_there.is
          both.at_high;
      at_low = step_done low s a r receiver_there.found both.done actor_there.is receiver_there.is
          both.at_low;
    }

-- A RUN

mapped_some : (o : Outcome) (rest : Option (List Outcome)) → IsSome rest
    → IsSome (option_map (λ os. o ∷ os) rest)
mapped_some o None h = absurd (cc)
mapped_some o (Some os) h = refl

runs_from : (top k : ℕ) (s : State) (acts : List Act) → All (IsSound k) s → k + length acts ≤ top
    → list_all (acts_among (map (λ (r : Process). r.pid) s)) acts ≡ true
    → IsSome (run_from top s acts)
runs_from top k s [] sound few among = refl
runs_from top k s (a ∷ acts) sound few among =
    let pids = map (λ (r : Process). r.pid) s in
    let parts = both_of (acts_among pids a) (list_all (acts_among pids) acts) among in
    let both = steps_alike top (k + 1) s a (λ i d inside. let r = sound i d inside in omega arith)
    (λ i d inside. let r = sound i d inside in omega arith) parts.0 in
    let o = both.outcome in
    let next = (step_sound (k + 1) s a o both.at_low (later_sound k s sound)).processes in
    let stay = (leaves_others top s a o both.at_high).pids in
    let rest = runs_from top (k + 1) o.after acts next (omega arith)
    (subst (λ ps. list_all (acts_among ps) acts ≡ true) (sym stay) parts.1) in
    subst (λ (x : Option Outcome). IsSome (option_and_then
    (λ o. option_map (λ os. o ∷ os) (run_from top o.after acts)) x)) (sym both.at_high)
    (mapped_some o (run_from top o.after acts) rest)

pub few_acts_run : FewActsRun
few_acts_run top pids acts few among =
    runs_from top 0 (zero_state pids) acts (zero_sound 0 pids) (omega arith)
    (subst (λ ps. list_all (acts_among ps) acts ≡ true) (sym (zero_pids pids)) among)
