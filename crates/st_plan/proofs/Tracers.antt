-- After the tracers the state is as no moves say: a tracer for each node marks all its processes,
-- reports nothing and leaves all else at zero.
use Rattle.std.proofs.Common.{◌≡◌, ℕ, ◌==◌, zero, suc, Bool, true, false, cond, List, [], ◌∷◌}
use Rattle.std.proofs.Common.{Option, Some, None}
use Rattle.std.proofs.Common.{is_some, option_map, option_and_then, refl, sym, ◌∙◌, ap, subst}
use Rattle.std.specs.List.{slice_get}
use Rattle.std.specs.Option.{option_map_or}
use Rattle.std.proofs.lemmas.Bool.{false≢true, eq-eqb}
use Rattle.std.proofs.lemmas.List.Elements.{All-map}
use Rattle.std.proofs.lemmas.Option.{same_Some, none-some}
use Rattle.st_core.specs.declared.types.Pid.{Pid}
use Rattle.st_core.specs.declared.types.Reply.TheVariants as reply
use Rattle.st_core.specs.declared.types.Act.{Act}
use Rattle.st_core.specs.declared.types.Act.TheVariants as act
use Rattle.st_core.specs.Pid.{pid_eq, node_eq}
use Rattle.st_core.specs.State.{Process, State, process, zero_local, zero_state}
use Rattle.st_core.specs.Step.{Acted, Outcome, answers, changed, outcome_of, step}
use Rattle.st_core.specs.Run.{Stream, pids_of, run_from}
use Rattle.st_core.specs.Streams.{lists, stream_of}
use Rattle.st_core.proofs.ForCallers.{pid_same, pid_eq-refl, process_pid, mapped, eqb-swap}
use Rattle.st_core.proofs.ForCallers.{process_holds, step_done}
use Rattle.st_plan.specs.Marks.{Marks}
use Rattle.st_plan.specs.Build.{state_after, tracers_after}
use Rattle.st_plan.proofs.OwnActs.{process_then, Silent}
use Rattle.st_plan.proofs.KeptState.{IsKept, found, there_mapped}

pub record IsZero (r : Process) : Type 0 where
  pub clocked : r.local.clock ≡ 0
  pub lasted : r.local.last ≡ 0
  pub queued : r.queue ≡ []

abbrev AreZero : State → Type 0
AreZero s = (x : Pid) (r : Process) → process s x ≡ Some r → IsZero r

abbrev IsTraced : State → Pid → Type 0
IsTraced s x = (r : Process) → process s x ≡ Some r → r.local.traced ≡ true

-- A TRACER

-- what p's tracer change makes of p's own part, of its process and of each on its node
abbrev switched : Process → Acted
switched p = answers p p.local (reply.Was p.local.traced)

abbrev owned : Bool → Process → Process → Process
owned b before r = cond b (record r { local = before.local; queue = before.queue }) r

abbrev marked : Bool → Process → Process
marked b r = cond b (record r { local = record r.local { traced = true } }) r

abbrev after_tracer : Pid → Process → Process → Process
after_tracer p before r = changed (act.Tracer p true) (switched before) r

tracer_zero : (p : Pid) (before r : Process) → IsZero before → IsZero r
    → IsZero (after_tracer p before r)
tracer_zero p before r z y =
    let own : Process = owned (pid_eq r.pid p) before r in
    let mine : IsZero own = elim (pid_eq r.pid p) as (λ b. IsZero (owned b before r)) [
      | true ↦ record { clocked = z.clocked; lasted = z.lasted; queued = z.queued }
      | false ↦ y
    ] in
    elim (node_eq own.pid p) as (λ b. IsZero (marked b own)) [
      | true ↦ record { clocked = mine.clocked; lasted = mine.lasted; queued = mine.queued }
      | false ↦ mine
    ]

own_pid : (p : Pid) (before r : Process) → (owned (pid_eq r.pid p) before r).pid ≡ r.pid
own_pid p before r = elim (pid_eq r.pid p) as
    (λ b. (owned b before r).pid ≡ r.pid) [ true ↦ refl | false ↦ refl ]

-- each process on p's node is traced
tracer_node : (p : Pid) (before r : Process) → node_eq r.pid p ≡ true
    → (after_tracer p before r).local.traced ≡ true
tracer_node p before r h =
    ap (λ b. (marked b (owned (pid_eq r.pid p) before r)).local.traced)
    (ap (λ x. node_eq x p) (own_pid p before r) ∙ h)

-- a process that was traced stays traced
tracer_keeps : (p : Pid) (before r : Process) → r.local.traced ≡ true
    → (after_tracer p before r).local.traced ≡ true
tracer_keeps p before r h =
    elim (node_eq r.pid p) as (λ b. node_eq r.pid p ≡ b
    → (after_tracer p before r).local.traced ≡ true) [
      | true ↦ λ e. tracer_node p before r e
      | false ↦ λ e. let apart : pid_eq r.pid p ≡ false = rw e refl in rw (apart, e) h
    ] refl

-- ALL TRACERS

-- what a state is after these acts, which are the tracers of some pids
pub record IsOpened (top : ℕ) (s : State) (acts : List Act) (ps : List Pid) : Type 0 where
  pub os : List Outcome
  pub runs : run_from top s acts ≡ Some os
  pub silent : Silent os
  pub zero : AreZero (state_after s os)
  pub there : (x : Pid) → is_some (process (state_after s os) x) ≡ is_some (process s x)
  pub keeps : (x : Pid) → IsTraced s x → IsTraced (state_after s os) x
  pub all : (k : ℕ) (x : Pid) → slice_get ps k ≡ Some x → IsTraced (state_after s os) x

all_of : (top : ℕ) (s after : State) (p : Pid) (ps : List Pid) → IsTraced after p
    → ((k : ℕ) (x : Pid) → slice_get ps k ≡ Some x → IsTraced after x) → (k : ℕ) (x : Pid)
    → slice_get (p ∷ ps) k ≡ Some x → IsTraced after x
all_of top s after p ps one rest zero x h = subst (IsTraced after) (same_Some p x h) one
all_of top s after p ps one rest (suc k) x h = rest k x h

opened : (top : ℕ) (ps : List Pid) (seen : Option ℕ) (s : State)
    → ((k : ℕ) (x : Pid) → slice_get ps k ≡ Some x → is_some (process s x) ≡ true) → AreZero s
    → ((x : Pid) → option_map_or (λ n. n == x.node) seen false ≡ true → IsTraced s x)
    → IsOpened top s (tracers_after seen ps) ps
opened top [] seen s there zeroed traced = record {
  os = [];
  runs = refl;
  silent = tt;
  zero = zeroed;
  there = λ x. refl;
  keeps = λ x h. h;
  all = λ k x h. absurd (none-some x h);
}
opened top (p ∷ ps) seen s there zeroed traced =
    elim (option_map_or (λ n. n == p.node) seen false) as
    (λ b. option_map_or (λ n. n == p.node) seen false ≡ b
    → IsOpened top s (cond b (tracers_after seen ps)
    (act.Tracer p true ∷ tracers_after (Some p.node) ps)) (p ∷ ps)) [
      | true ↦ λ e.
          let rest = opened top ps seen s (λ k x h. there (suc k) x h) zeroed traced in
          record {
            os = rest.os;
            runs = rest.runs;
            silent = rest.silent;
            zero = rest.zero;
            there = rest.there;
            keeps = rest.keeps;
            all = all_of top s (state_after s rest.os) p ps (rest.keeps p (traced p e)) rest.all;
          }
      | false ↦ λ e.
          let at = found (process s p) (there 0 p refl) in
          let r = at.0 in
          let a = act.Tracer p true in
          let now = switched r in
          let o = outcome_of s a now in
          let first : step top s a ≡ Some o = step_done top s a r r now at.1 at.1 refl in
          let here : (x : Pid) → process o.after x ≡ option_map (changed a now) (process s x) =
          λ x. process_then s a now x in
          let stays : (x : Pid) → is_some (process o.after x) ≡ is_some (process s x) =
          λ x. ap (λ (q : Option Process). is_some q) (here x)
          ∙ there_mapped (changed a now) (process s x) in
          let was : (x : Pid) (r2 : Process) → process o.after x ≡ Some r2
          → (z : Process) × (process s x ≡ Some z) × (changed a now z ≡ r2) =
          λ x r2 is. mapped (changed a now) (process s x) r2 (sym (here x) ∙ is) in
          let still : (x : Pid) → IsTraced s x → IsTraced o.after x =
          λ x h r2 is.
          let z = was x r2 is in
          subst (λ (y : Process). y.local.traced ≡ true) z.2 (tracer_keeps p r z.0 (h z.0 z.1)) in
          let node : (x : Pid) → node_eq x p ≡ true → IsTraced o.after x =
          λ x same r2 is.
          let z = was x r2 is in
          let near : node_eq z.0.pid p ≡ true =
          ap (λ q. node_eq q p) (process_pid s x z.0 z.1) ∙ same in
          subst (λ (y : Process). y.local.traced ≡ true) z.2 (tracer_node p r z.0 near) in
          let zeros : AreZero o.after =
          λ x r2 is.
          let z = was x r2 is in
          subst IsZero z.2 (tracer_zero p r z.0 (zeroed p r at.1) (zeroed x z.0 z.1)) in
          let rest = opened top ps (Some p.node) o.after
          (λ k x h. stays x ∙ there (suc k) x h) zeros
          (λ x h. node x (eqb-swap x.node p.node ∙ h)) in
          record {
            os = o ∷ rest.os;
            runs = ap (option_and_then (λ (o : Outcome). option_map (λ os. o ∷ os)
                (run_from top o.after (tracers_after (Some p.node) ps)))) first
                ∙ ap (option_map (λ os. o ∷ os)) rest.runs;
            silent = (refl, rest.silent);
            zero = rest.zero;
            there = λ x. rest.there x ∙ stays x;
            keeps = λ x h. rest.keeps x (still x h);
            all = all_of top s (state_after o.after rest.os) p ps
                (rest.keeps p (node p (eq-eqb p.node p.node refl))) rest.all;
          }
    ] refl

-- FROM ZERO

abbrev zeroes : Pid → Process
zeroes p = record { pid = p; local = zero_local; queue = [] }

zero_found : (pids : List Pid) (x : Pid) (r : Process) → process (zero_state pids) x ≡ Some r
    → (k : ℕ) × (slice_get pids k ≡ Some x)
zero_found [] x r h = absurd (none-some r h)
zero_found (p ∷ pids) x r h =
    elim (pid_eq p x) as (λ b. pid_eq p x ≡ b → cond b (Some (zeroes p))
    (process (zero_state pids) x) ≡ Some r
    → (k : ℕ) × (slice_get (p ∷ pids) k ≡ Some x)) [
      | true ↦ λ e h. (0, ap (λ (q : Pid). Some q) (pid_same p x e))
      | false ↦ λ e h. let rest = zero_found pids x r h in (suc rest.0, rest.1)
    ] refl h

zero_there : (pids : List Pid) (k : ℕ) (x : Pid) → slice_get pids k ≡ Some x
    → is_some (process (zero_state pids) x) ≡ true
zero_there [] k x h = absurd (none-some x h)
zero_there (p ∷ pids) zero x h =
    rw (same_Some p x h, pid_eq-refl x) refl
zero_there (p ∷ pids) (suc k) x h =
    elim (pid_eq p x) as (λ b. is_some (cond b (Some (zeroes p)) (process (zero_state pids) x))
    ≡ true) [
      | true ↦ refl
      | false ↦ zero_there pids k x h
    ]

zero_zero : (pids : List Pid) → AreZero (zero_state pids)
zero_zero pids x r h = process_holds IsZero (zero_state pids) x r h (All-map IsZero zeroes pids
    (λ k d within. record { clocked = refl; lasted = refl; queued = refl }))

listed_there : (streams : List Stream) (x : Pid) → lists streams x ≡ true
    → is_some (process (zero_state (pids_of streams)) x) ≡ true
listed_there [] x h = absurd (false≢true h)
listed_there (y ∷ streams) x h =
    elim (pid_eq y.pid x) as (λ b. is_some (cond b (Some y) (stream_of streams x)) ≡ true
    → is_some (cond b (Some (zeroes y.pid)) (process (zero_state (pids_of streams)) x)) ≡ true) [
      | true ↦ λ h. refl
      | false ↦ λ h. listed_there streams x h
    ] h

-- after the tracers the invariant holds of no moves
pub opens : (top : ℕ) (streams : List Stream) (marks : Marks)
    → (o : IsOpened top (zero_state (pids_of streams))
    (tracers_after None (pids_of streams)) (pids_of streams))
    × IsKept streams marks [] (state_after (zero_state (pids_of streams)) o.os)
opens top streams marks =
    let pids = pids_of streams in
    let zero = zero_state pids in
    let o = opened top pids None zero (zero_there pids) (zero_zero pids)
    (λ x h. absurd (false≢true h)) in (
      o,
      record {
        there = λ p h. o.there p ∙ listed_there streams p h;
        each = λ p r h.
            let z = o.zero p r h in
            let was = found (process (zero_state pids) p) (sym (o.there p)
            ∙ ap (λ (q : Option Process). is_some q) h) in
            let listed = zero_found pids p was.0 was.1 in
            record {
              clocked = z.clocked;
              lasted = z.lasted;
              traced = o.all listed.0 p listed.1 r h;
              queued = z.queued;
            };
      },
    )
