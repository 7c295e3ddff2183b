-- Clocks and queued tokens stay sound, since an act changes them only by a stamp, which lifts the
-- clock above last, by a receive of a stamped token, by a set, which brings last to the clock, or
-- by a reset to zero.
use Rattle.std.proofs.Common.{◌≡◌, ℕ, ◌+◌, ◌<◌, ◌≤◌, suc, Bool, true, false, cond, nat_lt, ◌&&◌}
use Rattle.std.proofs.Common.{List, [], ◌∷◌, ◌++◌, map, Option, Some, None, is_some, option_map}
use Rattle.std.proofs.Common.{All, refl, sym, ◌∙◌, ap, subst, arith}
use Rattle.std.specs.Option.{ForSome}
use Rattle.std.specs.List.{slice_get, remove}
use Rattle.std.proofs.lemmas.Bool.{ltb-true}
use Rattle.std.proofs.lemmas.Option.{same_Some, none-some, cond_some, option_and_then_some}
use Rattle.std.proofs.lemmas.Option.{slice_get_within, get_or_from_slice_get}
use Rattle.std.proofs.lemmas.List.Elements.{All-nil, All-cons, All-head, All-tail, All-append}
use Rattle.std.proofs.lemmas.List.Elements.{All-push, All-map, All-take, All-drop}
use Rattle.st_core.specs.declared.types.Pid.{Pid}
use Rattle.st_core.specs.declared.types.Token.{Token}
use Rattle.st_core.specs.declared.types.Message.{Message}
use Rattle.st_core.specs.declared.types.Kind.{Kind}
use Rattle.st_core.specs.declared.types.Kind.TheVariants as kind
use Rattle.st_core.specs.declared.types.Event.{Event}
use Rattle.st_core.specs.declared.types.Want.{Want}
use Rattle.st_core.specs.declared.types.Component.{Component}
use Rattle.st_core.specs.declared.types.Act.{Act}
use Rattle.st_core.specs.declared.types.Act.TheVariants as act
use Rattle.st_core.specs.declared.types.Reply.{Reply}
use Rattle.st_core.specs.declared.types.Reply.TheVariants as reply
use Rattle.st_core.specs.Pid.{pid_eq, node_eq}
use Rattle.st_core.specs.State.{LocalState, Process, State, process, zero_local, zero_state}
use Rattle.st_core.specs.Stamp.{stamp, stamp_any, stamped_token}
use Rattle.st_core.specs.Local.{received, with_set, default_token, wiped, has_label}
use Rattle.st_core.specs.Pick.{matches, pick, pick_from}
use Rattle.st_core.specs.Report.{flag_of, report, token_event}
use Rattle.st_core.specs.Step.{Acted, Outcome, acted, actor, answers, sends, prints, receives}
use Rattle.st_core.specs.Step.{untraced, reached, changed, step}
use Rattle.st_core.specs.Run.{run, run_from}
use Rattle.st_core.specs.Laws.{IsStamped, IsSound, KeepsSound}
use Rattle.st_core.proofs.Others.{mapped, process_pid, step_parts, run_parts}

-- THE STAMP

-- p's record after a stamp, or without a token
pub record IsAfterStamp (top : ℕ) (p : Pid) (l : LocalState) : Type 0 where
  pub ordered : l.last ≤ l.clock
  pub within : l.clock ≤ top
  pub token : ForSome l.token (IsStamped top p)

pub stamp_sound : (top : ℕ) (p : Pid) (l m : LocalState) → l.last ≤ l.clock → stamp top p l ≡ Some m
    → IsAfterStamp top p m
stamp_sound top p l m ordered h =
    let made = λ (t : Token).
    record l { token = Some (stamped_token p l t); clock = l.clock + 1 } in
    option_and_then_some (λ t. cond (nat_lt l.clock top) (Some (made t)) None) l.token m h
    (λ t0 _ at.
    let parts =
    cond_some (nat_lt l.clock top) (made t0) m at in
    let below : l.clock < top = ltb-true l.clock top parts.0 in
    let stamped : IsStamped top p (stamped_token p l t0) =
    record { from = refl; rises = omega arith; within = omega arith } in
    subst (IsAfterStamp top p) parts.1 (record {
      ordered = omega arith;
      within = omega arith;
      token = λ t e. subst (IsStamped top p) (same_Some (stamped_token p l t0) t e) stamped;
    }))

stamp_any_at : (top : ℕ) (p : Pid) (l m : LocalState) → l.last ≤ l.clock → l.clock ≤ top
    → (token : Option Token)
    → l.token ≡ token → cond (is_some token) (stamp top p l) (Some l) ≡ Some m
    → IsAfterStamp top p m
stamp_any_at top p l m ordered within None e h =
    subst (IsAfterStamp top p) (same_Some l m h)
    (record {
      ordered = ordered;
      within = within;
      token =
          λ t is. absurd (none-some t (sym e ∙ is));
    })
stamp_any_at top p l m ordered within (Some t) e h = stamp_sound top p l m ordered h

pub stamp_any_sound : (top : ℕ) (p : Pid) (l m : LocalState) → l.last ≤ l.clock → l.clock ≤ top
    → stamp_any top p l ≡ Some m → IsAfterStamp top p m
stamp_any_sound top p l m ordered within h = stamp_any_at top p l m ordered within l.token refl h

-- THE PICK

pick_from_found : (k : ℕ) (w : Want) (queue : List Message) (found : ℕ × Message)
    → pick_from k w queue ≡ Some found
    → (j : ℕ) × (found.0 ≡ k + j) × (slice_get queue j ≡ Some found.1)
pick_from_found k w [] found h = absurd (none-some found h)
pick_from_found k w (m ∷ ms) found h =
    elim (matches w k m) as (λ b.
    cond b (Some (k, m)) (pick_from (k + 1) w ms) ≡ Some found
    → (j : ℕ) × (found.0 ≡ k + j) × (slice_get (m ∷ ms) j ≡ Some found.1)) [
      | true ↦ λ h.
          let same = same_Some (k, m) found h in
          let place : k ≡ found.0 = ap (λ (x : ℕ × Message). x.0) same in
          (0, omega arith, ap (λ (x : ℕ × Message). Some x.1) same)
      | false ↦ λ h.
          let rest = pick_from_found (k + 1) w ms found h in
          let place : found.0 ≡ k + 1 + rest.0 = rest.1 in
          (suc rest.0, omega arith, rest.2)
    ] h

-- the picked message is in the queue at its place
pub pick_found : (w : Want) (queue : List Message) (found : ℕ × Message) → pick w queue ≡ Some found
    → slice_get queue found.0 ≡ Some found.1
pick_found w queue found h =
    let at = pick_from_found 0 w queue found h in
    let same : at.0 ≡ found.0 = let e : found.0 ≡ 0 + at.0 = at.1 in omega arith in
    ap (slice_get queue) (sym same) ∙ at.2

-- a fact of each element of a list holds of the element at k
pub All_at : {X : Type 0} (P : X → Type 0) (xs : List X) (k : ℕ) (x : X) → slice_get xs k ≡ Some x
    → All P xs → P x
All_at P xs k x h all = subst P (get_or_from_slice_get xs k x x h)
    (all k x (slice_get_within xs k x h))

pub All-remove : {X : Type 0} (P : X → Type 0) (xs : List X) (k : ℕ) → All P xs
    → All P (remove xs k)
All-remove P xs k all = All-append P _ _ (All-take P k xs all) (All-drop P (suc k) xs all)

-- THE ACTOR'S PART

-- the token that a send's message gets is the actor's stamp
abbrev pub SendsStamped : ℕ → Act → Option Token → Type 0
SendsStamped top (act.Send p q v) token = ForSome token (IsStamped top p)
SendsStamped top a token = Unit {0}

abbrev Rises : Event → Type 0
Rises e = e.serial.prev < e.serial.this

pub record IsActed (top : ℕ) (a : Act) (r : Process) (done : Acted) : Type 0 where
  pub actor : IsSound top (record r { local = done.local; queue = done.queue })
  pub sent : SendsStamped top a done.local.token
  pub report : ForSome done.report Rises

-- a report under a stamped token has prev below this
report_rises : (top : ℕ) (p : Pid) (traced : Bool) (k : Kind) (token : Option Token)
    (to : Option Pid) (value : ℕ)
    → ForSome token (IsStamped top p) → ForSome (report traced k token to value) Rises
report_rises top p traced k None to value stamped e h = absurd (none-some e h)
report_rises top p traced k (Some t) to value stamped e h =
    let parts = cond_some (traced && flag_of k t.flags) (token_event k t to value) e h in
    subst Rises parts.1 ((stamped t refl).rises)

answered : (top : ℕ) (a : Act) (r : Process) (l : LocalState) (y : Reply) → IsSound top r
    → l.last ≤ l.clock
    → l.clock ≤ top → SendsStamped top a l.token → IsActed top a r (answers r l y)
answered top a r l y s ordered within sent = record {
  actor = record { ordered = ordered; within = within; queued = s.queued };
  sent = sent;
  report = λ e h. absurd (none-some e h);
}

printed : (top : ℕ) (a : Act) (r : Process) (v : ℕ) (stamped : Option LocalState) (done : Acted)
    → IsSound top r
    → ((t : Option Token) → SendsStamped top a t)
    → ((m : LocalState) → stamped ≡ Some m → IsAfterStamp top r.pid m)
    → option_map (prints r v) stamped ≡ Some done → IsActed top a r done
printed top a r v stamped done s unsent after h =
    let parts = mapped (prints r v) stamped done h in
    let l = parts.0 in
    let stamp = after l parts.1 in
    subst (IsActed top a r) parts.2 (record {
      actor = record { ordered = stamp.ordered; within = stamp.within; queued = s.queued };
      sent = unsent l.token;
      report = report_rises top r.pid r.local.traced kind.Print l.token None v stamp.token;
    })

sent_acted : (top : ℕ) (p q : Pid) (v : ℕ) (r : Process) (done : Acted) → r.pid ≡ p → IsSound top r
    → acted top r (act.Send p q v) ≡ Some done → IsActed top (act.Send p q v) r done
sent_acted top p q v r done is s h =
    let parts = mapped (sends r q v) (stamp_any top r.pid r.local) done h in
    let l = parts.0 in
    let stamp = stamp_any_sound top r.pid r.local l s.ordered s.within parts.1 in
    subst (IsActed top (act.Send p q v) r) parts.2 (record {
      actor = record { ordered = stamp.ordered; within = stamp.within; queued = s.queued };
      sent = subst (λ x. ForSome l.token (IsStamped top x)) is stamp.token;
      report = report_rises top r.pid r.local.traced kind.Send l.token (Some q) v stamp.token;
    })

-- a receive of a stamped token keeps last ≤ clock ≤ TOP
received_ordered : (top : ℕ) (p : Pid) (l : LocalState) (token : Option Token) → l.last ≤ l.clock
    → l.clock ≤ top
    → ForSome token (IsStamped top p)
    → ((received l token).last ≤ (received l token).clock) × ((received l token).clock ≤ top)
received_ordered top p l None ordered within stamped = (ordered, within)
received_ordered top p l (Some t) ordered within stamped =
    let fits : t.serial.this ≤ top = (stamped t refl).within in
    (omega arith, omega arith)

received_acted : (top : ℕ) (p : Pid) (w : Want) (r : Process) (found : Option (ℕ × Message))
    → pick w r.queue ≡ found
    → IsSound top r → IsActed top (act.Receive p w) r (receives r found)
received_acted top p w r None is s =
    answered top (act.Receive p w) r r.local reply.Nothing s s.ordered s.within tt
received_acted top p w r (Some found) is s =
    let m = found.1 in
    let stamped : ForSome m.token (IsStamped top m.from) =
    All_at (λ m. ForSome m.token (IsStamped top m.from)) r.queue found.0 m
    (pick_found w r.queue found is) s.queued in
    let counts = received_ordered top m.from r.local m.token s.ordered s.within stamped in
    record {
      actor =
          record {
            ordered = counts.0;
            within = counts.1;
            queued = All-remove (λ m. ForSome m.token (IsStamped top m.from)) r.queue found.0
                s.queued;
          };
      sent = tt;
      report = report_rises top m.from r.local.traced kind.Receive m.token (Some r.pid) m.value
          stamped;
    }

-- a set keeps last ≤ clock ≤ TOP
set_ordered : (top : ℕ) (p : Pid) (c : Component) (l : LocalState) → l.last ≤ l.clock
    → l.clock ≤ top
    → ((with_set p c l).last ≤ (with_set p c l).clock) × ((with_set p c l).clock ≤ top)
set_ordered top p c l ordered within =
    let begun =
    λ (token : Option Token).
    let m : LocalState =
    elim token [
      | None ↦ record l { token = Some (default_token p); last = l.clock }
      | Some t ↦
          l
    ] in
    m in
    elim l.token as (λ token. ((begun token).last ≤ (begun token).clock)
    × ((begun token).clock ≤ top)) [
      | None ↦ (omega arith, within)
      | Some t ↦ (ordered, within)
    ]

pub acted_sound : (top : ℕ) (a : Act) (r : Process) (done : Acted) → r.pid ≡ actor a → IsSound top r
    → acted top r a ≡ Some done → IsActed top a r done
acted_sound top (act.Send p q v) r done is s h = sent_acted top p q v r done is s h
acted_sound top (act.Receive p w) r done is s h =
    subst (IsActed top (act.Receive p w) r) (same_Some _ done h)
    (received_acted top p w r (pick w r.queue) refl s)
acted_sound top (act.Print p v) r done is s h =
    printed top (act.Print p v) r v (stamp_any top r.pid r.local) done s (λ t. tt)
    (λ m at. stamp_any_sound top r.pid r.local m s.ordered s.within at) h
acted_sound top (act.PrintAt p n v) r done is s h =
    elim (has_label n r.local.token) as (λ b.
    cond b (option_map (prints r v) (stamp top r.pid r.local)) (Some (answers r r.local reply.Done))
    ≡ Some done
    → IsActed top (act.PrintAt p n v) r done) [
      | true ↦ λ h.
          printed top (act.PrintAt p n v) r v (stamp top r.pid r.local) done s (λ t. tt)
          (λ m at. stamp_sound top r.pid r.local m s.ordered at) h
      | false ↦ λ h.
          subst (IsActed top (act.PrintAt p n v) r) (same_Some _ done h)
          (answered top (act.PrintAt p n v) r r.local reply.Done s s.ordered s.within tt)
    ] h
acted_sound top (act.Set p c) r done is s h =
    let counts = set_ordered top r.pid c r.local s.ordered s.within in
    subst (IsActed top (act.Set p c) r) (same_Some _ done h)
    (answered top (act.Set p c) r _ _ s counts.0 counts.1 tt)
acted_sound top a r done is s h =
    subst (IsActed top a r) (same_Some _ done h)
    (answered top a r _ _ s s.ordered s.within tt)

-- EACH PROCESS

abbrev Queued : ℕ → Message → Type 0
Queued top m = ForSome m.token (IsStamped top m.from)

reached_sound : (top : ℕ) (a : Act) (token : Option Token) (r : Process) → SendsStamped top a token
    → IsSound top r
    → IsSound top (reached a token r)
reached_sound top (act.Send p q v) token r sent s =
    let m : Message = record { from = p; value = v; token = token } in
    elim (pid_eq r.pid q) as (λ b.
    IsSound top (cond b (record r { queue = r.queue ++ m ∷ [] }) r)) [
      | true ↦ record {
        ordered = s.ordered;
        within = s.within;
        queued =
            All-push (Queued top) r.queue m s.queued sent;
      }
      | false ↦ s
    ]
reached_sound top (act.Reset p) token r sent s =
    elim (node_eq r.pid p) as (λ b.
    IsSound top (cond b (record r { local = wiped r.local; queue = map untraced r.queue }) r)) [
      | true ↦
          record {
            ordered = omega arith;
            within = omega arith;
            queued = All-map (Queued top) untraced r.queue
                (λ k d within t e. absurd (none-some t e));
          }
      | false ↦ s
    ]
reached_sound top (act.Tracer p on) token r sent s =
    elim (node_eq r.pid p) as (λ b.
    IsSound top (cond b (record r { local = record r.local { traced = on } }) r)) [
      | true ↦ record { ordered = s.ordered; within = s.within; queued = s.queued }
      | false ↦ s
    ]
reached_sound top a token r sent s = s

changed_sound : (top : ℕ) (a : Act) (before : Process) (done : Acted) → IsActed top a before done
    → (r : Process)
    → IsSound top r → IsSound top (changed a done r)
changed_sound top a before done part r s =
    let mine = part.actor in
    reached_sound top a done.local.token _ part.sent
    (elim (pid_eq r.pid (actor a)) as (λ b.
    IsSound top (cond b (record r { local = done.local; queue = done.queue }) r)) [
      | true ↦ record { ordered = mine.ordered; within = mine.within; queued = mine.queued }
      | false ↦ s
    ])

-- STEPS AND RUNS

-- a fact of each process of a state holds of p's
pub process_holds : (P : Process → Type 0) (s : State) (p : Pid) (r : Process)
    → process s p ≡ Some r → All P s → P r
process_holds P [] p r h all = absurd (none-some r h)
process_holds P (x ∷ s) p r h all =
    elim (pid_eq x.pid p) as (λ b. cond b (Some x) (process s p) ≡ Some r → P r) [
      | true ↦ λ h. subst P (same_Some x r h) (All-head P x s all)
      | false ↦ λ h. process_holds P s p r h (All-tail P x s all)
    ] h

pub step_sound : (top : ℕ) (s : State) (a : Act) (o : Outcome) → step top s a ≡ Some o
    → All (IsSound top) s
    → KeepsSound top o
step_sound top s a o h all =
    let t = step_parts top s a o h in
    let part =
    acted_sound top a t.before t.done (process_pid s (actor a) t.before t.is_before)
    (process_holds (IsSound top) s (actor a) t.before t.is_before all) t.is_done in
    subst (KeepsSound top) t.is_outcome (record {
      processes =
          All-map (IsSound top) (changed a t.done) s
          (λ k d within. changed_sound top a t.before t.done part _ (all k d within));
      report = part.report;
    })

pub run_from_sound : (top : ℕ) (s : State) (acts : List Act) (os : List Outcome)
    → run_from top s acts ≡ Some os
    → All (IsSound top) s → All (KeepsSound top) os
run_from_sound top s [] os h all =
    subst (All (KeepsSound top)) (same_Some [] os h) (All-nil (KeepsSound top))
run_from_sound top s (a ∷ acts) os h all =
    let t = run_parts top s a acts os h in
    let kept = step_sound top s a t.first t.is_first all in
    subst (All (KeepsSound top)) (sym t.is_whole)
    (All-cons (KeepsSound top) t.first t.others kept
    (run_from_sound top t.first.after acts t.others t.is_rest kept.processes))

pub zero_sound : (top : ℕ) (pids : List Pid) → All (IsSound top) (zero_state pids)
zero_sound top pids =
    All-map (IsSound top) (λ p. record { pid = p; local = zero_local; queue = [] }) pids
    (λ k d within. record {
      ordered = omega arith;
      within = omega arith;
      queued =
          All-nil (Queued top);
    })

-- every run keeps its processes sound
pub run_sound : (top : ℕ) (pids : List Pid) (acts : List Act) (os : List Outcome)
    → run top pids acts ≡ Some os
    → All (KeepsSound top) os
run_sound top pids acts os h = run_from_sound top (zero_state pids) acts os h (zero_sound top pids)
