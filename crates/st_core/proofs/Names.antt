-- Each report is its actor's own event and names only processes that are there, since a token in
-- force is from a process that stamped it, and a step has its actor and a send's receiver in the
-- state.
use Rattle.std.proofs.Common.{◌≡◌, ℕ, Bool, true, false, cond, ◌&&◌, ◌||◌, List, [], ◌∷◌, ◌++◌, map}
use Rattle.std.proofs.Common.{Option, Some, None}
use Rattle.std.proofs.Common.{option_map, All, refl, sym, ◌∙◌, ap, subst, if◌then◌else◌}
use Rattle.std.specs.Option.{ForSome, option_map_or}
use Rattle.std.specs.List.{AllZip}
use Rattle.std.proofs.lemmas.Bool.{and_from}
use Rattle.std.proofs.lemmas.Option.{same_Some, none-some, cond_some}
use Rattle.std.proofs.lemmas.List.Elements.{All-nil, All-push, All-map}
use Rattle.st_core.specs.declared.types.Pid.{Pid}
use Rattle.st_core.specs.declared.types.Token.{Token}
use Rattle.st_core.specs.declared.types.Message.{Message}
use Rattle.st_core.specs.declared.types.Kind.{Kind}
use Rattle.st_core.specs.declared.types.Kind.TheVariants as kind
use Rattle.st_core.specs.declared.types.Want.{Want}
use Rattle.st_core.specs.declared.types.Act.{Act}
use Rattle.st_core.specs.declared.types.Act.TheVariants as act
use Rattle.st_core.specs.declared.types.Reply.TheVariants as reply
use Rattle.st_core.specs.Pid.{pid_eq, node_eq}
use Rattle.st_core.specs.State.{LocalState, Process, State, process, zero_local, zero_state}
use Rattle.st_core.specs.Stamp.{stamp, stamp_any}
use Rattle.st_core.specs.Local.{has_label}
use Rattle.st_core.specs.Pick.{pick}
use Rattle.st_core.specs.Report.{flag_of, report, token_event}
use Rattle.st_core.specs.Step.{Acted, Outcome, acted, actor, receiver, answers, sends, prints}
use Rattle.st_core.specs.Step.{untraced, changed, step}
use Rattle.st_core.specs.Run.{run, run_from}
use Rattle.st_core.specs.Streams.{is_of, is_among}
use Rattle.st_core.specs.Laws.{IsStamped, IsSound, IsReportAmong, ReportsAmong}
use Rattle.st_core.proofs.Pids.{pid_eq-same}
use Rattle.st_core.proofs.Others.{process_pid, mapped, step_parts, run_parts, leaves_others}
use Rattle.st_core.proofs.Sound.{All_at, All-remove, IsAfterStamp, stamp_sound, stamp_any_sound}
use Rattle.st_core.proofs.Sound.{pick_found, process_holds, step_sound, zero_sound}
use Rattle.st_core.proofs.Queues.{queue_after, changed_queue, IsReceive, acted_queue, receive_none}
use Rattle.st_core.proofs.Queues.{receive_some}

pub process_among : (s : State) (p : Pid) (r : Process) → process s p ≡ Some r → is_among
    (map (λ (x : Process). x.pid) s) p ≡ true
process_among [] p r is = absurd (none-some r is)
process_among (x ∷ s) p r is =
    elim (pid_eq x.pid p) as (λ b.
    cond b (Some x) (process s p) ≡ Some r → (b || is_among (map (λ (y : Process). y.pid) s) p)
    ≡ true) [
      | true ↦ λ is. refl
      | false ↦ λ is. process_among s p r is
    ] is

-- THE REPORT OF AN ACT

own_is : (p q : Pid) → q ≡ p → pid_eq q p ≡ true
own_is p q same = ap (λ x. pid_eq x p) same ∙ pid_eq-same p

-- a report is p's own event and names only these pids, if the token in force and the receiver do
event_among : (pids : List Pid) (p : Pid) (traced : Bool) (k : Kind) (token : Option Token)
    (to : Option Pid) (value : ℕ) → ((t : Token) → token ≡ Some t → is_of k t.from to p ≡ true)
    → ((t : Token) → token ≡ Some t → is_among pids t.from ≡ true)
    → option_map_or (is_among pids) to true ≡ true
    → ForSome (report traced k token to value) (IsReportAmong pids p)
event_among pids p traced k None to value own from named e is = absurd (none-some e is)
event_among pids p traced k (Some t) to value own from named e is =
    let parts = cond_some (traced && flag_of k t.flags) (token_event k t to value) e is in
    subst (IsReportAmong pids p) parts.1
    (record {
      own = own t refl;
      names = and_from (is_among pids t.from) (option_map_or (is_among pids) to true) (from t refl)
          named;
    })

-- the sender of each queued message of the process is among the pids
abbrev pub FromAmong : List Pid → Process → Type 0
FromAmong pids r = All (λ m. is_among pids m.from ≡ true) r.queue

send_among : (top : ℕ) (pids : List Pid) (p q : Pid) (v : ℕ) (r : Process) (done : Acted)
    → r.pid ≡ p
    → is_among pids p ≡ true → is_among pids q ≡ true → IsSound top r
    → acted top r (act.Send p q v) ≡ Some done
    → ForSome done.report (IsReportAmong pids p)
send_among top pids p q v r done who mine other s h =
    let parts = mapped (sends r q v) (stamp_any top r.pid r.local) done h in
    let l = parts.0 in
    let stamped = stamp_any_sound top r.pid r.local l s.ordered s.within parts.1 in
    let from = λ (t : Token) (is : l.token ≡ Some t). (stamped.token t is).from ∙ who in
    subst (λ (x : Acted). ForSome x.report (IsReportAmong pids p)) parts.2
    (event_among pids p r.local.traced kind.Send l.token (Some q) v
    (λ t is. and_from (pid_eq t.from p) true (own_is p t.from (from t is)) refl)
    (λ t is. ap (is_among pids) (from t is) ∙ mine) other)

print_among : (top : ℕ) (pids : List Pid) (p : Pid) (v : ℕ) (r : Process)
    (stamp : Option LocalState) (done : Acted)
    → r.pid ≡ p → is_among pids p ≡ true
    → ((m : LocalState) → stamp ≡ Some m → IsAfterStamp top r.pid m)
    → option_map (prints r v) stamp ≡ Some done → ForSome done.report (IsReportAmong pids p)
print_among top pids p v r stamp done who mine after h =
    let parts = mapped (prints r v) stamp done h in
    let l = parts.0 in
    let stamped = after l parts.1 in
    let from = λ (t : Token) (is : l.token ≡ Some t). (stamped.token t is).from ∙ who in
    subst (λ (x : Acted). ForSome x.report (IsReportAmong pids p)) parts.2
    (event_among pids p r.local.traced kind.Print l.token None v
    (λ t is. and_from (pid_eq t.from p) true (own_is p t.from (from t is)) refl)
    (λ t is. ap (is_among pids) (from t is) ∙ mine) refl)

receive_among : (top : ℕ) (pids : List Pid) (p : Pid) (w : Want) (r : Process) (done : Acted)
    (found : Option (ℕ × Message)) → pick w r.queue ≡ found → r.pid ≡ p → is_among pids p ≡ true
    → IsSound top r
    → FromAmong pids r → acted top r (act.Receive p w) ≡ Some done
    → ForSome done.report (IsReportAmong pids p)
receive_among top pids p w r done None is who mine s named h =
    subst (λ (x : Acted). ForSome x.report (IsReportAmong pids p))
    (receive_none top r p w done is h)
    (λ e reported. absurd (none-some e reported))
receive_among top pids p w r done (Some found) is who mine s named h =
    let m = found.1 in
    let at = pick_found w r.queue found is in
    let stamped : ForSome m.token (IsStamped top m.from) =
    All_at (λ m. ForSome m.token (IsStamped top m.from)) r.queue found.0 m at s.queued in
    let sender : is_among pids m.from ≡ true =
    All_at (λ m. is_among pids m.from ≡ true) r.queue found.0 m at named in
    subst (λ (x : Acted). ForSome x.report (IsReportAmong pids p))
    (receive_some top r p w done found is h)
    (event_among pids p r.local.traced kind.Receive m.token (Some r.pid) m.value
    (λ t some. own_is p r.pid who)
    (λ t some. ap (is_among pids) ((stamped t some).from) ∙ sender) (ap (is_among pids) who ∙ mine))

silent : (pids : List Pid) (p : Pid) (x done : Acted) → x.report ≡ None → Some x ≡ Some done
    → ForSome done.report (IsReportAmong pids p)
silent pids p x done none h e is =
    absurd (none-some e (sym none ∙ ap (λ (y : Acted). y.report) (same_Some x done h) ∙ is))

acted_among : (top : ℕ) (pids : List Pid) (a : Act) (r : Process) (done : Acted) → r.pid ≡ actor a
    → is_among pids (actor a) ≡ true → is_among pids (receiver a) ≡ true → IsSound top r
    → FromAmong pids r
    → acted top r a ≡ Some done → ForSome done.report (IsReportAmong pids (actor a))
acted_among top pids (act.Send p q v) r done who mine other s named h =
    send_among top pids p q v r done who mine other s h
acted_among top pids (act.Receive p w) r done who mine other s named h =
    receive_among top pids p w r done (pick w r.queue) refl who mine s named h
acted_among top pids (act.Print p v) r done who mine other s named h =
    print_among top pids p v r (stamp_any top r.pid r.local) done who mine
    (λ m at. stamp_any_sound top r.pid r.local m s.ordered s.within at) h
acted_among top pids (act.PrintAt p n v) r done who mine other s named h =
    elim (has_label n r.local.token) as (λ b.
    cond b (option_map (prints r v) (stamp top r.pid r.local)) (Some (answers r r.local reply.Done))
    ≡ Some done
    → ForSome done.report (IsReportAmong pids p)) [
      | true ↦ λ h.
          print_among top pids p v r (stamp top r.pid r.local) done who mine
          (λ m at. stamp_sound top r.pid r.local m s.ordered at) h
      | false ↦ λ h. silent pids p (answers r r.local reply.Done) done refl h
    ] h
acted_among top pids a r done who mine other s named h = silent pids (actor a) _ done refl h

-- QUEUES

kept_among : (top : ℕ) (pids : List Pid) (a : Act) (r : Process) (done : Acted) → FromAmong pids r
    → ¬ IsReceive a
    → acted top r a ≡ Some done → All (λ m. is_among pids m.from ≡ true) done.queue
kept_among top pids a r done named other h =
    subst (All (λ (m : Message). is_among pids m.from ≡ true))
    (sym (acted_queue top a r done other h)) named

taken_among : (top : ℕ) (pids : List Pid) (p : Pid) (w : Want) (r : Process) (done : Acted)
    (found : Option (ℕ × Message)) → pick w r.queue ≡ found → FromAmong pids r
    → acted top r (act.Receive p w) ≡ Some done → All (λ m. is_among pids m.from ≡ true) done.queue
taken_among top pids p w r done None is named h =
    subst (λ (x : Acted). All (λ m. is_among pids m.from ≡ true) x.queue)
    (receive_none top r p w done is h) named
taken_among top pids p w r done (Some found) is named h =
    subst (λ (x : Acted). All (λ m. is_among pids m.from ≡ true) x.queue)
    (receive_some top r p w done found is h)
    (All-remove (λ m. is_among pids m.from ≡ true) r.queue found.0 named)

-- the actor's part leaves only messages in its queue whose senders are among the pids
done_among : (top : ℕ) (pids : List Pid) (a : Act) (r : Process) (done : Acted) → FromAmong pids r
    → acted top r a ≡ Some done → All (λ m. is_among pids m.from ≡ true) done.queue
done_among top pids (act.Receive p w) r done named h =
    taken_among top pids p w r done (pick w r.queue) refl named h
done_among top pids a r done named h =
    kept_among top pids a r done named (λ h. h) h

-- the senders in a queue stay among the pids, since a message that reaches it is from the actor
after_among : (pids : List Pid) (a : Act) (token : Option Token) (x : Pid) (queue : List Message)
    → is_among pids (actor a) ≡ true → All (λ m. is_among pids m.from ≡ true) queue
    → All (λ m. is_among pids m.from ≡ true) (queue_after a token x queue)
after_among pids (act.Send p q v) token x queue mine all =
    let m : Message = record { from = p; value = v; token = token } in
    elim (pid_eq x q) as (λ b.
    All (λ m. is_among pids m.from ≡ true) (cond b (queue ++ m ∷ []) queue)) [
      | true ↦ All-push (λ m. is_among pids m.from ≡ true) queue m all mine
      | false ↦ all
    ]
after_among pids (act.Reset p) token x queue mine all =
    elim (node_eq x p) as (λ b.
    All (λ m. is_among pids m.from ≡ true) (cond b (map untraced queue) queue)) [
      | true ↦ All-map (λ (m : Message). is_among pids m.from ≡ true) untraced queue all
      | false ↦ all
    ]
after_among pids a token x queue mine all = all

changed_among : (pids : List Pid) (a : Act) (done : Acted) (r : Process)
    → is_among pids (actor a) ≡ true
    → All (λ m. is_among pids m.from ≡ true) done.queue → FromAmong pids r
    → FromAmong pids (changed a done r)
changed_among pids a done r mine part named =
    subst (All (λ (m : Message). is_among pids m.from ≡ true)) (sym (changed_queue a done r))
    (after_among pids a done.local.token r.pid
    (if pid_eq r.pid (actor a) then done.queue else r.queue) mine
    (elim (pid_eq r.pid (actor a)) as (λ b.
    All (λ m. is_among pids m.from ≡ true) (if b then done.queue else r.queue)) [
      | true ↦ part
      | false ↦ named
    ]))

-- STEPS AND RUNS

abbrev pub state_pids : State → List Pid
state_pids s = map (λ r. r.pid) s

pub record IsNamed (pids : List Pid) (a : Act) (o : Outcome) : Type 0 where
  pub report : ReportsAmong pids a o
  pub queues : All (FromAmong pids) o.after

step_named : (top : ℕ) (pids : List Pid) (s : State) (a : Act) (o : Outcome) → state_pids s ≡ pids
    → step top s a ≡ Some o → All (IsSound top) s → All (FromAmong pids) s → IsNamed pids a o
step_named top pids s a o are h sound named =
    let t = step_parts top s a o h in
    let mine : is_among pids (actor a) ≡ true =
    subst (λ ps. is_among ps (actor a) ≡ true) are
    (process_among s (actor a) t.before t.is_before) in
    let other : is_among pids (receiver a) ≡ true =
    subst (λ ps. is_among ps (receiver a) ≡ true) are
    (process_among s (receiver a) t.other t.is_other) in
    let own = process_holds (FromAmong pids) s (actor a) t.before t.is_before named in
    let part = done_among top pids a t.before t.done own t.is_done in
    subst (IsNamed pids a) t.is_outcome (record {
      report =
          acted_among top pids a t.before t.done (process_pid s (actor a) t.before t.is_before) mine
          other
          (process_holds (IsSound top) s (actor a) t.before t.is_before sound) own t.is_done;
      queues =
          All-map (FromAmong pids) (changed a t.done) s
          (λ k d within. changed_among pids a t.done _ mine part (named k d within));
    })

run_from_named : (top : ℕ) (pids : List Pid) (s : State) (acts : List Act) (os : List Outcome)
    → state_pids s ≡ pids
    → run_from top s acts ≡ Some os → All (IsSound top) s → All (FromAmong pids) s
    → AllZip (ReportsAmong pids) acts os
run_from_named top pids s [] os are h sound named =
    subst (AllZip (ReportsAmong pids) []) (same_Some [] os h) tt
run_from_named top pids s (a ∷ acts) os are h sound named =
    let t = run_parts top s a acts os h in
    let one = step_named top pids s a t.first are t.is_first sound named in
    let kept = step_sound top s a t.first t.is_first sound in
    let later : state_pids t.first.after ≡ pids = (leaves_others top s a t.first t.is_first).pids
    ∙ are in
    subst (AllZip (ReportsAmong pids) (a ∷ acts)) (sym t.is_whole) (
      one.report,
      run_from_named top pids t.first.after acts t.others later t.is_rest kept.processes
          one.queues,
    )

pub zero_pids : (pids : List Pid) → state_pids (zero_state pids) ≡ pids
zero_pids [] = refl
zero_pids (p ∷ pids) = ap (λ ps. p ∷ ps) (zero_pids pids)

pub run_named : (top : ℕ) (pids : List Pid) (acts : List Act) (os : List Outcome)
    → run top pids acts ≡ Some os
    → AllZip (ReportsAmong pids) acts os
run_named top pids acts os h =
    run_from_named top pids (zero_state pids) acts os (zero_pids pids) h (zero_sound top pids)
    (All-map (FromAmong pids) (λ p. record { pid = p; local = zero_local; queue = [] }) pids
    (λ k d within. All-nil (λ m. is_among pids m.from ≡ true)))
