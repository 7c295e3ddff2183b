-- The tags of a run are those of its queues, since an act does to the tags of a queue what it does
-- to the queue: a send appends to both, a receive takes out of both at one place, and a reset keeps
-- the places.
use Rattle.std.proofs.Common.{◌≡◌, ℕ, true, false, cond, List, [], ◌∷◌, ◌++◌, map, Option, Some}
use Rattle.std.proofs.Common.{None, option_map}
use Rattle.std.proofs.Common.{option_and_then, All, refl, sym, ◌∙◌, ap, subst, if◌then◌else◌}
use Rattle.std.specs.Option.{ForSome}
use Rattle.std.specs.List.{AllZip, slice_get, remove}
use Rattle.std.proofs.lemmas.List.Elements.{All-map}
use Rattle.std.proofs.lemmas.Option.{same_Some, none-some}
use Rattle.st_core.specs.declared.types.Pid.{Pid}
use Rattle.st_core.specs.declared.types.Token.{Token}
use Rattle.st_core.specs.declared.types.Message.{Message}
use Rattle.st_core.specs.declared.types.Want.{Want}
use Rattle.st_core.specs.declared.types.Act.{Act}
use Rattle.st_core.specs.declared.types.Act.TheVariants as act
use Rattle.st_core.specs.declared.types.Reply.TheVariants as reply
use Rattle.st_core.specs.Pid.{pid_eq, node_eq}
use Rattle.st_core.specs.State.{LocalState, Process, State, process, zero_local, zero_state}
use Rattle.st_core.specs.Local.{wiped, has_label}
use Rattle.st_core.specs.Stamp.{stamp, stamp_any}
use Rattle.st_core.specs.Pick.{pick}
use Rattle.st_core.specs.Step.{Acted, Outcome, acted, actor, answers, sends, prints, receives}
use Rattle.st_core.specs.Step.{untraced, reached, changed, step}
use Rattle.st_core.specs.Pairs.{Tags, tags_after}
use Rattle.st_core.specs.Laws.{IsSound}
use Rattle.st_core.proofs.Pids.{pid_eq-true}
use Rattle.st_core.proofs.Others.{process_pid, mapped, Stepped, step_parts, process_after, actor_is}
use Rattle.st_core.proofs.Others.{actor_mine, actor_after, sent_local}
use Rattle.st_core.proofs.Sound.{acted_sound, process_holds}
use Rattle.st_core.proofs.Tags.{no_tags}
use Rattle.st_core.proofs.Zips.{AllZip_push, AllZip_remove, AllZip_map}

pub record TokenAfter (os : List Outcome) (i : ℕ) (p : Pid) (t : Token) : Type 0 where
  pub sender : Process
  pub is_sender : option_and_then (λ o. process o.after p) (slice_get os i) ≡ Some sender
  pub stamped : sender.local.token ≡ Some t

-- the message m in p's queue was sent by act i, and its token, if it has one, is the sender's after
-- that act
pub record IsTag (acts : List Act) (os : List Outcome) (p : Pid) (i : ℕ) (m : Message) : Type 0
  where
    pub sent : slice_get acts i ≡ Some (act.Send m.from p m.value)
    pub from : ForSome m.token (λ t. t.from ≡ m.from)
    pub token : ForSome m.token (TokenAfter os i m.from)

-- the tags of each process are those of its queue
pub record AreTags (acts : List Act) (os : List Outcome) (s : State) (tags : Tags) : Type 0 where
  pub queues : (p : Pid) (r : Process) → process s p ≡ Some r
      → AllZip (IsTag acts os p) (tags p) r.queue

-- QUEUES AFTER AN ACT

-- x's queue with what reaches it besides the actor's own part
abbrev pub queue_after : Act → Option Token → Pid → List Message → List Message
queue_after (act.Send p q v) token x queue =
    if pid_eq x q then queue ++ record { from = p; value = v; token = token } ∷ [] else queue
queue_after (act.Reset p) token x queue = if node_eq x p then map untraced queue else queue
queue_after a token x queue = queue

reached_queue : (a : Act) (token : Option Token) (r : Process)
    → (reached a token r).queue ≡ queue_after a token r.pid r.queue
reached_queue (act.Send p q v) token r =
    let m : Message = record { from = p; value = v; token = token } in
    elim (pid_eq r.pid q) as (λ b.
    (cond b (record r { queue = r.queue ++ m ∷ [] }) r).queue
    ≡ cond b (r.queue ++ m ∷ []) r.queue) [
      | true ↦ refl
      | false ↦ refl
    ]
reached_queue (act.Reset p) token r =
    elim (node_eq r.pid p) as (λ b.
    (cond b (record r { local = wiped r.local; queue = map untraced r.queue }) r).queue
    ≡ cond b (map untraced r.queue) r.queue) [
      | true ↦ refl
      | false ↦ refl
    ]
reached_queue (act.Tracer p on) token r =
    elim (node_eq r.pid p) as (λ b.
    (cond b (record r { local = record r.local { traced = on } }) r).queue ≡ r.queue) [
      | true ↦ refl
      | false ↦ refl
    ]
reached_queue a token r = refl

-- a process's queue after an act: the actor's by its own part, then what reaches it
pub changed_queue : (a : Act) (done : Acted) (r : Process)
    → (changed a done r).queue
    ≡ queue_after a done.local.token r.pid (if pid_eq r.pid (actor a) then done.queue else r.queue)
changed_queue a done r =
    reached_queue a done.local.token
    (if pid_eq r.pid (actor a) then record r { local = done.local; queue = done.queue } else r)
    ∙ elim (pid_eq r.pid (actor a)) as (λ b.
    queue_after a done.local.token
    (cond b (record r { local = done.local; queue = done.queue }) r).pid
    (cond b (record r { local = done.local; queue = done.queue }) r).queue
    ≡ queue_after a done.local.token r.pid (cond b done.queue r.queue)) [
      | true ↦ refl
      | false ↦ refl
    ]

abbrev pub IsReceive : Act → Type 0
IsReceive (act.Receive p w) = Unit {0}
IsReceive a = ⊥

printed_queue : (r : Process) (v : ℕ) (stamped : Option LocalState) (done : Acted)
    → option_map (prints r v) stamped ≡ Some done → done.queue ≡ r.queue
printed_queue r v stamped done h =
    let parts = mapped (prints r v) stamped done h in
    ap (λ (x : Acted). x.queue) (sym parts.2)

some_queue : (x done : Acted) → Some x ≡ Some done → done.queue ≡ x.queue
some_queue x done h = ap (λ (y : Acted). y.queue) (sym (same_Some x done h))

-- the actor's part of any act but a receive leaves its queue as it was
pub acted_queue : (top : ℕ) (a : Act) (r : Process) (done : Acted) → ¬ IsReceive a
    → acted top r a ≡ Some done
    → done.queue ≡ r.queue
acted_queue top (act.Receive p w) r done other h = absurd (other tt)
acted_queue top (act.Send p q v) r done other h =
    let parts = mapped (sends r q v) (stamp_any top r.pid r.local) done h in
    ap (λ (x : Acted). x.queue) (sym parts.2)
acted_queue top (act.Print p v) r done other h =
    printed_queue r v (stamp_any top r.pid r.local) done h
acted_queue top (act.PrintAt p n v) r done other h =
    elim (has_label n r.local.token) as (λ b.
    cond b (option_map (prints r v) (stamp top r.pid r.local)) (Some (answers r r.local reply.Done))
    ≡ Some done
    → done.queue ≡ r.queue) [
      | true ↦ λ h. printed_queue r v (stamp top r.pid r.local) done h
      | false ↦ λ h. some_queue (answers r r.local reply.Done) done h
    ] h
acted_queue top a r done other h = some_queue _ done h

-- unless the act is a receive, the actor's part leaves each process's queue as it was
pub own_queue : (top : ℕ) (s : State) (a : Act) (o : Outcome) (t : Stepped top s a o) (p : Pid)
    (r : Process)
    → ¬ IsReceive a → process s p ≡ Some r
    → (if pid_eq r.pid (actor a) then t.done.queue else r.queue) ≡ r.queue
own_queue top s a o t p r other is_r =
    elim (pid_eq r.pid (actor a)) as (λ b. pid_eq r.pid (actor a) ≡ b
    → cond b t.done.queue r.queue ≡ r.queue) [
      | true ↦ λ e.
          acted_queue top a t.before t.done other t.is_done
          ∙ ap (λ (x : Process). x.queue) (actor_is s (actor a) p t.before r t.is_before is_r e)
      | false ↦ λ e. refl
    ] refl

-- A SEND

-- the token of a send's message is its sender's after the send
sender_token : (top : ℕ) (s : State) (p q : Pid) (v : ℕ) (o : Outcome)
    (t : Stepped top s (act.Send p q v) o) (os : List Outcome) (n : ℕ) → slice_get os n ≡ Some o
    → ForSome t.done.local.token (TokenAfter os n p)
sender_token top s p q v o t os n at token is =
    let a = act.Send p q v in
    let local = sent_local p q v t.done t.before (actor_mine top s a o t) in
    record {
      sender = changed a t.done t.before;
      is_sender = ap (option_and_then (λ (x : Outcome). process x.after p)) at
          ∙ actor_after top s a o t;
      stamped = ap (λ (l : LocalState). l.token) local ∙ is;
    }

tags_send : (top : ℕ) (acts : List Act) (os : List Outcome) (n : ℕ) (s : State) (tags : Tags)
    (p q : Pid) (v : ℕ)
    (o : Outcome) (t : Stepped top s (act.Send p q v) o) → slice_get acts n ≡ Some (act.Send p q v)
    → slice_get os n ≡ Some o → All (IsSound top) s → (x : Pid) (queue : List Message)
    → AllZip (IsTag acts os x) (tags x) queue
    → AllZip (IsTag acts os x) (if pid_eq x q then tags x ++ n ∷ [] else tags x)
    (queue_after (act.Send p q v) t.done.local.token x queue)
tags_send top acts os n s tags p q v o t at out sound x queue all =
    let m : Message = record { from = p; value = v; token = t.done.local.token } in
    let part =
    acted_sound top (act.Send p q v) t.before t.done (process_pid s p t.before t.is_before)
    (process_holds (IsSound top) s p t.before t.is_before sound) t.is_done in
    elim (pid_eq x q) as (λ b.
    pid_eq x q ≡ b
    → AllZip (IsTag acts os x) (cond b (tags x ++ n ∷ []) (tags x))
    (cond b (queue ++ m ∷ []) queue)) [
      | true ↦ λ e. AllZip_push (IsTag acts os x) (tags x) queue n m all (record {
        sent = at ∙ ap (λ y. Some (act.Send p y v)) (sym (pid_eq-true x q e));
        from = λ token is. (part.sent token is).from;
        token = sender_token top s p q v o t os n out;
      })
      | false ↦ λ e. all
    ] refl

-- A RESET

tag_untraced : (acts : List Act) (os : List Outcome) (p : Pid) (i : ℕ) (m : Message)
    → IsTag acts os p i m
    → IsTag acts os p i (untraced m)
tag_untraced acts os p i m is =
    record {
      sent = is.sent;
      from = λ t e. absurd (none-some t e);
      token =
          λ t e. absurd (none-some t e);
    }

tags_reset : (acts : List Act) (os : List Outcome) (tags : Tags) (p : Pid) (token : Option Token)
    (x : Pid) (queue : List Message) → AllZip (IsTag acts os x) (tags x) queue
    → AllZip (IsTag acts os x) (tags x) (queue_after (act.Reset p) token x queue)
tags_reset acts os tags p token x queue all =
    elim (node_eq x p) as (λ b.
    AllZip (IsTag acts os x) (tags x) (cond b (map untraced queue) queue)) [
      | true ↦ AllZip_map (IsTag acts os x) untraced (tag_untraced acts os x) (tags x) queue all
      | false ↦ all
    ]

-- A RECEIVE

-- the actor's part of a receive that took no message, and of one that took this message
pub receive_none : (top : ℕ) (r : Process) (p : Pid) (w : Want) (done : Acted)
    → pick w r.queue ≡ None
    → acted top r (act.Receive p w) ≡ Some done → answers r r.local reply.Nothing ≡ done
receive_none top r p w done is h = ap (receives r) (sym is) ∙ same_Some _ done h

pub receive_some : (top : ℕ) (r : Process) (p : Pid) (w : Want) (done : Acted) (found : ℕ × Message)
    → pick w r.queue ≡ Some found → acted top r (act.Receive p w) ≡ Some done
    → receives r (Some found) ≡ done
receive_some top r p w done found is h = ap (receives r) (sym is) ∙ same_Some _ done h

tags_receive : (top : ℕ) (acts : List Act) (os : List Outcome) (n : ℕ) (s : State) (tags : Tags)
    (p : Pid) (w : Want)
    (o : Outcome) (t : Stepped top s (act.Receive p w) o) → (x : Pid) (r : Process)
    → process s x ≡ Some r
    → AllZip (IsTag acts os x) (tags x) r.queue
    → AllZip (IsTag acts os x) (tags_after tags n (act.Receive p w) t.done.place x)
    (if pid_eq r.pid p then t.done.queue else r.queue)
tags_receive top acts os n s tags p w o t x r is_r all =
    let R = IsTag acts os x in
    let who = process_pid s x r is_r in
    let P =
    λ (done : Acted).
    AllZip R (tags_after tags n (act.Receive p w) done.place x)
    (if pid_eq r.pid p then done.queue else r.queue) in
    elim (pick w t.before.queue) as (λ found. pick w t.before.queue ≡ found → P t.done) [
      | None ↦ λ e. subst P (receive_none top t.before p w t.done e t.is_done)
          (elim (pid_eq r.pid p) as (λ b. pid_eq r.pid p ≡ b
          → AllZip R (tags x) (cond b t.before.queue r.queue)) [
            | true ↦ λ same.
                subst (λ (y : Process). AllZip R (tags x) y.queue)
                (sym (actor_is s p x t.before r t.is_before is_r same)) all
            | false ↦ λ same. all
          ] refl)
      | Some found ↦ λ e. subst P (receive_some top t.before p w t.done found e t.is_done)
          (subst (λ y.
          AllZip R (if pid_eq y p then remove (tags x) found.0 else tags x)
          (if pid_eq r.pid p then remove t.before.queue found.0 else r.queue)) who
          (elim (pid_eq r.pid p) as (λ b.
          pid_eq r.pid p ≡ b
          → AllZip R (cond b (remove (tags x) found.0) (tags x))
          (cond b (remove t.before.queue found.0) r.queue)) [
            | true ↦ λ same.
                subst (λ (y : Process). AllZip R (remove (tags x) found.0) (remove y.queue found.0))
                (sym (actor_is s p x t.before r t.is_before is_r same))
                (AllZip_remove R (tags x) r.queue found.0 all)
            | false ↦ λ same. all
          ] refl))
    ] refl

-- EACH ACT

-- after each act the tags of x's queue still name the sends of its messages
tags_of_queue : (top : ℕ) (acts : List Act) (os : List Outcome) (n : ℕ) (s : State) (tags : Tags)
    (a : Act)
    (o : Outcome) (t : Stepped top s a o) → slice_get acts n ≡ Some a → slice_get os n ≡ Some o
    → All (IsSound top) s
    → (x : Pid) (r : Process) → process s x ≡ Some r → AllZip (IsTag acts os x) (tags x) r.queue
    → AllZip (IsTag acts os x) (tags_after tags n a t.done.place x)
    (queue_after a t.done.local.token x (if pid_eq r.pid (actor a) then t.done.queue else r.queue))
tags_of_queue top acts os n s tags (act.Send p q v) o t at out sound x r is all =
    tags_send top acts os n s tags p q v o t at out sound x _
    (subst (AllZip (IsTag acts os x) (tags x))
    (sym (own_queue top s (act.Send p q v) o t x r (λ h. h) is)) all)
tags_of_queue top acts os n s tags (act.Receive p w) o t at out sound x r is all =
    tags_receive top acts os n s tags p w o t x r is all
tags_of_queue top acts os n s tags (act.Reset p) o t at out sound x r is all =
    tags_reset acts os tags p t.done.local.token x _
    (subst (AllZip (IsTag acts os x) (tags x))
    (sym (own_queue top s (act.Reset p) o t x r (λ h. h) is)) all)
tags_of_queue top acts os n s tags a o t at out sound x r is all =
    subst (AllZip (IsTag acts os x) (tags x))
    (sym (own_queue top s a o t x r (λ h. h) is)) all

pub tags_step : (top : ℕ) (acts : List Act) (os : List Outcome) (n : ℕ) (s : State) (tags : Tags)
    (a : Act)
    (o : Outcome) → slice_get acts n ≡ Some a → slice_get os n ≡ Some o → step top s a ≡ Some o
    → All (IsSound top) s
    → AreTags acts os s tags → AreTags acts os o.after (tags_after tags n a o.place)
tags_step top acts os n s tags a o at out h sound are =
    let t = step_parts top s a o h in
    let place : t.done.place ≡ o.place = ap (λ (x : Outcome). x.place) t.is_outcome in
    record {
      queues = λ x r is.
          let parts = mapped (changed a t.done) (process s x) r
          (sym (process_after top s a o t x) ∙ is) in
          let old = parts.0 in
          let who = process_pid s x old parts.1 in
          let queue : queue_after a t.done.local.token x
          (if pid_eq old.pid (actor a) then t.done.queue else old.queue)
          ≡ r.queue =
          ap (λ y. queue_after a t.done.local.token y
          (if pid_eq old.pid (actor a) then t.done.queue else old.queue))
          (sym who)
          ∙ sym (changed_queue a t.done old)
          ∙ ap (λ (y : Process). y.queue) parts.2 in
          subst (λ k. AllZip (IsTag acts os x) (tags_after tags n a k x) r.queue) place
          (subst (AllZip (IsTag acts os x) (tags_after tags n a t.done.place x)) queue
          (tags_of_queue top acts os n s tags a o t at out sound x old parts.1
          (are.queues x old parts.1)));
    }

-- AT THE START

pub zero_queue : (pids : List Pid) (p : Pid) (r : Process) → process (zero_state pids) p ≡ Some r
    → r.queue ≡ []
zero_queue pids p r is =
    process_holds (λ x. x.queue ≡ []) (zero_state pids) p r is
    (All-map (λ (x : Process). x.queue ≡ [])
    (λ q. record { pid = q; local = zero_local; queue = [] }) pids
    (λ k d within. refl))

pub no_tags_are : (acts : List Act) (os : List Outcome) (pids : List Pid)
    → AreTags acts os (zero_state pids) no_tags
no_tags_are acts os pids =
    record {
      queues = λ p r is. subst (AllZip (IsTag acts os p) []) (sym (zero_queue pids p r is))
          tt;
    }
