-- Without a reset no stamp occurs twice in a queue, since a send's new stamp is above its actor's
-- clock, and no earlier stamp of the actor's is. A receive takes a message out, and no other act
-- touches a queue; and clocks don't fall.
use Rattle.std.proofs.Common.{◌≡◌, ℕ, zero, suc, true, false, cond, List, [], ◌∷◌, ◌++◌}
use Rattle.std.proofs.Common.{Option, Some, None, All, refl, sym, ◌∙◌, ap, subst, arith}
use Rattle.std.specs.List.{AllByRecursion, remove}
use Rattle.std.proofs.lemmas.Bool.{false≢true}
use Rattle.std.proofs.lemmas.List.Elements.{All-nil, All-cons}
use Rattle.std.proofs.lemmas.Option.{same_Some}
use Rattle.st_core.specs.declared.types.Pid.{Pid}
use Rattle.st_core.specs.declared.types.Token.{Token}
use Rattle.st_core.specs.declared.types.Message.{Message}
use Rattle.st_core.specs.declared.types.Want.{Want}
use Rattle.st_core.specs.declared.types.Act.{Act}
use Rattle.st_core.specs.declared.types.Act.TheVariants as act
use Rattle.st_core.specs.Pid.{pid_eq}
use Rattle.st_core.specs.State.{LocalState, Process, State, process, zero_state}
use Rattle.st_core.specs.Pick.{pick}
use Rattle.st_core.specs.Step.{Acted, Outcome, acted, actor, changed, receives, step}
use Rattle.st_core.specs.Run.{run, run_from}
use Rattle.st_core.specs.Laws.{AreApart, clock_in, HasStampsOnce, is_reset, IsStampedBefore}
use Rattle.st_core.specs.Laws.{NoReset, StampsStandOnce}
use Rattle.st_core.proofs.Others.{actor_after, actor_is, actor_mine, mapped, process_after}
use Rattle.st_core.proofs.Others.{run_parts, sent_local, step_parts, Stepped}
use Rattle.st_core.proofs.Clocks.{sent, Sends, step_clock}
use Rattle.st_core.proofs.Queues.{changed_queue, IsReceive, own_queue, queue_after, zero_queue}

-- LISTS

pub all_push : {X : Type 0} (P : X → Type 0) (xs : List X) (y : X) → AllByRecursion P xs → P y
    → AllByRecursion P (xs ++ y ∷ [])
all_push P [] y all new = (new, tt)
all_push P (x ∷ xs) y all new = (all.0, all_push P xs y all.1 new)

pub all_remove : {X : Type 0} (P : X → Type 0) (xs : List X) (k : ℕ) → AllByRecursion P xs
    → AllByRecursion P (remove xs k)
all_remove P [] zero all = tt
all_remove P [] (suc k) all = tt
all_remove P (x ∷ xs) zero all = all.1
all_remove P (x ∷ xs) (suc k) all = (all.0, all_remove P xs k all.1)

pub all_weaker : {X : Type 0} (P Q : X → Type 0) → ((x : X) → P x → Q x) → (xs : List X)
    → AllByRecursion P xs
    → AllByRecursion Q xs
all_weaker P Q to [] all = tt
all_weaker P Q to (x ∷ xs) all = (to x all.0, all_weaker P Q to xs all.1)

once_push : (ms : List Message) (n : Message) → StampsStandOnce ms
    → AllByRecursion (λ m. AreApart m n) ms
    → StampsStandOnce (ms ++ n ∷ [])
once_push [] n once apart = (tt, tt)
once_push (m ∷ ms) n once apart =
    (all_push (AreApart m) ms n once.0 apart.0, once_push ms n once.1 apart.1)

once_remove : (ms : List Message) (k : ℕ) → StampsStandOnce ms → StampsStandOnce (remove ms k)
once_remove [] zero once = tt
once_remove [] (suc k) once = tt
once_remove (m ∷ ms) zero once = once.1
once_remove (m ∷ ms) (suc k) once = (all_remove (AreApart m) ms k once.0, once_remove ms k once.1)

-- A STEP

-- the queue has no stamp twice, and none above the clock of the process that stamped it
record IsQueueOnce (s : State) (queue : List Message) : Type 0 where
  once : StampsStandOnce queue
  before : AllByRecursion (IsStampedBefore s) queue

module _ (top : ℕ) (s : State) (a : Act) (o : Outcome) (h : step top s a ≡ Some o)
    (plain : is_reset a ≡ false) where
  later : (queue : List Message) → AllByRecursion (IsStampedBefore s) queue
      → AllByRecursion (IsStampedBefore o.after) queue
  later queue all = all_weaker (IsStampedBefore s) (IsStampedBefore o.after)
      (λ m low t is.
      let stamp = low t is in
      let clock = step_clock top s a o t.from h plain in
      omega arith) queue all

  kept : (queue : List Message) → IsQueueOnce s queue → IsQueueOnce o.after queue
  kept queue is = record { once = is.once; before = later queue is.before }

  without : (queue : List Message) (k : ℕ) → IsQueueOnce s queue
      → IsQueueOnce o.after (remove queue k)
  without queue k is = record {
    once = once_remove queue k is.once;
    before = all_remove (IsStampedBefore o.after) queue k (later queue is.before);
  }

module _ (top : ℕ) (s : State) (p q : Pid) (v : ℕ) (o : Outcome)
    (h : step top s (act.Send p q v) ≡ Some o)
    (t : Stepped top s (act.Send p q v) o) where
  pub lifted : (token : Token) → t.done.local.token ≡ Some token → Sends s p q v o token
  lifted token is =
      sent top s p q v o (changed (act.Send p q v) t.done t.before) token h
      (actor_after top s (act.Send p q v) o t)
      (ap (λ (l : LocalState). l.token)
      (sent_local p q v t.done t.before (actor_mine top s (act.Send p q v) o t)) ∙ is)

  abbrev message : Message
  message = record { from = p; value = v; token = t.done.local.token }

  pushed : (queue : List Message) → IsQueueOnce s queue
      → IsQueueOnce o.after (queue ++ message ∷ [])
  pushed queue is = record {
    once = once_push queue message is.once
        (all_weaker (IsStampedBefore s) (λ m. AreApart m message)
        (λ m low x u at new from same.
        let lifts = lifted u new in
        let old = low x at in
        let high = lifts.lifts.above in
        let clock : clock_in s x.from ≡ clock_in s p = ap (clock_in s) (from ∙ lifts.from) in
        omega (arith, same)) queue is.before);
    before = all_push (IsStampedBefore o.after) queue message
        (kept top s (act.Send p q v) o h refl queue is).before
        (λ u new.
        let lifts = lifted u new in
        let clock : clock_in o.after u.from ≡ clock_in o.after p =
        ap (clock_in o.after) lifts.from in
        let reach = lifts.lifts.reaches in
        omega arith);
  }

  sent_once : (x : Pid) (queue : List Message) → IsQueueOnce s queue
      → IsQueueOnce o.after (queue_after (act.Send p q v) t.done.local.token x queue)
  sent_once x queue is = elim (pid_eq x q) as (λ b.
      IsQueueOnce o.after (cond b (queue ++ message ∷ []) queue)) [
        | true ↦ pushed queue is
        | false ↦ kept top s (act.Send p q v) o h refl queue is
      ]

received_once : (top : ℕ) (s : State) (p : Pid) (o : Outcome) (a : Act) (h : step top s a ≡ Some o)
    (plain : is_reset a ≡ false) (r : Process) (found : Option (ℕ × Message))
    → IsQueueOnce s r.queue
    → IsQueueOnce o.after (receives r found).queue
received_once top s p o a h plain r None is = kept top s a o h plain r.queue is
received_once top s p o a h plain r (Some found) is = without top s a o h plain r.queue found.0 is

-- the queue of a process after an act that is no send
module _ (top : ℕ) (s : State) (a : Act) (o : Outcome) (h : step top s a ≡ Some o)
    (plain : is_reset a ≡ false)
    (t : Stepped top s a o) (p : Pid) (r : Process) (is_r : process s p ≡ Some r) where
  abbrev own : List Message
  own = cond (pid_eq r.pid (actor a)) t.done.queue r.queue

  quiet : ¬ IsReceive a → IsQueueOnce s r.queue → IsQueueOnce o.after own
  quiet other is =
      subst (IsQueueOnce o.after) (sym (own_queue top s a o t p r other is_r))
      (kept top s a o h plain r.queue is)

  taking : (w : Want) → a ≡ act.Receive (actor a) w → IsQueueOnce s r.queue
      → IsQueueOnce o.after own
  taking w is_a is =
      elim (pid_eq r.pid (actor a)) as (λ b. pid_eq r.pid (actor a) ≡ b
      → IsQueueOnce o.after (cond b t.done.queue r.queue)) [
        | false ↦ λ _. kept top s a o h plain r.queue is
        | true ↦ λ mine.
            let who = actor_is s (actor a) p t.before r t.is_before is_r mine in
            let part : receives r (pick w r.queue) ≡ t.done =
            same_Some _ t.done (ap (λ x. acted top r x) (sym is_a)
            ∙ ap (λ (x : Process). acted top x a) (sym who) ∙ t.is_done) in
            subst (λ (d : Acted). IsQueueOnce o.after d.queue) part
            (received_once top s p o a h plain r (pick w r.queue) is)
      ] refl

-- after a step no queue has a stamp twice, or one above the clock of the process that stamped it
queue_once : (top : ℕ) (s : State) (a : Act) (o : Outcome) (h : step top s a ≡ Some o)
    (plain : is_reset a ≡ false)
    (t : Stepped top s a o) (p : Pid) (r : Process) (is_r : process s p ≡ Some r)
    → IsQueueOnce s r.queue
    → IsQueueOnce o.after (queue_after a t.done.local.token r.pid
    (cond (pid_eq r.pid (actor a)) t.done.queue r.queue))
queue_once top s (act.Reset x) o h plain t p r is_r is = absurd (false≢true (sym plain))
queue_once top s (act.Send x q v) o h plain t p r is_r is =
    subst (λ ms. IsQueueOnce o.after (queue_after (act.Send x q v) t.done.local.token r.pid ms))
    (sym (own_queue top s (act.Send x q v) o t p r (λ no. no) is_r))
    (sent_once top s x q v o h t r.pid r.queue is)
queue_once top s (act.Receive x w) o h plain t p r is_r is =
    taking top s (act.Receive x w) o h plain t p r is_r w refl is
queue_once top s a o h plain t p r is_r is =
    quiet top s a o h plain t p r is_r (λ no. no) is

-- STATES AND RUNS

module _ (top : ℕ) (s : State) (a : Act) (o : Outcome) (h : step top s a ≡ Some o)
    (plain : is_reset a ≡ false)
    (is : HasStampsOnce s) where
  after_step : (p : Pid) (x : Process) → process o.after p ≡ Some x → IsQueueOnce o.after x.queue
  after_step p x is_x =
      let t = step_parts top s a o h in
      let from = mapped (changed a t.done) (process s p) x
      (sym (process_after top s a o t p) ∙ is_x) in
      let r = from.0 in
      let queue = ap (λ (y : Process). y.queue) (sym from.2) ∙ changed_queue a t.done r in
      subst (IsQueueOnce o.after) (sym queue)
      (queue_once top s a o h plain t p r from.1
      (record { once = is.once p r from.1; before = is.before p r from.1 }))

  pub step_once : HasStampsOnce o.after
  step_once = record {
    once = λ p x is_x. (after_step p x is_x).once;
    before = λ p x is_x. (after_step p x is_x).before;
  }

pub zero_once : (pids : List Pid) → HasStampsOnce (zero_state pids)
zero_once pids = record {
  once = λ p r is. subst StampsStandOnce (sym (zero_queue pids p r is)) tt;
  before = λ p r is. subst (AllByRecursion (IsStampedBefore (zero_state pids)))
      (sym (zero_queue pids p r is)) tt;
}

once_from : (top : ℕ) (s : State) (acts : List Act) (os : List Outcome)
    → run_from top s acts ≡ Some os
    → NoReset acts → HasStampsOnce s → All (λ (o : Outcome). HasStampsOnce o.after) os
once_from top s [] os h none is =
    subst (All (λ (o : Outcome). HasStampsOnce o.after)) (same_Some [] os h) (All-nil _)
once_from top s (a ∷ acts) os h none is =
    let t = run_parts top s a acts os h in
    let next = step_once top s a t.first t.is_first none.0 is in
    subst (All (λ (o : Outcome). HasStampsOnce o.after)) (sym t.is_whole)
    (All-cons (λ (o : Outcome). HasStampsOnce o.after) t.first t.others next
    (once_from top t.first.after acts t.others t.is_rest none.1 next))

pub run_once : (top : ℕ) (pids : List Pid) (acts : List Act) (os : List Outcome)
    → run top pids acts ≡ Some os
    → NoReset acts → All (λ (o : Outcome). HasStampsOnce o.after) os
run_once top pids acts os h none = once_from top (zero_state pids) acts os h none (zero_once pids)
