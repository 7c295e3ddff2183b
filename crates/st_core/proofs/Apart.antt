-- Without a reset no two queues hold the same stamp: a step puts at most one message into one
-- queue, with a stamp above its actor's clock, and no waiting stamp of the actor's is above it.
-- Any other step only takes messages out.
use Rattle.std.proofs.Common.{◌≡◌, ◌≢◌, ℕ, ◌<◌, true, false, cond, List, [], ◌∷◌, ◌++◌}
use Rattle.std.proofs.Common.{Option, Some, None, All, refl, sym, ◌∙◌, ap, subst, arith}
use Rattle.std.specs.List.{AllByRecursion}
use Rattle.std.proofs.lemmas.Bool.{false≢true}
use Rattle.std.proofs.lemmas.List.Elements.{All-nil, All-cons}
use Rattle.std.proofs.lemmas.Option.{same_Some}
use Rattle.st_core.specs.declared.types.Pid.{Pid}
use Rattle.st_core.specs.declared.types.Token.{Token}
use Rattle.st_core.specs.declared.types.Message.{Message}
use Rattle.st_core.specs.declared.types.Want.{Want}
use Rattle.st_core.specs.declared.types.Act.{Act}
use Rattle.st_core.specs.declared.types.Act.TheVariants as act
use Rattle.st_core.specs.Pid.{pid_eq}
use Rattle.st_core.specs.State.{Process, State, process, zero_state}
use Rattle.st_core.specs.Pick.{pick}
use Rattle.st_core.specs.Step.{Acted, Outcome, acted, actor, changed, receiver, receives, step}
use Rattle.st_core.specs.Run.{run, run_from}
use Rattle.st_core.specs.Laws.{AreAllApart, AreApart, clock_in, HasQueuesApart, HasStampsOnce}
use Rattle.st_core.specs.Laws.{is_reset, IsStampedBefore, NoReset}
use Rattle.st_core.proofs.Others.{actor_is, mapped, process_after, process_pid, run_parts}
use Rattle.st_core.proofs.Others.{step_parts, Stepped}
use Rattle.st_core.proofs.Pids.{pid_eq-true}
use Rattle.st_core.proofs.Queues.{changed_queue, IsReceive, own_queue, queue_after, zero_queue}
use Rattle.st_core.proofs.Once.{all_push, all_remove, all_weaker, lifted, step_once, zero_once}

-- the act puts the message into p's queue, with a stamp above the clock of the process that
-- stamped it
record IsNew (s : State) (a : Act) (p : Pid) (n : Message) : Type 0 where
  to : receiver a ≡ p
  above : (t : Token) → n.token ≡ Some t → clock_in s t.from < t.serial.this

all_with : {X : Type 0} (P Q R : X → Type 0) → ((x : X) → P x → Q x → R x) → (xs : List X)
    → AllByRecursion P xs
    → AllByRecursion Q xs → AllByRecursion R xs
all_with P Q R to [] ps qs = tt
all_with P Q R to (x ∷ xs) ps qs = (to x ps.0 qs.0, all_with P Q R to xs ps.1 qs.1)

-- WHAT A STEP LEAVES OF A QUEUE

all_received : (P : Message → Type 0) (r : Process) (found : Option (ℕ × Message))
    → AllByRecursion P r.queue
    → AllByRecursion P (receives r found).queue
all_received P r None all = all
all_received P r (Some found) all = all_remove P r.queue found.0 all

-- a fact holds of all messages of a queue after a step if it holds of those before the step and of
-- the message that the step adds
module _ (top : ℕ) (s : State) (P : Message → Type 0) (p : Pid) (r : Process)
    (is_r : process s p ≡ Some r)
    (all : AllByRecursion P r.queue) where
  module _ (a : Act) (o : Outcome) (t : Stepped top s a o) where
    abbrev own : List Message
    own = cond (pid_eq r.pid (actor a)) t.done.queue r.queue

    quiet : ¬ IsReceive a → AllByRecursion P own
    quiet other = subst (AllByRecursion P) (sym (own_queue top s a o t p r other is_r)) all

    taking : (w : Want) → a ≡ act.Receive (actor a) w → AllByRecursion P own
    taking w is_a =
        elim (pid_eq r.pid (actor a)) as (λ b. pid_eq r.pid (actor a) ≡ b
        → AllByRecursion P (cond b t.done.queue r.queue)) [
          | false ↦ λ _. all
          | true ↦ λ mine.
              let who = actor_is s (actor a) p t.before r t.is_before is_r mine in
              let part : receives r (pick w r.queue) ≡ t.done =
              same_Some _ t.done (ap (λ x. acted top r x) (sym is_a)
              ∙ ap (λ (x : Process). acted top x a) (sym who)
              ∙ t.is_done) in
              subst (λ (d : Acted). AllByRecursion P d.queue) part
              (all_received P r (pick w r.queue) all)
        ] refl

  module _ (q q' : Pid) (v : ℕ) (o : Outcome) (h : step top s (act.Send q q' v) ≡ Some o)
      (t : Stepped top s (act.Send q q' v) o) where
    abbrev message : Message
    message = record { from = q; value = v; token = t.done.local.token }

    is_new : q' ≡ p → IsNew s (act.Send q q' v) p message
    is_new to = record {
      to = to;
      above = λ u is.
          let lifts = lifted top s q q' v o h t u is in
          let clock : clock_in s u.from ≡ clock_in s q = ap (clock_in s) lifts.from in
          let high = lifts.lifts.above in
          omega arith;
    }

    sending : ((n : Message) → IsNew s (act.Send q q' v) p n → P n)
        → AllByRecursion P (queue_after (act.Send q q' v) t.done.local.token r.pid r.queue)
    sending new =
        elim (pid_eq r.pid q') as (λ b. pid_eq r.pid q' ≡ b
        → AllByRecursion P (cond b (r.queue ++ message ∷ []) r.queue)) [
          | false ↦ λ _. all
          | true ↦ λ same.
              let to = sym (pid_eq-true r.pid q' same) ∙ process_pid s p r is_r in
              all_push P r.queue message all (new message (is_new to))
        ] refl

  left : (a : Act) (o : Outcome) (h : step top s a ≡ Some o) → is_reset a ≡ false
      → (t : Stepped top s a o)
      → ((n : Message) → IsNew s a p n → P n)
      → AllByRecursion P (queue_after a t.done.local.token r.pid
      (cond (pid_eq r.pid (actor a)) t.done.queue r.queue))
  left (act.Reset x) o h plain t new = absurd (false≢true (sym plain))
  left (act.Send x q v) o h plain t new =
      subst (λ ms. AllByRecursion P (queue_after (act.Send x q v) t.done.local.token r.pid ms))
      (sym (own_queue top s (act.Send x q v) o t p r (λ no. no) is_r)) (sending x q v o h t new)
  left (act.Receive x w) o h plain t new = taking (act.Receive x w) o t w refl
  left a o h plain t new = quiet a o t (λ no. no)

module _ (top : ℕ) (s : State) (a : Act) (o : Outcome) (h : step top s a ≡ Some o)
    (plain : is_reset a ≡ false) where
  -- process p before the step, after which it is x
  record WasBefore (p : Pid) (x : Process) : Type 1 where
    old : Process
    is_old : process s p ≡ Some old
    left_all : (P : Message → Type 0) → AllByRecursion P old.queue
        → ((n : Message) → IsNew s a p n → P n)
        → AllByRecursion P x.queue

  was_before : (p : Pid) (x : Process) → process o.after p ≡ Some x → WasBefore p x
  was_before p x is_x =
      let t = step_parts top s a o h in
      let from = mapped (changed a t.done) (process s p) x
      (sym (process_after top s a o t p) ∙ is_x) in
      let queue = ap (λ (y : Process). y.queue) (sym from.2) ∙ changed_queue a t.done from.0 in
      record {
        old = from.0;
        is_old = from.1;
        left_all = λ P all new. subst (AllByRecursion P) (sym queue)
            (left top s P p from.0 from.1 all a o h plain t new);
      }

  -- a waiting message and a new one have different stamps
  old_new : (p : Pid) (m n : Message) → IsStampedBefore s m → IsNew s a p n → AreApart m n
  old_new p m n low new t u has_t has_u from same =
      let old = low t has_t in
      let high = new.above u has_u in
      let clock : clock_in s t.from ≡ clock_in s u.from = ap (clock_in s) from in
      omega (arith, same)

  new_old : (p : Pid) (m n : Message) → IsStampedBefore s m → IsNew s a p n → AreApart n m
  new_old p m n low new t u has_t has_u from same =
      old_new p m n low new u t has_u has_t (sym from) (sym same)

  module _ (once : HasStampsOnce s) (apart : HasQueuesApart s) (p q : Pid) (x y : Process)
      (others : p ≢ q)
      (is_x : process o.after p ≡ Some x) (is_y : process o.after q ≡ Some y) where
    abbrev mine : WasBefore p x
    mine = was_before p x is_x

    abbrev other : WasBefore q y
    other = was_before q y is_y

    -- a message of p's old queue is apart from all messages of q's new queue
    from_old : (m : Message) → IsStampedBefore s m → AllByRecursion (AreApart m) other.old.queue
        → AllByRecursion (AreApart m) y.queue
    from_old m low all = other.left_all (AreApart m) all (λ n new. old_new q m n low new)

    -- p's new message is apart from all messages of q's queue, which then gets none
    from_new : (n : Message) → IsNew s a p n → AllByRecursion (AreApart n) y.queue
    from_new n new =
        other.left_all (AreApart n)
        (all_weaker (IsStampedBefore s) (AreApart n) (λ m low. new_old p m n low new)
        other.old.queue
        (once.before q other.old other.is_old))
        (λ m too. absurd (others (sym new.to ∙ too.to)))

    step_apart : AreAllApart x.queue y.queue
    step_apart =
        mine.left_all (λ m. AllByRecursion (AreApart m) y.queue)
        (all_with (IsStampedBefore s) (λ m. AllByRecursion (AreApart m) other.old.queue)
        (λ m. AllByRecursion (AreApart m) y.queue) from_old mine.old.queue
        (once.before p mine.old mine.is_old)
        (apart p q mine.old other.old others mine.is_old other.is_old))
        from_new

-- RUNS

zero_apart : (pids : List Pid) → HasQueuesApart (zero_state pids)
zero_apart pids p q x y others is_x is_y =
    subst (λ ms. AreAllApart ms y.queue) (sym (zero_queue pids p x is_x)) tt

apart_from : (top : ℕ) (s : State) (acts : List Act) (os : List Outcome)
    → run_from top s acts ≡ Some os
    → NoReset acts → HasStampsOnce s → HasQueuesApart s
    → All (λ (o : Outcome). HasQueuesApart o.after) os
apart_from top s [] os h none once apart =
    subst (All (λ (o : Outcome). HasQueuesApart o.after)) (same_Some [] os h) (All-nil _)
apart_from top s (a ∷ acts) os h none once apart =
    let t = run_parts top s a acts os h in
    let next : HasQueuesApart t.first.after =
    λ p q x y others is_x is_y. step_apart top s a t.first t.is_first none.0 once apart p q x y
    others is_x is_y in
    subst (All (λ (o : Outcome). HasQueuesApart o.after)) (sym t.is_whole)
    (All-cons (λ (o : Outcome). HasQueuesApart o.after) t.first t.others next
    (apart_from top t.first.after acts t.others t.is_rest none.1
    (step_once top s a t.first t.is_first none.0 once) next))

pub run_apart : (top : ℕ) (pids : List Pid) (acts : List Act) (os : List Outcome)
    → run top pids acts ≡ Some os
    → NoReset acts → All (λ (o : Outcome). HasQueuesApart o.after) os
run_apart top pids acts os h none =
    apart_from top (zero_state pids) acts os h none (zero_once pids) (zero_apart pids)
