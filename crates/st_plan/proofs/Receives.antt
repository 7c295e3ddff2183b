-- A receive keeps the invariant: it takes the message that waits for it, which leaves the queue
-- and has what the event reports.
use Rattle.std.proofs.Common.{Option, ◌≡◌, ℕ, zero, suc, ◌+◌, max, true, false, cond, List, [], ◌∷◌}
use Rattle.std.proofs.Common.{Some, None, option_map, refl, sym, ◌∙◌, ap, subst, arith}
use Rattle.std.specs.List.{remove, position, slice_get}
use Rattle.std.proofs.lemmas.Bool.{eq-eqb, ne_eqb}
use Rattle.std.proofs.lemmas.Option.{same_Some, none-some}
use Rattle.st_core.specs.declared.types.Pid.{Pid}
use Rattle.st_core.specs.declared.types.Token.{Token}
use Rattle.st_core.specs.declared.types.Message.{Message}
use Rattle.st_core.specs.declared.types.Kind.TheVariants as kind
use Rattle.st_core.specs.declared.types.Event.{Event}
use Rattle.st_core.specs.declared.types.Act.{Act}
use Rattle.st_core.specs.declared.types.Act.TheVariants as act
use Rattle.st_core.specs.Pid.{pid_eq}
use Rattle.st_core.specs.State.{Process, State, process}
use Rattle.st_core.specs.declared.types.Want.TheVariants as want
use Rattle.st_core.specs.Local.{received}
use Rattle.st_core.specs.Pick.{pick, pick_from}
use Rattle.st_core.specs.Report.{report, token_event}
use Rattle.st_core.specs.Step.{acted, receives, changed, outcome_of, step}
use Rattle.st_core.specs.Run.{Stream}
use Rattle.st_core.specs.Streams.{lists}
use Rattle.st_core.proofs.ForCallers.{pid_eq-refl, pid_eq-swap, process_pid, run_from-one}
use Rattle.st_core.proofs.ForCallers.{step_done}
use Rattle.st_mail.specs.Mail.{bears_stamp}
use Rattle.st_plan.specs.Marks.{Marks}
use Rattle.st_plan.specs.Moves.{Move, is_taking, clock, last, move_by}
use Rattle.st_plan.specs.Build.{act_of}
use Rattle.st_plan.proofs.OwnActs.{changed_own}
use Rattle.st_plan.proofs.KeptState.{queue_of, IsSo, IsKept, is_told, told_event, Continues, found}
use Rattle.st_plan.proofs.KeptState.{step_keeps, other_clock, other_last, taken_queue, told_last}

pick_place : (n k : ℕ) (queue : List Message) (x : Message) → slice_get queue k ≡ Some x
    → pick_from n (want.Place (n + k)) queue ≡ Some (n + k, x)
pick_place n k [] x at = absurd (none-some x at)
pick_place n zero (y ∷ queue) x at =
    let here : n + 0 ≡ n = omega arith in
    rw (here, eq-eqb n n refl, same_Some y x at) refl
pick_place n (suc k) (y ∷ queue) x at =
    let sum : n + 1 + k ≡ n + suc k = omega arith in
    rw (ne_eqb n (n + suc k) (λ h. omega arith), ← sum) (pick_place (n + 1) k queue x at)

-- a receive from a place takes the message there
pub pick_at : (k : ℕ) (queue : List Message) (x : Message) → slice_get queue k ≡ Some x
    → pick (want.Place k) queue ≡ Some (k, x)
pick_at k queue x at =
    let same : 0 + k ≡ k = omega arith in
    ap (λ j. pick_from 0 (want.Place j) queue) (sym same) ∙ pick_place 0 k queue x at
    ∙ ap (λ j. Some (j, x)) same

-- the event of p's receive of a message with this value and token
abbrev pub got_of : Pid → ℕ → Token → Event
got_of p v t = token_event kind.Receive t (Some p) v

-- the message that a receive takes is in its queue, gives its event, and is seen where that is told
pub record IsWaiting (streams : List Stream) (marks : Marks) (earlier : List Move)
    (m : Move) : Type 0 where
  pub place : ℕ
  pub message : Message
  pub token : Token
  pub is : position (λ x. bears_stamp m.event.from m.event.serial.this x.token)
      (queue_of streams marks m.who earlier) ≡ Some place
  pub at : slice_get (queue_of streams marks m.who earlier) place ≡ Some message
  pub has : message.token ≡ Some token
  pub seen : token.flags.receive ≡ is_told marks m
  pub gives : got_of m.who message.value token ≡ m.event

-- the act of a receive's move
abbrev taken_by : Process → Move → Option Act
taken_by r m = option_map (λ k. act.Receive m.who (want.Place k))
    (position (λ x. bears_stamp m.event.from m.event.serial.this x.token) r.queue)

-- the receive takes the message at its place
taken_message : (top : ℕ) (streams : List Stream) (marks : Marks) (earlier : List Move)
    (r : Process) (m : Move)
    → IsSo streams marks earlier m.who r → (w : IsWaiting streams marks earlier m)
    → acted top r (act.Receive m.who (want.Place w.place))
    ≡ Some (receives r (Some (w.place, w.message)))
taken_message top streams marks earlier r m so w =
    let picked : pick (want.Place w.place) r.queue ≡ Some (w.place, w.message) =
    pick_at w.place r.queue w.message (ap (λ q. slice_get q w.place) so.queued ∙ w.at) in
    ap (λ f. Some (receives r f)) picked

-- the process reports the move's event, if it is told
taken_event : (streams : List Stream) (marks : Marks) (earlier : List Move) (r : Process) (m : Move)
    → IsSo streams marks earlier m.who r → r.pid ≡ m.who → (w : IsWaiting streams marks earlier m)
    → report r.local.traced kind.Receive w.message.token (Some r.pid) w.message.value
    ≡ told_event marks m
taken_event streams marks earlier r m so who w =
    rw (w.has, so.traced, who, w.seen)
    (ap (λ (e : Event). let o : Option Event = cond (is_told marks m) (Some e) None in o) w.gives)

-- a process that received a token, and has no message at this place any more
abbrev after_taking : Process → ℕ → Option Token → Process
after_taking r k token = record r { local = received r.local token; queue = remove r.queue k }

-- the process that took the message is as the moves say with this one
so_taken : (streams : List Stream) (marks : Marks) (earlier : List Move) (r : Process) (m : Move)
    → IsSo streams marks earlier m.who r → is_taking m ≡ true
    → (w : IsWaiting streams marks earlier m)
    → IsSo streams marks (m ∷ earlier) m.who (after_taking r w.place w.message.token)
so_taken streams marks earlier r m so takes w =
    let k = w.place in
    let count = m.event.serial.this in
    let before = clock m.who earlier in
    let waiting = queue_of streams marks m.who earlier in
    let this : w.token.serial.this ≡ count = ap (λ (e : Event). e.serial.this) w.gives in
    let own = pid_eq-refl m.who in
    let own_clock : clock m.who (m ∷ earlier) ≡ max before count = rw own refl in
    let own_last : last m.who (m ∷ earlier) ≡ count = rw (own, takes) refl in
    let own_queue : queue_of streams marks m.who (m ∷ earlier) ≡ remove waiting k =
    taken_queue streams marks m earlier m.who true takes own
    ∙ ap (λ p. elim p [ None ↦ waiting | Some j ↦ remove waiting j ]) w.is in
    subst (λ t. IsSo streams marks (m ∷ earlier) m.who (after_taking r k t)) (sym w.has)
    (record {
      clocked = ap (λ c. max c w.token.serial.this) so.clocked ∙ ap (max before) this
          ∙ sym own_clock;
      lasted = this ∙ sym own_last;
      traced = so.traced;
      queued = ap (λ q. remove q k) so.queued ∙ sym own_queue;
    })

-- each other process is as the moves say without the receive
so_beside : (streams : List Stream) (marks : Marks) (earlier : List Move) (m : Move) (x : Pid)
    (z : Process) → is_taking m ≡ true → pid_eq x m.who ≡ false → IsSo streams marks earlier x z
    → IsSo streams marks (m ∷ earlier) x z
so_beside streams marks earlier m x z takes apart so = record {
  clocked = so.clocked ∙ sym (other_clock m earlier x apart);
  lasted = so.lasted ∙ sym (other_last m earlier x apart);
  traced = so.traced;
  queued = so.queued ∙ sym (taken_queue streams marks m earlier x false takes
      (pid_eq-swap m.who x ∙ apart));
}

pub taking : (top : ℕ) (streams : List Stream) (marks : Marks) (earlier : List Move) (s : State)
    (m : Move) → IsKept streams marks earlier s → lists streams m.who ≡ true → is_taking m ≡ true
    → ((r : Process) → act_of r m ≡ taken_by r m) → move_by m.item m.event ≡ m
    → IsWaiting streams marks earlier m → Continues top streams marks earlier s m
taking top streams marks earlier s m kept listed takes is_act is w =
    let at = found (process s m.who) (kept.there m.who listed) in
    let r = at.0 in
    let so = kept.each m.who r at.1 in
    let who : r.pid ≡ m.who = process_pid s m.who r at.1 in
    let a = act.Receive m.who (want.Place w.place) in
    let test = λ (x : Message). bears_stamp m.event.from m.event.serial.this x.token in
    let done = receives r (Some (w.place, w.message)) in
    let o = outcome_of s a done in
    let stepped : step top s a ≡ Some o =
    step_done top s a r r done at.1 at.1 (taken_message top streams marks earlier r m so w) in
    let report_is : o.report ≡ told_event marks m =
    taken_event streams marks earlier r m so who w in
    let own : IsSo streams marks (m ∷ earlier) m.who (changed a done r) =
    subst (IsSo streams marks (m ∷ earlier) m.who) (sym (changed_own a done r who))
    (so_taken streams marks earlier r m so takes w) in (
      record {
        before = r;
        is_before = at.1;
        acts = a ∷ [];
        are = rw (is_act r, takes) (ap (λ q. option_map (λ b. b ∷ [])
            (option_map (λ k. act.Receive m.who (want.Place k)) (position test q))) so.queued
            ∙ ap (λ p. option_map (λ b. b ∷ []) (option_map (λ k. act.Receive m.who
            (want.Place k)) p)) w.is);
        outcomes = o ∷ [];
        runs = run_from-one top s a o stepped;
        tells = λ p. told_last marks m o.report p is report_is;
      },
      step_keeps streams marks earlier m s a done r kept.there at.1 refl own
          (λ x z apart is_z.
          so_beside streams marks earlier m x z takes apart (kept.each x z is_z)),
    )
