-- A stamp keeps the invariant: the acts before it leave its process ready, and then its act stamps
-- the move's serial, so that it reports the move's event and queues its message.
use Rattle.std.proofs.Common.{◌≡◌, ℕ, ◌+◌, ◌<◌, ◌≤◌, ◌⊎◌, Bool, true, false, cond, List, [], ◌∷◌}
use Rattle.std.proofs.Common.{◌++◌, Option, Some, None, is_some, inl, inr, refl, sym, ◌∙◌, ap}
use Rattle.std.proofs.Common.{subst, arith, option_to_list, if◌then◌else◌}
use Rattle.std.proofs.lemmas.Bool.{lt-ltb}
use Rattle.st_core.specs.declared.types.Pid.{Pid}
use Rattle.st_core.specs.declared.types.Token.{Token}
use Rattle.st_core.specs.declared.types.Message.{Message}
use Rattle.st_core.specs.declared.types.Kind.{Kind}
use Rattle.st_core.specs.declared.types.Kind.TheVariants as kind
use Rattle.st_core.specs.declared.types.Event.{Event}
use Rattle.st_core.specs.declared.types.Reply.TheVariants as reply
use Rattle.st_core.specs.Step.{actor, answers, receiver, Acted, acted, reached, changed, outcome_of}
use Rattle.st_core.specs.Step.{step}
use Rattle.st_core.specs.Run.{Stream}
use Rattle.st_core.specs.declared.types.Act.{Act}
use Rattle.st_core.specs.declared.types.Act.TheVariants as act
use Rattle.st_core.specs.Pid.{pid_eq}
use Rattle.st_core.specs.State.{LocalState, Process, State, process}
use Rattle.st_core.specs.Stamp.{stamped_token}
use Rattle.st_core.specs.Report.{report}
use Rattle.st_core.specs.Streams.{lists}
use Rattle.st_core.proofs.ForCallers.{process_pid, step_done, run_from-one}
use Rattle.st_plan.specs.Marks.{Marks}
use Rattle.st_plan.specs.Moves.{Move, is_taking, clock, last, move_by}
use Rattle.st_plan.specs.Reasons.{uncaused}
use Rattle.st_plan.specs.Build.{ready, flags_of, act_of, state_after, start_of}
use Rattle.st_plan.proofs.KeptState.{step_keeps, token_of, message_of, sends_to, queue_of, IsSo}
use Rattle.st_plan.proofs.KeptState.{IsKept, told_event, Continues, found, still_there, caused}
use Rattle.st_plan.proofs.KeptState.{own_clock, own_last, other_clock, other_last, stamp_queue}
use Rattle.st_plan.proofs.KeptState.{stream_last, told_last}
use Rattle.st_plan.proofs.Readiness.{is_ready}
use Rattle.st_plan.proofs.OwnActs.{run_append, state_append, Lifted, lifted, changed_own}

-- READY

-- what a stamp's acts need
pub record CanStamp (top : ℕ) (streams : List Stream) (marks : Marks) (earlier : List Move)
    (s : State) (m : Move) : Type 0 where
  pub kept : IsKept streams marks earlier s
  pub listed : lists streams m.who ≡ true
  pub is : move_by m.item m.event ≡ m
  pub stamps : is_taking m ≡ false
  pub rises : m.event.serial.prev < m.event.serial.this
  pub within : m.event.serial.this ≤ top
  pub below : clock m.who earlier < m.event.serial.this
  pub free : uncaused earlier m ≡ false

-- the record that is ready for the stamp of a move, and the acts that made it so
pub record StandsReady (top : ℕ) (streams : List Stream) (marks : Marks) (earlier : List Move)
    (s : State) (m : Move) : Type 0 where
  pub before : Process
  pub is_before : process s m.who ≡ Some before
  pub end : LocalState
  pub token : Token
  pub lift : Lifted top s m.who (record before { local = end })
      (ready m.who (start_of before.local) m.event.label m.event.serial (flags_of streams marks m))
  pub is : end.token ≡ Some token
  pub stamped : stamped_token m.who end token ≡ token_of streams marks m
  pub clocked : end.clock + 1 ≡ m.event.serial.this
  pub lasted : end.last ≡ m.event.serial.prev
  pub traced : end.traced ≡ true
  pub queued : before.queue ≡ queue_of streams marks m.who earlier
  pub there : (x : Pid) → lists streams x ≡ true
      → is_some (process (state_after s lift.os) x) ≡ true

pub stands_ready : (top : ℕ) (streams : List Stream) (marks : Marks) (earlier : List Move)
    (s : State) (m : Move)
    → CanStamp top streams marks earlier s m → StandsReady top streams marks earlier s m
stands_ready top streams marks earlier s m can =
    let kept = can.kept in
    let below = can.below in
    let at = found (process s m.who) (kept.there m.who can.listed) in
    let r = at.0 in
    let so = kept.each m.who r at.1 in
    let clocked = so.clocked in
    let why : (m.event.serial.prev ≡ r.local.last) ⊎ (r.local.clock ≤ m.event.serial.prev) =
    elim (caused earlier m can.stamps can.free) [
      | inl same ↦ inl (same ∙ sym so.lasted)
      | inr least ↦ inr (omega arith)
    ] in
    let f = flags_of streams marks m in
    let ready_at = is_ready top m.who r.local m.event.label m.event.serial f can.rises can.within
    (omega arith) why in
    let acts = ready m.who (start_of r.local) m.event.label m.event.serial f in
    let lift = lifted top m.who acts s r r.local ready_at.end at.1 refl ready_at.runs in
    let has = ready_at.has in
    let at_clock = ready_at.clocked in
    let now : ready_at.end.clock + 1 ≡ m.event.serial.this = omega arith in
    let prev = ready_at.lasted in
    record {
      before = r;
      is_before = at.1;
      end = ready_at.end;
      token = has.token;
      lift = lift;
      is = has.is;
      stamped = λ i. record {
        label = has.label i;
        flags = has.flags i;
        serial = record { prev = prev i; this = now i };
        from = m.who;
      };
      clocked = now;
      lasted = prev;
      traced = ready_at.traced ∙ so.traced;
      queued = so.queued;
      there = λ x h. still_there top s m.who (record r { local = ready_at.end }) r acts lift at.1 x
          ∙ kept.there x h;
    }

-- THE STAMP

-- the record after its stamp
abbrev final : Pid → LocalState → Token → LocalState
final p l t = record l { token = Some (stamped_token p l t); clock = l.clock + 1 }

-- what a stamp of this kind does, if it makes this record of its process
abbrev stamps_as : Kind → Option Pid → ℕ → Process → LocalState → Acted
stamps_as k to v r l =
    record (answers r l reply.Done) { report = report r.local.traced k l.token to v }

-- the record with the move's message, if it is for its process
abbrev with_message : List Stream → Marks → Move → Process → Process
with_message streams marks m z =
    let sent = z.queue ++ message_of streams marks m ∷ [] in
    record z { queue = if sends_to z.pid m then sent else z.queue }

-- the act is the stamp of the move
record IsStampOf (streams : List Stream) (marks : Marks) (m : Move) (a : Act) : Type 0 where
  kind : Kind
  to : Option Pid
  is : (r : Process) → act_of r m ≡ Some a
  by : actor a ≡ m.who
  listed : lists streams (receiver a) ≡ true
  acts : (top : ℕ) (r : Process) (t : Token) → r.local.token ≡ Some t → r.local.clock < top
      → acted top r a ≡ Some (stamps_as kind to m.event.value r (final r.pid r.local t))
  reaches : (z : Process) → reached a (Some (token_of streams marks m)) z
      ≡ with_message streams marks m z
  reports : report true kind (Some (token_of streams marks m)) to m.event.value ≡ told_event marks m

-- the record of a process with the move's message if it is for it, whose counts are what the moves
-- say
with_stamp : (streams : List Stream) (marks : Marks) (earlier : List Move) (m : Move) (x : Pid)
    (z : Process) → z.pid ≡ x → is_taking m ≡ false
    → z.local.clock ≡ clock x (m ∷ earlier) → z.local.last ≡ last x (m ∷ earlier)
    → z.local.traced ≡ true → z.queue ≡ queue_of streams marks x earlier
    → IsSo streams marks (m ∷ earlier) x (with_message streams marks m z)
with_stamp streams marks earlier m x z pid stamps clocked lasted traced queued =
    let push : Bool → List Message → List Message =
    λ b q. cond b (q ++ message_of streams marks m ∷ []) q in
    record {
      clocked = clocked;
      lasted = lasted;
      traced = traced;
      queued = ap (λ p. push (sends_to p m) z.queue) pid
          ∙ ap (push (sends_to x m)) queued
          ∙ sym (stamp_queue streams marks m earlier x (sends_to x m) stamps refl);
    }

-- A process that is ready, y, stamps the token of the move. So it reports the move's event, if it
-- is told, the receiver gets the move's message, and all processes are then as the moves say.
module _ (top : ℕ) (streams : List Stream) (marks : Marks) (earlier : List Move) (s : State)
    (m : Move) (a : Act) (can : CanStamp top streams marks earlier s m)
    (st : IsStampOf streams marks m a) where
  abbrev y : StandsReady top streams marks earlier s m
  y = stands_ready top streams marks earlier s m can

  who : y.before.pid ≡ m.who
  who = process_pid s m.who y.before y.is_before

  abbrev stamp : Token
  stamp = stamped_token y.before.pid y.end y.token

  stamp_is : stamp ≡ token_of streams marks m
  stamp_is = ap (λ p. stamped_token p y.end y.token) who ∙ y.stamped

  reports_as : report y.end.traced st.kind (Some stamp) st.to m.event.value ≡ told_event marks m
  reports_as =
      ap (λ b. report b st.kind (Some stamp) st.to m.event.value) y.traced
      ∙ ap (λ t. report true st.kind (Some t) st.to m.event.value) stamp_is
      ∙ st.reports

  reaches_as : (z : Process) → reached a (Some stamp) z ≡ with_message streams marks m z
  reaches_as z = ap (λ t. reached a (Some t) z) stamp_is ∙ st.reaches z

  own_after : IsSo streams marks (m ∷ earlier) m.who
      (with_message streams marks m (record y.before { local = final y.before.pid y.end y.token }))
  own_after = with_stamp streams marks earlier m m.who
      (record y.before { local = final y.before.pid y.end y.token }) who can.stamps
      (y.clocked ∙ sym (own_clock m earlier can.below))
      (y.lasted ∙ sym (own_last m earlier can.stamps)) y.traced y.queued

  others_after : (x : Pid) (z : Process) → pid_eq x m.who ≡ false
      → process (state_after s y.lift.os) x ≡ Some z
      → IsSo streams marks (m ∷ earlier) x (reached a (Some stamp) z)
  others_after x z apart is =
      let before : process s x ≡ Some z = sym (y.lift.others x apart) ∙ is in
      let so = can.kept.each x z before in
      subst (IsSo streams marks (m ∷ earlier) x) (sym (reaches_as z))
      (with_stamp streams marks earlier m x z (process_pid s x z before) can.stamps
      (so.clocked ∙ sym (other_clock m earlier x apart))
      (so.lasted ∙ sym (other_last m earlier x apart)) so.traced so.queued)

  stamping : Continues top streams marks earlier s m
  stamping =
      let within = can.within in
      let clocked = y.clocked in
      let first_acts = ready m.who (start_of y.before.local) m.event.label m.event.serial
      (flags_of streams marks m) in
      let s1 = state_after s y.lift.os in
      let r : Process = record y.before { local = y.end } in
      let done = stamps_as st.kind st.to m.event.value r (final r.pid y.end y.token) in
      let acted_is : acted top r a ≡ Some done = st.acts top r y.token y.is (omega arith) in
      let other = found (process s1 (receiver a)) (y.there (receiver a) st.listed) in
      let o = outcome_of s1 a done in
      let here : process s1 (actor a) ≡ Some r = ap (process s1) st.by ∙ y.lift.here in
      let stepped : step top s1 a ≡ Some o =
      step_done top s1 a r other.0 done here other.1 acted_is in
      let own : IsSo streams marks (m ∷ earlier) m.who (changed a done r) =
      subst (IsSo streams marks (m ∷ earlier) m.who)
      (sym (changed_own a done r (who ∙ sym st.by)
      ∙ reaches_as (record r { local = done.local }))) own_after in (
        record {
          before = y.before;
          is_before = y.is_before;
          acts = first_acts ++ a ∷ [];
          are = rw (st.is y.before, can.stamps) refl;
          outcomes = y.lift.os ++ o ∷ [];
          runs = run_append top s first_acts (a ∷ []) y.lift.os (o ∷ []) y.lift.runs
              (run_from-one top s1 a o stepped);
          tells = λ p.
              stream_last first_acts a y.lift.os o p top s y.lift.runs y.lift.silent
              ∙ ap (λ q. (if pid_eq q p then option_to_list o.report else []) ++ []) st.by
              ∙ told_last marks m o.report p can.is reports_as;
        },
        subst (IsKept streams marks (m ∷ earlier)) (sym (state_append s y.lift.os (o ∷ [])))
            (step_keeps streams marks earlier m s1 a done r y.there y.lift.here st.by own
            others_after),
      )

-- A SEND AND A PRINT

sent : (p to : Pid) (v : ℕ) (t : Token) (z : Process) (b : Bool) → b ≡ pid_eq z.pid to
    → reached (act.Send p to v) (Some t) z ≡ (let m : Message =
    record { from = p; value = v; token = Some t } in
    record z { queue = if b then z.queue ++ m ∷ [] else z.queue })
sent p to v t z true is = rw (← is) refl
sent p to v t z false is = rw (← is) refl

-- what a send of the move reports
abbrev pub sent_event : Move → Pid → Event
sent_event m to = record m.event { kind = kind.Send; from = m.who; to = Some to }

pub sending : (top : ℕ) (streams : List Stream) (marks : Marks) (earlier : List Move) (s : State)
    (m : Move) (to : Pid) → CanStamp top streams marks earlier s m → lists streams to ≡ true
    → ((r : Process) → act_of r m ≡ Some (act.Send m.who to m.event.value))
    → ((q : Pid) → sends_to q m ≡ pid_eq q to)
    → (if (flags_of streams marks m).send then Some (sent_event m to) else None)
    ≡ told_event marks m → Continues top streams marks earlier s m
sending top streams marks earlier s m to can listed is is_to reports =
    stamping top streams marks earlier s m (act.Send m.who to m.event.value) can (record {
      kind = kind.Send;
      to = Some to;
      is = is;
      by = refl;
      listed = listed;
      acts = λ top r t has below. rw (has, lt-ltb r.local.clock top below) refl;
      reaches = λ z. sent m.who to m.event.value (token_of streams marks m) z (sends_to z.pid m)
          (is_to z.pid);
      reports = reports;
    })

-- what a print of the move reports
abbrev pub printed_event : Move → Event
printed_event m = record m.event { kind = kind.Print; from = m.who; to = None }

pub printing : (top : ℕ) (streams : List Stream) (marks : Marks) (earlier : List Move) (s : State)
    (m : Move)
    → CanStamp top streams marks earlier s m → ((r : Process)
    → act_of r m ≡ Some (act.Print m.who m.event.value))
    → ((q : Pid) → sends_to q m ≡ false)
    → (if (flags_of streams marks m).print then Some (printed_event m) else None)
    ≡ told_event marks m → Continues top streams marks earlier s m
printing top streams marks earlier s m can is is_to reports =
    stamping top streams marks earlier s m (act.Print m.who m.event.value) can (record {
      kind = kind.Print;
      to = None;
      is = is;
      by = refl;
      listed = can.listed;
      acts = λ top r t has below. rw (has, lt-ltb r.local.clock top below) refl;
      reaches = λ z. rw (is_to z.pid) refl;
      reports = reports;
    })
