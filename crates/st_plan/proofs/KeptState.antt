-- The moves follow the machine, tokens aside: after the acts of the moves so far each process has
-- the clock and the last count that the moves say, and in its queue the messages that they sent to
-- it and that it didn't take.
use Rattle.std.proofs.Common.{◌≡◌, ℕ, ◌<◌, ◌≤◌, ◌&&◌, ◌⊎◌, max, nat_lt, Bool, true, false, not}
use Rattle.std.proofs.Common.{◌==◌, cond, List, [], ◌∷◌, ◌++◌, Option, Some, None, is_some}
use Rattle.std.proofs.Common.{option_map, option_to_list, inl, inr, refl, sym, ◌∙◌, ap, subst}
use Rattle.std.proofs.Common.{arith, if◌then◌else◌}
use Rattle.std.specs.List.{remove, position}
use Rattle.std.specs.Option.{option_map_or}
use Rattle.std.proofs.lemmas.Bool.{eqb-true, ltb-false, false≢true}
use Rattle.std.proofs.lemmas.Option.{same_Some}
use Rattle.st_core.specs.declared.types.Pid.{Pid}
use Rattle.st_core.specs.declared.types.Token.{Token}
use Rattle.st_core.specs.declared.types.Message.{Message}
use Rattle.st_core.specs.declared.types.Kind.TheVariants as kind
use Rattle.st_core.specs.declared.types.Event.{Event}
use Rattle.st_core.specs.declared.types.Act.{Act}
use Rattle.st_core.specs.Pid.{pid_eq}
use Rattle.st_core.specs.State.{Process, State, process}
use Rattle.st_core.specs.Report.{report}
use Rattle.st_core.specs.Step.{actor, changed, outcome_of, reached, Acted, Outcome}
use Rattle.st_core.specs.Run.{Stream, run_from, stream}
use Rattle.st_core.specs.Streams.{lists}
use Rattle.st_core.proofs.ForCallers.{mapped, pid_same, pid_eq-refl, process_pid, run_parts}
use Rattle.st_core.proofs.ForCallers.{pid_eq-swap}
use Rattle.st_mail.specs.Mail.{bears_stamp}
use Rattle.st_order.specs.declared.item.Item.{Item}
use Rattle.st_order.specs.declared.item.Item.TheVariants as item
use Rattle.st_plan.specs.Marks.{Marks}
use Rattle.st_plan.specs.Moves.{Move, is_taking, clock, last, move_by}
use Rattle.st_plan.specs.Reasons.{uncaused}
use Rattle.st_plan.specs.Build.{flags_of, state_after, GoesOn}
use Rattle.st_plan.specs.Plain.{told_of_move}
use Rattle.st_plan.proofs.OwnActs.{process_then, Lifted, Silent}

-- THE INVARIANT

-- the token that a stamping move leaves, and the message of a send
abbrev pub token_of : List Stream → Marks → Move → Token
token_of streams marks m = record {
  label = m.event.label;
  flags = flags_of streams marks m;
  serial = m.event.serial;
  from = m.who;
}

abbrev pub message_of : List Stream → Marks → Move → Message
message_of streams marks m =
    record { from = m.who; value = m.event.value; token = Some (token_of streams marks m) }

-- the move sends to q, reported or hidden
abbrev pub sends_to : Pid → Move → Bool
sends_to q m = elim m.item [
  | item.Hidden p i ↦ option_map_or (λ x. pid_eq q x) m.event.to false
  | item.Reported p i ↦ elim m.event.kind [
    | kind.Send ↦ option_map_or (λ x. pid_eq q x) m.event.to false
    | kind.Receive ↦ false
    | kind.Print ↦ false
  ]
]

-- the queue without the first message whose token has this sender and count
abbrev pub without : Pid → ℕ → List Message → List Message
without from this queue = elim (position (λ x. bears_stamp from this x.token) queue) [
  | None ↦ queue
  | Some k ↦ remove queue k
]

-- the messages that were sent to q by these moves and not yet taken, the oldest first
abbrev pub queue_of : List Stream → Marks → Pid → List Move → List Message
queue_of streams marks q [] = []
queue_of streams marks q (m ∷ earlier) =
    let old = queue_of streams marks q earlier in
    if is_taking m
    then (if pid_eq m.who q then without m.event.from m.event.serial.this old else old)
    else (if sends_to q m then old ++ message_of streams marks m ∷ [] else old)

-- p's record is as the moves say
pub record IsSo (streams : List Stream) (marks : Marks) (earlier : List Move) (p : Pid)
    (r : Process) : Type 0 where
  pub clocked : r.local.clock ≡ clock p earlier
  pub lasted : r.local.last ≡ last p earlier
  pub traced : r.local.traced ≡ true
  pub queued : r.queue ≡ queue_of streams marks p earlier

pub record IsKept (streams : List Stream) (marks : Marks) (earlier : List Move)
    (s : State) : Type 0 where
  pub there : (p : Pid) → lists streams p ≡ true → is_some (process s p) ≡ true
  pub each : (p : Pid) (r : Process) → process s p ≡ Some r → IsSo streams marks earlier p r

-- the move is an event that is told
abbrev pub is_told : Marks → Move → Bool
is_told marks m = elim m.item [ item.Reported q i ↦ marks q i | item.Hidden q i ↦ false ]

-- the event that a move tells
abbrev pub told_event : Marks → Move → Option Event
told_event marks m = if is_told marks m then Some m.event else None

-- the acts of a move run from s, report what its process tells of it, and keep the invariant
abbrev pub Continues : ℕ → List Stream → Marks → List Move → State → Move → Type 0
Continues top streams marks earlier s m =
    (g : GoesOn top streams marks s m) × IsKept streams marks (m ∷ earlier)
    (state_after s g.outcomes)

-- SMALL FACTS

pub found : {A : Type 0} (o : Option A) → is_some o ≡ true → (x : A) × (o ≡ Some x)
found None h = absurd (false≢true h)
found (Some x) h = (x, refl)

pub there_mapped : {A B : Type 0} (f : A → B) (o : Option A) → is_some (option_map f o) ≡ is_some o
there_mapped f None = refl
there_mapped f (Some x) = refl

-- a process that is there stays there through acts of p's own
pub still_there : (top : ℕ) (s : State) (p : Pid) (r before : Process) (acts : List Act)
    (l : Lifted top s p r acts)
    → process s p ≡ Some before → (x : Pid) → is_some (process (state_after s l.os) x)
    ≡ is_some (process s x)
still_there top s p r before acts l is x =
    elim (pid_eq x p) as (λ b. pid_eq x p ≡ b → is_some (process (state_after s l.os) x)
    ≡ is_some (process s x)) [
      | true ↦ λ e.
          let who = pid_same x p e in
          ap (λ y. is_some (process (state_after s l.os) y)) who
          ∙ ap (λ (o : Option Process). is_some o) l.here
          ∙ sym (ap (λ (o : Option Process). is_some o) is)
          ∙ ap (λ y. is_some (process s y)) (sym who)
      | false ↦ λ e. ap (λ (o : Option Process). is_some o) (l.others x e)
    ] refl

-- if a prev isn't uncaused, it is the last count, or at least the clock
pub caused_if : (prev last clock : ℕ) → (not (prev == last) && nat_lt prev clock) ≡ false
    → (prev ≡ last) ⊎ (clock ≤ prev)
caused_if prev last clock h = elim (prev == last) as (λ b. (prev == last) ≡ b
    → (not b && nat_lt prev clock) ≡ false → (prev ≡ last) ⊎ (clock ≤ prev)) [
      | true ↦ λ e h. inl (eqb-true prev last e)
      | false ↦ λ e h. inr (ltb-false prev clock h)
    ] refl h

-- a stamp that isn't uncaused
pub caused : (earlier : List Move) (m : Move) → is_taking m ≡ false → uncaused earlier m ≡ false
    → (m.event.serial.prev ≡ last m.who earlier) ⊎ (clock m.who earlier ≤ m.event.serial.prev)
caused earlier m stamps h =
    let prev = m.event.serial.prev in
    let late = not (prev == last m.who earlier) && nat_lt prev (clock m.who earlier) in
    caused_if prev (last m.who earlier) (clock m.who earlier)
    (ap (λ b. not b && late) (sym stamps) ∙ h)

-- WHAT A MOVE MAKES OF THE COUNTS

pub own_clock : (m : Move) (earlier : List Move) → clock m.who earlier < m.event.serial.this
    → clock m.who (m ∷ earlier) ≡ m.event.serial.this
own_clock m earlier below =
    let greater : max (clock m.who earlier) m.event.serial.this ≡ m.event.serial.this =
    omega arith in
    rw (pid_eq-refl m.who) greater

pub own_last : (m : Move) (earlier : List Move) → is_taking m ≡ false
    → last m.who (m ∷ earlier) ≡ m.event.serial.prev
own_last m earlier stamps = rw (pid_eq-refl m.who, stamps) refl

pub other_clock : (m : Move) (earlier : List Move) (x : Pid) → pid_eq x m.who ≡ false
    → clock x (m ∷ earlier) ≡ clock x earlier
other_clock m earlier x h = rw (pid_eq-swap m.who x ∙ h) refl

pub other_last : (m : Move) (earlier : List Move) (x : Pid) → pid_eq x m.who ≡ false
    → last x (m ∷ earlier) ≡ last x earlier
other_last m earlier x h = rw (pid_eq-swap m.who x ∙ h) refl

-- the queue of x after a move that stamps
pub stamp_queue : (streams : List Stream) (marks : Marks) (m : Move) (earlier : List Move) (x : Pid)
    (b : Bool) → is_taking m ≡ false → sends_to x m ≡ b → queue_of streams marks x (m ∷ earlier)
    ≡ cond b (queue_of streams marks x earlier ++ message_of streams marks m ∷ [])
    (queue_of streams marks x earlier)
stamp_queue streams marks m earlier x b stamps sends = rw (stamps, sends) refl

-- the queue of x after a move that takes a message
pub taken_queue : (streams : List Stream) (marks : Marks) (m : Move) (earlier : List Move) (x : Pid)
    (b : Bool) → is_taking m ≡ true → pid_eq m.who x ≡ b → queue_of streams marks x (m ∷ earlier)
    ≡ cond b (without m.event.from m.event.serial.this (queue_of streams marks x earlier))
    (queue_of streams marks x earlier)
taken_queue streams marks m earlier x b takes who = rw (takes, who) refl

-- A STEP

-- a step keeps the invariant, if afterwards the record of its actor and each other record are as
-- the moves say
pub step_keeps : (streams : List Stream) (marks : Marks) (earlier : List Move) (m : Move)
    (s : State) (a : Act)
    (done : Acted) (r : Process) → ((x : Pid) → lists streams x ≡ true
    → is_some (process s x) ≡ true)
    → process s m.who ≡ Some r → actor a ≡ m.who → IsSo streams marks (m ∷ earlier) m.who
    (changed a done r)
    → ((x : Pid) (z : Process) → pid_eq x m.who ≡ false → process s x ≡ Some z
    → IsSo streams marks (m ∷ earlier) x (reached a done.local.token z))
    → IsKept streams marks (m ∷ earlier) (outcome_of s a done).after
step_keeps streams marks earlier m s a done r there is by own others = record {
  there = λ x h. ap (λ (p : Option Process). is_some p) (process_then s a done x)
      ∙ there_mapped (changed a done) (process s x)
      ∙ there x h;
  each = λ x after h.
      let parts = mapped (changed a done) (process s x) after (sym (process_then s a done x) ∙ h) in
      let z = parts.0 in
      subst (IsSo streams marks (m ∷ earlier) x) parts.2
      (elim (pid_eq x m.who) as (λ b. pid_eq x m.who ≡ b
      → IsSo streams marks (m ∷ earlier) x (changed a done z)) [
        | true ↦ λ e.
            let same = pid_same x m.who e in
            let is_r : r ≡ z = same_Some r z (sym is ∙ ap (process s) (sym same) ∙ parts.1) in
            subst (λ p. IsSo streams marks (m ∷ earlier) p (changed a done z)) (sym same)
            (subst (λ q. IsSo streams marks (m ∷ earlier) m.who (changed a done q)) is_r own)
        | false ↦ λ e.
            let pid : z.pid ≡ x = process_pid s x z parts.1 in
            let mine : Process = record z { local = done.local; queue = done.queue } in
            let apart : pid_eq z.pid (actor a) ≡ false =
            ap (λ p. pid_eq p (actor a)) pid ∙ ap (pid_eq x) by ∙ e in
            let not_own : changed a done z ≡ reached a done.local.token z =
            ap (λ b. reached a done.local.token (cond b mine z)) apart in
            subst (IsSo streams marks (m ∷ earlier) x) (sym not_own) (others x z e parts.1)
      ] refl);
}

-- ONE ACT MORE

pub stream_last : (acts : List Act) (a : Act) (os : List Outcome) (o : Outcome) (p : Pid) (top : ℕ)
    (s : State) → run_from top s acts ≡ Some os → Silent os
    → stream (acts ++ a ∷ []) (os ++ o ∷ []) p ≡ (if pid_eq
    (actor a) p then option_to_list o.report else []) ++ []
stream_last [] a os o p top s runs silent =
    ap (λ xs. stream (a ∷ []) (xs ++ o ∷ []) p) (sym (same_Some [] os runs))
stream_last (b ∷ acts) a os o p top s runs silent =
    let t = run_parts top s b acts os runs in
    let quiet : Silent (t.first ∷ t.others) = subst Silent t.is_whole silent in
    let rest = stream (acts ++ a ∷ []) (t.others ++ o ∷ []) p in
    let none : Option Event = None in
    let end : List Event = (if pid_eq (actor a) p then option_to_list o.report else []) ++ [] in
    ap (λ xs. stream (b ∷ (acts ++ a ∷ [])) (xs ++ o ∷ []) p) t.is_whole
    ∙ ap (λ report. cond (pid_eq (actor b) p) (option_to_list report) [] ++ rest) quiet.0
    ∙ elim (pid_eq (actor b) p) as (λ c. cond c (option_to_list none) [] ++ rest ≡ end) [
      | true ↦ stream_last acts a t.others o p top t.first.after t.is_rest quiet.1
      | false ↦ stream_last acts a t.others o p top t.first.after t.is_rest quiet.1
    ]

-- what p sees of the last act of an item, if its report is the move's event
abbrev pub shown_to : Pid → Move → Option Event → List Event
shown_to p m report = (if pid_eq m.who p then option_to_list report else []) ++ []

told_item : (marks : Marks) (x : Item) (e : Event) (p : Pid)
    → shown_to p (move_by x e) (told_event marks (move_by x e)) ≡ told_of_move marks p (move_by x e)
told_item marks (item.Reported q i) e p =
    let some : Option Event = Some e in
    elim (pid_eq q p) as (λ b. (cond b (option_to_list (cond (marks q i) some None)) []) ++ []
    ≡ cond b (cond (marks q i) (e ∷ []) []) []) [
      | true ↦ elim (marks q i) as (λ c. option_to_list (cond c some None) ++ []
          ≡ cond c (e ∷ []) []) [
            | true ↦ refl
            | false ↦ refl
          ]
      | false ↦ refl
    ]
told_item marks (item.Hidden q i) e p =
    let none : Option Event = None in
    elim (pid_eq e.from p) as (λ b. (cond b (option_to_list none) []) ++ [] ≡ []) [
      | true ↦ refl
      | false ↦ refl
    ]

pub told_last : (marks : Marks) (m : Move) (report : Option Event) (p : Pid)
    → move_by m.item m.event ≡ m
    → report ≡ told_event marks m → shown_to p m report ≡ told_of_move marks p m
told_last marks m report p is h = ap (shown_to p m) h
    ∙ subst (λ y. shown_to p y (told_event marks y) ≡ told_of_move marks p y) is
    (told_item marks m.item m.event p)
