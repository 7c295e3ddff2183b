-- No run shows what a reason says of two events: a report's serial rises, and without a reset a
-- process stamps no count twice, since each stamp lifts its clock above every earlier value.
use Rattle.std.proofs.Common.{◌≡◌, ◌≢◌, ℕ, ◌+◌, ◌<◌, ◌==◌, Bool, true, false, cond, List, [], ◌∷◌}
use Rattle.std.proofs.Common.{length, take, get_or, Some, option_and_then, All, AllPairs, inl, inr}
use Rattle.std.proofs.Common.{refl, sym, ◌∙◌, ap, Result, Ok, Err, IfErr, subst, arith}
use Rattle.std.specs.List.{slice_get, Contains}
use Rattle.std.proofs.lemmas.Bool.{eq-eqb, and_from, false≢true, cases_order}
use Rattle.std.proofs.lemmas.List.Elements.{All-head, All-tail, All-from_recursion}
use Rattle.std.proofs.lemmas.Option.{same_Some, none-some, option_and_then_some, slice_get-get_or}
use Rattle.std.proofs.lemmas.Option.{get_or_from_slice_get}
use Rattle.st_core.specs.declared.types.Pid.{Pid}
use Rattle.st_core.specs.declared.types.Kind.TheVariants as kind
use Rattle.st_core.specs.declared.types.Event.{Event}
use Rattle.st_core.specs.declared.types.Act.{Act}
use Rattle.st_core.specs.Pid.{pid_eq}
use Rattle.st_core.specs.Step.{Outcome, actor}
use Rattle.st_core.specs.Run.{Stream, pids_of, run, stream}
use Rattle.st_core.specs.Streams.{stream_of, events_of}
use Rattle.st_core.specs.Pairs.{IsFollowing, pairs}
use Rattle.st_core.specs.Laws.{KeepsSound, NoReset, LiftsClock, ReportsEvent}
use Rattle.st_core.proofs.ForCallers.{pid_eq-true, pid_eq-same, All_at, run_sound, receives_follow}
use Rattle.st_core.proofs.ForCallers.{receives_are_paired, event_reported, reported_in_order}
use Rattle.st_core.proofs.ForCallers.{reported_sends_agree, reported_stamps_lift}
use Rattle.st_core.proofs.ForCallers.{followed_sends_lift, lifted_once, lifted_later}
use Rattle.st_pair.specs.declared.answer.PairFault.{PairFault}
use Rattle.st_pair.specs.declared.answer.PairFault.TheVariants as fault
use Rattle.st_pair.specs.Places.{event_at, is_stamp, first}
use Rattle.st_pair.specs.Pairing.{agrees, prev_not_before, not_rising, repeated, mismatch, refusal}
use Rattle.st_pair.specs.Pairing.{IsPairFault}
use Rattle.st_pair.specs.Final.{NeverShown, NeverShownInOneTrace, RulesOut}
use Rattle.st_pair.proofs.AcceptedEvents.{Rule, got_rule}
use Rattle.st_pair.proofs.Agreement.{agrees_if}
use Rattle.st_pair.proofs.Converse.{first_in, given_from, own_says, got_says}
use Rattle.st_pair.proofs.Firsts.{events_in}
use Rattle.st_pair.proofs.OwnStamps.{own_rule}
use Rattle.st_pair.proofs.Stamps.{receive_unstamped, stamp_at}
use Rattle.st_pair.proofs.Reasons as reasons

-- KINDS

pub stamp_not_received : (e : Event) → is_stamp e ≡ true → e.kind ≢ kind.Receive
stamp_not_received e stamps is = false≢true (sym (receive_unstamped e is) ∙ stamps)

pub receive_kind : (e : Event) → is_stamp e ≡ false → e.kind ≡ kind.Receive
receive_kind e receives = elim e.kind as (λ k.
    (let b : Bool = elim k [ kind.Send ↦ true | kind.Receive ↦ false | kind.Print ↦ true ] in b)
    ≡ false
    → k ≡ kind.Receive) [
      | kind.Send ↦ λ h. absurd (false≢true (sym h))
      | kind.Receive ↦ λ h. refl
      | kind.Print ↦ λ h. absurd (false≢true (sym h))
    ] receives

-- a send agrees with a receive that differs from it in kind alone
send_agrees : (e : Event) → (let f : Event = record e { kind = kind.Send } in agrees f e) ≡ true
send_agrees e =
    agrees_if (record e { kind = kind.Send }) e
    (record { sends = refl; label = refl; prev = refl; to = refl; value = refl })

-- EVENTS OF A RUN

abbrev pub AreShown : List Stream → List Act → List Outcome → Type 0
AreShown streams acts os = All (λ (x : Stream). stream acts os x.pid ≡ x.events) streams

pub shown_at : (streams : List Stream) (acts : List Act) (os : List Outcome) (p : Pid) (i : ℕ)
    (e : Event)
    → AreShown streams acts os → event_at streams p i ≡ Some e
    → slice_get (stream acts os p) i ≡ Some e
shown_at [] acts os p i e shown at = absurd (none-some e at)
shown_at (x ∷ streams) acts os p i e shown at =
    let whole = λ (y : Stream). stream acts os y.pid ≡ y.events in
    elim (pid_eq x.pid p) as (λ b. pid_eq x.pid p ≡ b
    → slice_get (events_in (cond b (Some x) (stream_of streams p))) i ≡ Some e
    → slice_get (stream acts os p) i ≡ Some e) [
      | true ↦ λ same at.
          ap (λ q. slice_get (stream acts os q) i) (sym (pid_eq-true x.pid p same))
          ∙ ap (λ es. slice_get es i) (All-head whole x streams shown)
          ∙ at
      | false ↦ λ other at. shown_at streams acts os p i e (All-tail whole x streams shown) at
    ] refl at

-- the rule gives x at an event that an act of the run reports
record IsTold {X : Type 0} (rule : Rule X) (acts : List Act) (os : List Outcome) (x : X) : Type 0
  where
    pid : Pid
    index : ℕ
    event : Event
    gives : rule pid index event ≡ Some x
    number : ℕ
    reports : ReportsEvent acts os pid index event number

told_first : {X : Type 0} (rule : Rule X) (streams : List Stream) (acts : List Act)
    (os : List Outcome) (x : X)
    → AreShown streams acts os → first rule streams ≡ Some x → IsTold rule acts os x
told_first {X} rule streams acts os x shown h =
    let found = first_in rule streams x h in
    let s = found.1 in
    let here = given_from rule s.pid 0 s.events x found.3 in
    let whole = All_at (λ (y : Stream). stream acts os y.pid ≡ y.events) streams found.0 s found.2
    shown in
    let at = ap (λ es. slice_get es here.0) whole ∙ here.2 in
    let number : 0 + here.0 ≡ here.0 = omega arith in
    let act = event_reported acts os s.pid here.0 here.1 at in
    record {
      pid = s.pid;
      index = here.0;
      event = here.1;
      gives = ap (λ n. rule s.pid n here.1) (sym number) ∙ here.3;
      number = act.0;
      reports = act.1;
    }

-- an act reports one event at most
reported_once : (acts : List Act) (os : List Outcome) (p q : Pid) (i j n : ℕ) (d e : Event)
    → ReportsEvent acts os p i d n → ReportsEvent acts os q j e n → (p ≡ q) × (i ≡ j)
reported_once acts os p q i j n d e a b =
    let same = same_Some a.reports.act b.reports.act (sym a.reports.at ∙ b.reports.at) in
    let who : p ≡ q = sym a.reports.own ∙ ap actor same ∙ b.reports.own in
    (who, sym a.before ∙ ap (λ x. length (stream (take n acts) (take n os) x)) who ∙ b.before)

-- an element that a list contains is at the index that `Contains` gives
contained : {A : Type 0} (xs : List A) (x : A) (c : Contains xs x) → slice_get xs c.0 ≡ Some x
contained xs x c = slice_get-get_or xs c.0 x c.1 ∙ ap (λ y. Some y) c.2

same_receive : (ps : List (ℕ × ℕ)) (m n s : ℕ) → AllPairs (λ x y. x.1 ≢ y.1) ps → Contains ps (m, s)
    → Contains ps (n, s) → m ≡ n
same_receive ps m n s once a b =
    let d : ℕ × ℕ = (0, 0) in
    let here = get_or_from_slice_get ps a.0 (m, s) d (contained ps (m, s) a) in
    let there = get_or_from_slice_get ps b.0 (n, s) d (contained ps (n, s) b) in
    let sends : (get_or ps a.0 d).1 ≡ (get_or ps b.0 d).1 =
    ap (λ (x : ℕ × ℕ). x.1) here ∙ sym (ap (λ (x : ℕ × ℕ). x.1) there) in
    elim (cases_order a.0 b.0) [
      | inl same ↦
          ap (λ (x : ℕ × ℕ). x.0) (sym here) ∙ ap (λ k. (get_or ps k d).0) same
          ∙ ap (λ (x : ℕ × ℕ). x.0) there
      | inr (inl less) ↦ absurd (once a.0 b.0 d less b.1 sends)
      | inr (inr more) ↦ absurd (once b.0 a.0 d more a.1 (sym sends))
    ]

module _ (top : ℕ) (streams : List Stream) (acts : List Act) (os : List Outcome)
    (runs : run top (pids_of streams) acts ≡ Some os) (shown : AreShown streams acts os) where
  -- A SERIAL THAT DOESN'T RISE

  no_prev : (f : PairFault) → first prev_not_before streams ≡ Some f → ⊥
  no_prev f h =
      let x = told_first prev_not_before streams acts os f shown h in
      let falls = (reasons.prev_says streams x.pid x.index x.event f x.gives).falls in
      option_and_then_some (λ (o : Outcome). o.report) (slice_get os x.number) x.event
      x.reports.reports.report
      (λ o out is.
      let kept = All_at (KeepsSound top) os x.number o out
      (run_sound top (pids_of streams) acts os runs) in
      let rises : x.event.serial.prev < x.event.serial.this = kept.report x.event is in
      absurd (omega arith))

  module _ (none : NoReset acts) where
    stamp_lifts : (p : Pid) (i : ℕ) (e : Event) (n : ℕ) → ReportsEvent acts os p i e n
        → is_stamp e ≡ true
        → LiftsClock os p e.serial.this n
    stamp_lifts p i e n r stamps =
        reported_stamps_lift top (pids_of streams) acts os runs none p n e r.reports
        (stamp_not_received e stamps)

    -- COUNTS THAT DON'T RISE

    no_rising : (f : PairFault) → first (not_rising streams) streams ≡ Some f → ⊥
    no_rising f h =
        let x = told_first (not_rising streams) streams acts os f shown h in
        let p = x.pid in
        let says = reasons.rising_says streams p x.index x.event f x.gives in
        let g = says.other in
        let before = reasons.stamp_before_at (events_of streams p) x.index g says.before in
        let early = event_reported acts os p g.0 g.1
        (shown_at streams acts os p g.0 g.1 shown before.at) in
        let order =
        reported_in_order acts os p g.0 x.index early.0 x.number g.1 x.event early.1 x.reports
        before.below in
        let rises =
        lifted_later os p g.1.serial.this x.event.serial.this early.0 x.number
        (stamp_lifts p g.0 g.1 early.0 early.1 before.stamps)
        (stamp_lifts p x.index x.event x.number x.reports says.stamps) order in
        let falls = says.falls in
        omega arith

    -- THE SEND OF A RECEIVE

    -- a receive's pair, whose send lifts its process's clock to the receive's count
    pub record IsTaken (n : ℕ) (e : Event) : Type 0 where
      pub send : ℕ
      pub paired : Contains (pairs acts os) (n, send)
      pub follows : IsFollowing acts os n send
      pub event : follows.event ≡ e
      pub lifts : LiftsClock os e.from e.serial.this send

    pub taken : (p : Pid) (i : ℕ) (e : Event) (n : ℕ) → ReportsEvent acts os p i e n
        → is_stamp e ≡ false → IsTaken n e
    taken p i e n r receives =
        let pids = pids_of streams in
        let reported = r.reports.report in
        let pair = receives_are_paired top pids acts os runs n e reported
        (receive_kind e receives) in
        let s = pair.0 in
        let each = All-from_recursion (λ (x : ℕ × ℕ). IsFollowing acts os x.0 x.1) (pairs acts os)
        (receives_follow top pids acts os runs).each in
        let follows : IsFollowing acts os n s =
        All_at (λ (x : ℕ × ℕ). IsFollowing acts os x.0 x.1) (pairs acts os) pair.1.0 (n, s)
        (contained (pairs acts os) (n, s) pair.1) each in
        let event : follows.event ≡ e =
        same_Some follows.event e (sym follows.reports ∙ reported) in
        record {
          send = s;
          paired = pair.1;
          follows = follows;
          event = event;
          lifts = subst (λ (x : Event). LiftsClock os x.from x.serial.this s) event
              (followed_sends_lift top pids acts os runs n s follows none);
        }

    -- ONE MESSAGE RECEIVED TWICE

    -- two receives with one sender and one count are one
    one_receive : (p q : Pid) (i j m n : ℕ) (d e : Event) → ReportsEvent acts os p i d m
        → ReportsEvent acts os q j e n
        → is_stamp d ≡ false → is_stamp e ≡ false → e.from ≡ d.from → e.serial.this ≡ d.serial.this
        → (p ≡ q) × (i ≡ j)
    one_receive p q i j m n d e first second is_d is_e from count =
        let a = taken p i d m first is_d in
        let b = taken q j e n second is_e in
        let lifts : LiftsClock os d.from d.serial.this b.send =
        subst (λ x. LiftsClock os x d.serial.this b.send) from
        (subst (λ this. LiftsClock os e.from this b.send) count b.lifts) in
        let send : a.send ≡ b.send =
        lifted_once os d.from d.serial.this a.send b.send a.lifts lifts in
        let paired : Contains (pairs acts os) (m, b.send) =
        subst (λ s. Contains (pairs acts os) (m, s)) send a.paired in
        let once = (receives_follow top (pids_of streams) acts os runs).once in
        let number : m ≡ n = same_receive (pairs acts os) m n b.send once paired b.paired in
        let there : ReportsEvent acts os p i d n =
        subst (ReportsEvent acts os p i d) number first in
        reported_once acts os p q i j n d e there second

    no_repeated : (f : PairFault) → first (repeated streams) streams ≡ Some f → ⊥
    no_repeated f h =
        let x = told_first (repeated streams) streams acts os f shown h in
        let e = x.event in
        let says = reasons.repeated_says streams x.pid x.index e f x.gives in
        let at = says.other in
        let y = told_first (got_rule e.from e.serial.this) streams acts os at shown says.earlier in
        let got = got_says e.from e.serial.this y.pid y.index y.event at y.gives in
        let same =
        one_receive x.pid y.pid x.index y.index x.number y.number e y.event x.reports y.reports
        says.receives
        got.receives got.from got.count in
        let pid : at.0 ≡ x.pid = sym got.pid ∙ sym same.0 in
        let index : at.1 ≡ x.index = sym got.index ∙ sym same.1 in
        let here = and_from (pid_eq at.0 x.pid) (at.1 == x.index)
        (ap (λ q. pid_eq q x.pid) pid ∙ pid_eq-same x.pid) (eq-eqb at.1 x.index index) in
        false≢true (sym says.apart ∙ here)

    -- A RECEIVE THAT DIFFERS FROM ITS SEND

    -- a reported stamp of a receive's sender with its count is its send
    one_send : (p : Pid) (i j m n : ℕ) (d e : Event) → ReportsEvent acts os e.from j d m
        → ReportsEvent acts os p i e n
        → is_stamp d ≡ true → is_stamp e ≡ false → d.serial.this ≡ e.serial.this
        → d ≡ (let f : Event = record e { kind = kind.Send } in f)
    one_send p i j m n d e first second is_d is_e count =
        let q = e.from in
        let b = taken p i e n second is_e in
        let lifts : LiftsClock os q e.serial.this m =
        subst (λ this. LiftsClock os q this m) count (stamp_lifts q j d m first is_d) in
        let send : m ≡ b.send = lifted_once os q e.serial.this m b.send lifts b.lifts in
        let reported : option_and_then (λ (o : Outcome). o.report) (slice_get os b.send) ≡ Some d =
        subst (λ s. option_and_then (λ (o : Outcome). o.report) (slice_get os s) ≡ Some d) send
        first.reports.report in
        reported_sends_agree top (pids_of streams) acts os runs n b.send b.follows d reported
        ∙ ap (λ (x : Event). let f : Event = record x { kind = kind.Send } in f) b.event

    no_mismatch : (f : PairFault) → first (mismatch streams) streams ≡ Some f → ⊥
    no_mismatch f h =
        let x = told_first (mismatch streams) streams acts os f shown h in
        let e = x.event in
        let says = reasons.mismatch_says streams x.pid x.index e f x.gives in
        let g = says.other in
        let found = given_from (own_rule e.serial.this) e.from 0 (events_of streams e.from) g
        says.sent in
        let own = own_says e.serial.this e.from (0 + found.0) found.1 g found.3 in
        let stamps : is_stamp g.1 ≡ true = ap is_stamp (sym own.event) ∙ own.stamps in
        let count : g.1.serial.this ≡ e.serial.this =
        ap (λ (y : Event). y.serial.this) (sym own.event) ∙ own.count in
        let at = stamp_at streams e.from e.serial.this g says.sent in
        let stamp = event_reported acts os e.from g.0 g.1
        (shown_at streams acts os e.from g.0 g.1 shown at) in
        let same =
        one_send x.pid x.index g.0 stamp.0 x.number g.1 e stamp.1 x.reports stamps says.receives
        count in
        false≢true (sym says.differs ∙ ap (λ y. agrees y e) same ∙ send_agrees e)

-- THE TWO STATEMENTS

-- if any reason holds, no acts without a reset show the streams
pub refused_never_shown : (streams : List Stream) (f : PairFault) → refusal streams ≡ Some f
    → NeverShownInOneTrace streams
refused_never_shown streams f h top acts none shows =
    let os = shows.0 in
    elim (reasons.reason_of streams f h) [
      | reasons.ByPrev found ↦ no_prev top streams acts os shows.1 shows.2 f found
      | reasons.ByRising found ↦ no_rising top streams acts os shows.1 shows.2 none f found
      | reasons.ByRepeated found ↦ no_repeated top streams acts os shows.1 shows.2 none f found
      | reasons.ByMismatch found ↦ no_mismatch top streams acts os shows.1 shows.2 none f found
    ]

-- the reason is `PrevNotBefore`
abbrev pub IsPrevNotBefore : PairFault → Type 0
IsPrevNotBefore (fault.PrevNotBefore p i) = Unit {0}
IsPrevNotBefore f = ⊥

-- if the reason is `PrevNotBefore`, which its own rule alone gives, no acts show the streams
pub prev_never_shown : (streams : List Stream) (f : PairFault) → refusal streams ≡ Some f
    → IsPrevNotBefore f
    → NeverShown streams
prev_never_shown streams f h prev top acts shows =
    let os = shows.0 in
    let shown = shows.2 in
    elim (reasons.reason_of streams f h) [
      | reasons.ByPrev found ↦ no_prev top streams acts os shows.1 shown f found
      | reasons.ByRising found ↦
          let x = told_first (not_rising streams) streams acts os f shown found in
          let is = (reasons.rising_says streams x.pid x.index x.event f x.gives).is in
          absurd (subst IsPrevNotBefore (sym is) prev)
      | reasons.ByRepeated found ↦
          let x = told_first (repeated streams) streams acts os f shown found in
          let is = (reasons.repeated_says streams x.pid x.index x.event f x.gives).is in
          absurd (subst IsPrevNotBefore (sym is) prev)
      | reasons.ByMismatch found ↦
          let x = told_first (mismatch streams) streams acts os f shown found in
          let is = (reasons.mismatch_says streams x.pid x.index x.event f x.gives).is in
          absurd (subst IsPrevNotBefore (sym is) prev)
    ]

-- WHAT PAIRING RETURNS

-- a refusal rules out the acts that its reason says
pub refusal_rules_out : (streams : List Stream) (f : PairFault) → refusal streams ≡ Some f
    → RulesOut streams f
refusal_rules_out streams fault.Memory h = tt
refusal_rules_out streams (fault.PrevNotBefore p i) h =
    prev_never_shown streams (fault.PrevNotBefore p i) h tt
refusal_rules_out streams f h = refused_never_shown streams f h

pub answered_rules_out : {T : Type 0} (streams : List Stream) (r : Result T PairFault)
    → IfErr r (IsPairFault streams)
    → IfErr r (RulesOut streams)
answered_rules_out streams (Ok x) h = tt
answered_rules_out streams (Err fault.Memory) h = tt
answered_rules_out streams (Err f) h = refusal_rules_out streams f h
