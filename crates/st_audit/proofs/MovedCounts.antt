-- An item's acts change the counts of its own process alone, to those that its move gives. For a
-- told stamp its report shows it, for another stamp the clock before it, and for a receive its
-- message.
use Rattle.std.proofs.Common.{◌≡◌, ℕ, ◌+◌, ◌<◌, ◌≤◌, ◌⊎◌, max, true, false, ◌==◌, List, Option}
use Rattle.std.proofs.Common.{Some, None, refl, sym, ◌∙◌, ap, subst, arith, get_or, option_and_then}
use Rattle.std.proofs.Common.{position}
use Rattle.std.proofs.lemmas.Bool.{and_parts, eqb-true, false≢true}
use Rattle.std.proofs.lemmas.List.Quantifiers.{position-Some}
use Rattle.std.proofs.lemmas.Option.{same_Some, slice_get-get_or}
use Rattle.st_core.specs.declared.types.Pid.{Pid}
use Rattle.st_core.specs.declared.types.Token.{Token}
use Rattle.st_core.specs.declared.types.Event.{Event}
use Rattle.st_core.specs.declared.types.Flags.{Flags}
use Rattle.st_core.specs.declared.types.Serial.{Serial}
use Rattle.st_core.specs.declared.types.Kind.{Kind}
use Rattle.st_core.specs.declared.types.Kind.TheVariants as kind
use Rattle.st_core.specs.declared.types.Message.{Message}
use Rattle.st_core.specs.declared.types.Act.{Act}
use Rattle.st_core.specs.declared.types.Act.TheVariants as act
use Rattle.st_core.specs.declared.types.Want.TheVariants as want
use Rattle.st_core.specs.Pid.{pid_eq}
use Rattle.st_core.specs.State.{LocalState, Process, State, process}
use Rattle.st_core.specs.Stamp.{stamp_any}
use Rattle.st_core.specs.Local.{received}
use Rattle.st_core.specs.Pick.{pick}
use Rattle.st_core.specs.Report.{report}
use Rattle.st_core.specs.Step.{Acted, Outcome, acted, actor, prints, receives, sends, step}
use Rattle.st_core.specs.Run.{run_from}
use Rattle.st_core.proofs.ForCallers.{mapped}
use Rattle.st_mail.specs.Mail.{bears_stamp}
use Rattle.st_world.specs.World.{place_in}
use Rattle.st_plan.specs.Build.{ready, start_of, state_after}
use Rattle.st_audit.specs.Progress.{is_uncaused}
use Rattle.st_audit.proofs.Counts.{IsNoReset, IsTold, WasActor, WasSame, actor_same, all_risen}
use Rattle.st_audit.proofs.Counts.{others_same, stamp_some, stamp_told, was_same}
use Rattle.st_plan.proofs.ForCallers.{caused_if, is_alone, is_ready, lifted, pick_at, ready_all}
use Rattle.st_audit.proofs.GreaterClocks.{run_wider}

-- between these states q's counts became those of this serial, and no other counts moved
pub record HasMoved (q : Pid) (s : Serial) (count : ℕ) (old new : State) : Type 0 where
  pub others : (x : Pid) (r : Process) → pid_eq x q ≡ false → process new x ≡ Some r
      → WasSame old x r.local
  pub before : (r : Process) → process new q ≡ Some r → Process
  pub is_before : (r : Process) (h : process new q ≡ Some r) → process old q ≡ Some (before r h)
  pub clocked : (r : Process) (h : process new q ≡ Some r)
      → r.local.clock ≡ max (before r h).local.clock s.this
  pub lasted : (r : Process) → process new q ≡ Some r → r.local.last ≡ count

-- THE ACT OF A STAMP

-- the act stamps for p
abbrev pub IsStampOf : Pid → Act → Type 0
IsStampOf p (act.Send q to v) = p ≡ q
IsStampOf p (act.Print q v) = p ≡ q
IsStampOf p a = ⊥

-- the acts that make p ready for the event's serial ran, and then the stamp had this outcome
pub record Stamps (top : ℕ) (old : State) (p : Pid) (e : Event) (end : Outcome) : Type 0 where
  pub before : Process
  pub is_before : process old p ≡ Some before
  pub caused : is_uncaused (start_of before.local) e.serial ≡ false
  pub flags : Flags
  pub outcomes : List Outcome
  pub runs : run_from top old (ready p (start_of before.local) e.label e.serial flags)
      ≡ Some outcomes
  pub stamp : Act
  pub stamps : IsStampOf p stamp
  pub steps : step top (state_after old outcomes) stamp ≡ Some end

stamp_is : (p : Pid) (a : Act) → IsStampOf p a → (actor a ≡ p) × IsNoReset a
stamp_is p (act.Send q x v) h = (sym h, tt)
stamp_is p (act.Print q v) h = (sym h, tt)
stamp_is p a h = absurd h

-- what the stamp made of its process, and what it reported
record WasStamped (top : ℕ) (r : Process) (done : Acted) : Type 0 where
  kind : Kind
  to : Option Pid
  value : ℕ
  local : stamp_any top r.pid r.local ≡ Some done.local
  report : done.report ≡ report r.local.traced kind done.local.token to value

was_stamped : (top : ℕ) (p : Pid) (a : Act) (r : Process) (done : Acted) → IsStampOf p a
    → acted top r a ≡ Some done → WasStamped top r done
was_stamped top p (act.Send q x v) r done h is =
    let parts = mapped (sends r x v) (stamp_any top r.pid r.local) done is in
    subst (WasStamped top r) parts.2 (record {
      kind = kind.Send;
      to = Some x;
      value = v;
      local = parts.1;
      report = refl;
    })
was_stamped top p (act.Print q v) r done h is =
    let parts = mapped (prints r v) (stamp_any top r.pid r.local) done is in
    subst (WasStamped top r) parts.2 (record {
      kind = kind.Print;
      to = None;
      value = v;
      local = parts.1;
      report = refl;
    })
was_stamped top p a r done h is = absurd h

-- a reported stamp has the serial of its event
acted_told : (top : ℕ) (p : Pid) (a : Act) (r : Process) (done : Acted) (e : Event) → IsStampOf p a
    → acted top r a ≡ Some done → done.report ≡ Some e → IsTold r.local done.local e
acted_told top p a r done e h is told =
    let w = was_stamped top p a r done h is in
    stamp_told top r.pid r.local done.local r.local.traced w.kind w.to w.value e w.local
    (sym w.report ∙ told)

-- the clock went up by one, and the last count stayed
record HasStamped (l m : LocalState) : Type 0 where
  pub clocked : m.clock ≡ l.clock + 1
  pub lasted : m.last ≡ l.last

acted_some : (top : ℕ) (p : Pid) (a : Act) (r : Process) (done : Acted) (t : Token) → IsStampOf p a
    → acted top r a ≡ Some done → r.local.token ≡ Some t → HasStamped r.local done.local
acted_some top p a r done t h is some =
    let w = was_stamped top p a r done h is in
    let same = stamp_some top r.pid r.local done.local t some w.local in
    record {
      clocked = ap (λ (l : LocalState). l.clock) same;
      lasted = ap (λ (l : LocalState). l.last) same;
    }

-- WHERE THE STAMP IS REPORTED

pub reported_moves : (top : ℕ) (old : State) (p : Pid) (e : Event) (end : Outcome)
    → Stamps top old p e end
    → end.report ≡ Some e → HasMoved p e.serial e.serial.prev old end.after
reported_moves top old p e end x report =
    let acts = ready p (start_of x.before.local) e.label e.serial x.flags in
    let between = state_after old x.outcomes in
    let risen = all_risen top p old acts x.outcomes
    (ready_all (is_alone p) p (λ t. refl) refl refl (λ n. refl) (start_of x.before.local) e.label
    e.serial x.flags)
    x.runs in
    let by = stamp_is p x.stamp x.stamps in
    let was : (r : Process) → process end.after p ≡ Some r
    → WasActor top between x.stamp end r.local =
    λ r h. actor_same top between x.stamp end x.steps by.1 r (ap (process end.after) by.0 ∙ h) in
    let here : (r : Process) (h : process end.after p ≡ Some r)
    → process between p ≡ Some (was r h).before =
    λ r h. ap (process between) (sym by.0) ∙ (was r h).is_before in
    let serial : (r : Process) (h : process end.after p ≡ Some r)
    → IsTold (was r h).before.local (was r h).done.local e =
    λ r h. acted_told top p x.stamp (was r h).before (was r h).done e x.stamps (was r h).is_done
    (sym (was r h).told ∙ report) in
    record {
      others = λ y r apart h.
          let late = others_same top between x.stamp end x.steps by.1 y r
          (ap (pid_eq y) by.0 ∙ apart) h in
          was_same old between y r.local late (risen.others y late.before apart late.is_before);
      before = λ r h. (risen.own (was r h).before (here r h)).before;
      is_before = λ r h. (risen.own (was r h).before (here r h)).is_before;
      clocked = λ r h.
          let low = (risen.own (was r h).before (here r h)).below in
          let high = (serial r h).rose in
          let this = (serial r h).clocked in
          let same = (was r h).same.clocked in
          omega arith;
      lasted = λ r h. (was r h).same.lasted ∙ (serial r h).lasted;
    }

-- WHERE IT ISN'T

pub caused_by : (l : LocalState) (s : Serial) → is_uncaused (start_of l) s ≡ false
    → (s.prev ≡ l.last) ⊎ (l.clock ≤ s.prev)
caused_by l s h = caused_if s.prev l.last l.clock h

pub hidden_moves : (top : ℕ) (old : State) (p : Pid) (e : Event) (end : Outcome)
    (x : Stamps top old p e end)
    → e.serial.prev < e.serial.this → x.before.local.clock < e.serial.this
    → HasMoved p e.serial e.serial.prev old end.after
hidden_moves top old p e end x rises below =
    let wide = max top e.serial.this in
    let r0 = x.before in
    let between = state_after old x.outcomes in
    let acts = ready p (start_of r0.local) e.label e.serial x.flags in
    let at = is_ready wide p r0.local e.label e.serial x.flags rises (omega arith) below
    (caused_by r0.local e.serial x.caused) in
    let lift = lifted wide p acts old r0 r0.local at.end x.is_before refl at.runs in
    let same : lift.os ≡ x.outcomes = same_Some lift.os x.outcomes
    (sym lift.runs ∙ run_wider top wide (omega arith) old acts x.outcomes x.runs) in
    let state : state_after old lift.os ≡ between = ap (state_after old) same in
    let r1 : Process = record r0 { local = at.end } in
    let here : process between p ≡ Some r1 = ap (λ s. process s p) (sym state) ∙ lift.here in
    let by = stamp_is p x.stamp x.stamps in
    let was : (r : Process) → process end.after p ≡ Some r
    → WasActor top between x.stamp end r.local =
    λ r h. actor_same top between x.stamp end x.steps by.1 r (ap (process end.after) by.0 ∙ h) in
    let is_r1 : (r : Process) (h : process end.after p ≡ Some r)
    → r1 ≡ (was r h).before = λ r h. same_Some r1 (was r h).before
    (sym here ∙ ap (process between) (sym by.0) ∙ (was r h).is_before) in
    let stamped : (r : Process) (h : process end.after p ≡ Some r)
    → HasStamped at.end (was r h).done.local = λ r h.
    acted_some top p x.stamp r1 (was r h).done at.has.token x.stamps
    (ap (λ y. acted top y x.stamp) (is_r1 r h) ∙ (was r h).is_done) at.has.is in
    record {
      others = λ y r apart h.
          let late = others_same top between x.stamp end x.steps by.1 y r
          (ap (pid_eq y) by.0 ∙ apart) h in
          record {
            before = late.before;
            is_before = sym (lift.others y apart) ∙ ap (λ s. process s y) state ∙ late.is_before;
            same = late.same;
          };
      before = λ r h. r0;
      is_before = λ r h. x.is_before;
      clocked = λ r h.
          let last_act = (stamped r h).clocked in
          let ends = at.clocked in
          let equal = (was r h).same.clocked in
          omega arith;
      lasted = λ r h. (was r h).same.lasted ∙ (stamped r h).lasted ∙ at.lasted;
    }

-- A RECEIVE

-- a token that bears a stamp has the stamp's count
bears_count : (from : Pid) (this : ℕ) (token : Option Token) → bears_stamp from this token ≡ true
    → (t : Token) × (token ≡ Some t) × (t.serial.this ≡ this)
bears_count from this None h = absurd (false≢true h)
bears_count from this (Some t) h = (
  t,
  refl,
  eqb-true t.serial.this this
      (and_parts (pid_eq t.from from) (t.serial.this == this) h).1,
)

taken_by : (r : Process) (k : ℕ) (m : Message) (done : Acted) (from : Pid) (this : ℕ)
    → bears_stamp from this m.token ≡ true → receives r (Some (k, m)) ≡ done
    → (done.local.clock ≡ max r.local.clock this) × (done.local.last ≡ this)
taken_by r k m done from this bears is =
    let t = bears_count from this m.token bears in
    let local : received r.local (Some t.0) ≡ done.local =
    ap (received r.local) (sym t.1) ∙ ap (λ (d : Acted). d.local) is in
    let clock = ap (λ (l : LocalState). l.clock) local in
    let count = ap (λ (l : LocalState). l.last) local in
    let same = t.2 in
    (omega arith, omega arith)

pub taken_moves : (top : ℕ) (old : State) (p : Pid) (e : Event) (place : ℕ) (o : Outcome)
    → place_in old p e.from e.serial.this ≡ Some place
    → step top old (act.Receive p (want.Place place)) ≡ Some o
    → HasMoved p e.serial e.serial.this old o.after
taken_moves top old p e place o found_at steps =
    let a = act.Receive p (want.Place place) in
    let this = e.serial.this in
    let test = λ (m : Message). bears_stamp e.from this m.token in
    let any : Message = record { from = p; value = 0; token = None } in
    let was : (r : Process) → process o.after p ≡ Some r → WasActor top old a o r.local =
    λ r h. actor_same top old a o steps tt r h in
    let counts : (r : Process) (h : process o.after p ≡ Some r)
    → ((was r h).done.local.clock ≡ max (was r h).before.local.clock this)
    × ((was r h).done.local.last ≡ this) = λ r h.
    let b = (was r h).before in
    let found : position test b.queue ≡ Some place =
    sym (ap (option_and_then (λ (q : Process). position test q.queue)) (was r h).is_before)
    ∙ found_at in
    let at = position-Some test b.queue place any found in
    let m = get_or b.queue place any in
    let picked : pick (want.Place place) b.queue ≡ Some (place, m) =
    pick_at place b.queue m (slice_get-get_or b.queue place any at.0) in
    taken_by b place m (was r h).done e.from this at.1
    (ap (receives b) (sym picked) ∙ same_Some (receives b (pick (want.Place place) b.queue))
    (was r h).done
    (was r h).is_done) in
    record {
      others = λ y r apart h. others_same top old a o steps tt y r apart h;
      before = λ r h. (was r h).before;
      is_before = λ r h. (was r h).is_before;
      clocked = λ r h. (was r h).same.clocked ∙ (counts r h).0;
      lasted = λ r h. (was r h).same.lasted ∙ (counts r h).1;
    }
