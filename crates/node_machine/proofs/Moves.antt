-- Without a put-back an unreported act leaves the counts, and a reported one is a stamp, a receive
-- or an answer.
use Rattle.std.proofs.Common.{◌≡◌, ◌≢◌, ℕ, ◌⊎◌, ◌&&◌, max, Bool, true, false, cond, Option, Some}
use Rattle.std.proofs.Common.{None, is_some, IsSome, option_map, inl, inr, refl, sym, ◌∙◌, ap}
use Rattle.std.proofs.Common.{subst}
use Rattle.std.specs.Option.{option_map_or}
use Rattle.std.proofs.lemmas.Bool.{false≢true}
use Rattle.std.proofs.lemmas.Option.{same_Some, none-some}
use Rattle.st_core.specs.declared.types.Pid.{Pid}
use Rattle.st_core.specs.declared.types.Token.{Token}
use Rattle.st_core.specs.declared.types.Message.{Message}
use Rattle.st_core.specs.declared.types.Component.{Component}
use Rattle.st_core.specs.declared.types.Component.TheVariants as component
use Rattle.st_core.specs.declared.types.Kind.{Kind}
use Rattle.st_core.specs.declared.types.Kind.TheVariants as kind
use Rattle.st_core.specs.declared.types.Event.{Event}
use Rattle.st_core.specs.declared.types.Act.{Act}
use Rattle.st_core.specs.declared.types.Act.TheVariants as act
use Rattle.st_core.specs.declared.types.Reply.TheVariants as reply
use Rattle.st_core.specs.declared.types.Want.TheVariants as want
use Rattle.st_core.specs.State.{LocalState, Process}
use Rattle.st_core.specs.Local.{has_label, received, with_component}
use Rattle.st_core.specs.Pick.{pick}
use Rattle.st_core.specs.Report.{flag_of, report, token_event}
use Rattle.st_core.specs.Step.{Acted, answers, prints, receives}
use Rattle.st_core.specs.Laws.{moves_token}
use Rattle.node_machine.specs.Counts.{answer_count, next_clock, stamp_count, node_token}
use Rattle.node_machine.specs.Counts.{serial_count}
use Rattle.node_machine.specs.Node.{after_answer, after_put_back, after_stamp, Answer, Common}
use Rattle.node_machine.specs.Node.{fresh_token, is_answer, machine_act, node_acted, node_found}
use Rattle.node_machine.specs.Node.{node_stamped_token, NodeAct, Seen, seen, takes_answer}
use Rattle.node_machine.specs.Node.{token_to_set}
use Rattle.node_machine.specs.Premises.{token_put_back}
use Rattle.node_machine.specs.Readings.{is_receipt}
use Rattle.node_machine.proofs.Counts.{FitsSerial, serial_fits}
use Rattle.node_machine.proofs.Steps.{stamp_either}

-- the counts stay, and a token has the serial of the token before, or of a fresh one
pub record IsStill (l m : LocalState) : Type 0 where
  pub clock : m.clock ≡ l.clock
  pub last : m.last ≡ l.last
  pub token : (t : Token) → m.token ≡ Some t
      → ((u : Token) × (l.token ≡ Some u) × (u.serial ≡ t.serial))
      ⊎ (t.serial ≡ record { prev = l.last; this = 0 })

-- the counts stay, and a token has the serial and the label of the token before
pub record IsQuiet (l m : LocalState) : Type 0 where
  pub clock : m.clock ≡ l.clock
  pub last : m.last ≡ l.last
  pub token : (t : Token) → m.token ≡ Some t
      → (u : Token) × (l.token ≡ Some u) × (u.serial ≡ t.serial) × (u.label ≡ t.label)

-- the stamp e leads from l to m
pub record IsStamp (l m : LocalState) (e : Seen) : Type 0 where
  pub kind : is_receipt e ≡ false
  pub answer : e.answer ≡ false
  pub prev : e.serial.prev ≡ l.last
  pub count : e.serial.this ≡ stamp_count l.clock
  pub clock : m.clock ≡ next_clock l.clock
  pub last : m.last ≡ l.last
  pub token : (t : Token) → m.token ≡ Some t → e.serial ≡ t.serial
  pub label : (t : Token) → m.token ≡ Some t → e.label ≡ t.label
  pub had : (u : Token) × (l.token ≡ Some u) × (u.label ≡ e.label)

-- the receive e leads from l to m
pub record IsTake (l m : LocalState) (e : Seen) : Type 0 where
  pub kind : is_receipt e ≡ true
  pub answer : e.answer ≡ false
  pub fits : FitsSerial e.serial.this
  pub clock : m.clock ≡ max l.clock e.serial.this
  pub last : m.last ≡ e.serial.this
  pub token : (t : Token) → m.token ≡ Some t → e.serial ≡ t.serial
  pub label : (t : Token) → m.token ≡ Some t → e.label ≡ t.label

-- the answer e leads from l to m
pub record IsAnswered (l m : LocalState) (e : Seen) : Type 0 where
  pub kind : is_receipt e ≡ true
  pub answer : e.answer ≡ true
  pub clock : m.clock ≡ answer_count e.serial.this
  pub last : m.last ≡ serial_count (answer_count e.serial.this)
  pub token : m.token ≡ l.token

-- t was put back, and left m
pub record IsBack (t : Token) (m : LocalState) : Type 0 where
  pub fits : FitsSerial t.serial.this
  pub clock : m.clock ≡ t.serial.this
  pub last : m.last ≡ t.serial.prev
  pub token : m.token ≡ Some t

-- how an act changes its actor, by the token that it puts back and by its report
abbrev pub Moves : Option Token → LocalState → LocalState → Option Seen → Type 0
Moves (Some t) l m told = (told ≡ None) × IsBack t m
Moves None l m None = IsStill l m
Moves None l m (Some e) = IsStamp l m e ⊎ (IsTake l m e ⊎ IsAnswered l m e)

abbrev pub StampMoves : LocalState → LocalState → Option Event → Type 0
StampMoves l m None = IsQuiet l m
StampMoves l m (Some e) = IsStamp l m (seen false e)

pub quiet_still : (l m : LocalState) → IsQuiet l m → IsStill l m
quiet_still l m quiet = record {
  clock = quiet.clock;
  last = quiet.last;
  token = λ t is. let old = quiet.token t is in inl (old.0, old.1, old.2);
}

stamp_moves_on : (l m : LocalState) (told : Option Event) → StampMoves l m told
    → Moves None l m (option_map (seen false) told)
stamp_moves_on l m None quiet = quiet_still l m quiet
stamp_moves_on l m (Some e) stamp = inl stamp

pub unmoved : (l : LocalState) → IsQuiet l l
unmoved l = record { clock = refl; last = refl; token = λ t is. (t, is, refl, refl) }

pub emptied : (l : LocalState) → IsQuiet l (record l { token = None })
emptied l = record { clock = refl; last = refl; token = λ t is. absurd (none-some t is) }

-- STAMPS

module _ (l : LocalState) (k : Kind)
    (stamps : (e : Event) → e.kind ≡ k → is_receipt (seen false e) ≡ false)
    (traced : Bool) (to : Option Pid) (v : ℕ) (p : Pid) where
  made_moves : (t : Token) (b : Bool) → l.token ≡ Some t → (let made : LocalState =
      record l { token = Some (node_stamped_token p l t); clock = next_clock l.clock } in
      let told : Option Event =
      cond b (Some (token_event k (node_stamped_token p l t) to v)) None in
      IsSome told → StampMoves l made told)
  made_moves t true had is = record {
    kind = stamps (token_event k (node_stamped_token p l t) to v) refl;
    answer = refl;
    prev = refl;
    count = refl;
    clock = refl;
    last = refl;
    token = λ u at. ap (λ (x : Token). x.serial) (same_Some (node_stamped_token p l t) u at);
    label = λ u at. ap (λ (x : Token). x.label) (same_Some (node_stamped_token p l t) u at);
    had = (t, had, refl);
  }
  made_moves t false had is = absurd (false≢true is)

  pub stamp_moves : (is_some l.token ≡ true
      → IsSome (report traced k (after_stamp p l).token to v))
      → StampMoves l (after_stamp p l) (report traced k (after_stamp p l).token to v)
  stamp_moves = stamp_either (λ (m : LocalState). (is_some l.token ≡ true
      → IsSome (report traced k m.token to v)) → StampMoves l m (report traced k m.token to v)) p l
      (λ none _.
      subst (λ token. StampMoves l l (report traced k token to v)) (sym none) (unmoved l))
      (λ t had is. made_moves t (traced && flag_of k t.flags) had (is (ap is_some had)))

pub no_receive : (k : Kind) → k ≢ kind.Receive → (e : Event) → e.kind ≡ k
    → is_receipt (seen false e) ≡ false
no_receive kind.Receive other e is = absurd (other refl)
no_receive k other e is = rw is refl

-- THE ACTOR'S PART

-- a part of an act that is reported if it moves a token
abbrev pub PartMoves : Option Token → Bool → Process → Acted → Bool → Type 0
PartMoves back answer r done moves = (moves ≡ true → IsSome done.report)
    → Moves back r.local done.local (option_map (seen answer) done.report)

-- a part of a print or a send that is reported if it stamps
abbrev pub PartStamps : Process → Acted → Bool → Type 0
PartStamps r done moves =
    (moves ≡ true → IsSome done.report) → StampMoves r.local done.local done.report

-- whether an act is no receive, no set and no put-back
abbrev pub is_plain : Act → Bool
is_plain (act.Receive p w) = false
is_plain (act.Set p c) = false
is_plain (act.Restore p t) = false
is_plain a = true

pub plain_stamps : (a : Act) (r : Process) → is_plain a ≡ true
    → PartStamps r (node_acted r (Common a)) (moves_token r a)
plain_stamps (act.Send p q v) r plain =
    stamp_moves r.local kind.Send (no_receive kind.Send (λ e. absurd (cc))) r.local.traced
    (Some q) v r.pid
plain_stamps (act.Receive p w) r plain = absurd (false≢true plain)
plain_stamps (act.Print p v) r plain =
    stamp_moves r.local kind.Print (no_receive kind.Print (λ e. absurd (cc))) r.local.traced None
    v r.pid
plain_stamps (act.PrintAt p n v) r plain =
    elim (has_label n r.local.token) as (λ b. has_label n r.local.token ≡ b
    → PartStamps r (cond b (prints r v (after_stamp r.pid r.local))
    (answers r r.local reply.Done)) b) [
      | true ↦ λ has is.
          stamp_moves r.local kind.Print (no_receive kind.Print (λ e. absurd (cc))) r.local.traced
          None v r.pid (λ _. is refl)
      | false ↦ λ _ _. unmoved r.local
    ] refl
plain_stamps (act.Set p c) r plain = absurd (false≢true plain)
plain_stamps (act.Clear p) r plain = λ _. emptied r.local
plain_stamps (act.Restore p t) r plain = absurd (false≢true plain)
plain_stamps a r plain = λ _. unmoved r.local

pub plain_moves : (a : Act) (r : Process) → is_plain a ≡ true
    → PartMoves None false r (node_acted r (Common a)) (moves_token r a)
plain_moves a r plain is =
    let done = node_acted r (Common a) in
    stamp_moves_on r.local done.local done.report (plain_stamps a r plain is)

pub taken_token : (l : LocalState) (p : Pid) (v : ℕ) (t : Token)
    → IsTake l (received l (Some (node_token t)))
    (seen false (token_event kind.Receive (node_token t) (Some p) v))
taken_token l p v t = record {
  kind = refl;
  answer = refl;
  fits = serial_fits t.serial.this;
  clock = refl;
  last = refl;
  token = λ u at. ap (λ (x : Token). x.serial) (same_Some (node_token t) u at);
  label = λ u at. ap (λ (x : Token). x.label) (same_Some (node_token t) u at);
}

pub answered_token : (l : LocalState) (p : Pid) (v : ℕ) (t : Token)
    → IsAnswered l (after_answer l (Some (node_token t)))
    (seen true (token_event kind.Receive (node_token t) (Some p) v))
answered_token l p v t =
    record { kind = refl; answer = refl; clock = refl; last = refl; token = refl }

pub put_back : (l : LocalState) (t : Token) → IsBack (node_token t) (after_put_back t l)
put_back l t =
    record { fits = serial_fits t.serial.this; clock = refl; last = refl; token = refl }

take_moves : (r : Process) (place : ℕ) (from : Pid) (v : ℕ) (token : Option Token)
    → (let m : Message = record { from = from; value = v; token = token } in
    PartMoves None false r (receives r (node_found (Some (place, m)))) (is_some token))
take_moves r place from v None is = quiet_still r.local _ (emptied r.local)
take_moves r place from v (Some t) is =
    elim (r.local.traced && t.flags.receive) as (λ b.
    (let told : Option Event =
    cond b (Some (token_event kind.Receive (node_token t) (Some r.pid) v)) None in
    IsSome told
    → Moves None r.local (received r.local (Some (node_token t))) (option_map (seen false) told))) [
      | true ↦ λ is. inr (inl (taken_token r.local r.pid v t))
      | false ↦ λ is. absurd (false≢true is)
    ] (is refl)

received_moves : (r : Process) (found : Option (ℕ × Message))
    → PartMoves None false r (receives r (node_found found))
    (option_map_or (λ (x : ℕ × Message). is_some x.1.token) found false)
received_moves r None is = quiet_still r.local r.local (unmoved r.local)
received_moves r (Some found) is =
    let m = found.1 in
    take_moves r found.0 m.from m.value m.token is

same_in_set : (c : Component) (t : Token) → (with_component c t).serial ≡ t.serial
same_in_set (component.Label n) t = refl
same_in_set c t = refl

pub set_serial : (p : Pid) (c : Component) (l : LocalState) (token : Option Token)
    → (let made : Token = elim token [ None ↦ fresh_token p l | Some t ↦ t ] in
    (t : Token) → with_component c made ≡ t
    → ((u : Token) × (token ≡ Some u) × (u.serial ≡ t.serial))
    ⊎ (t.serial ≡ record { prev = l.last; this = 0 }))
set_serial p c l None t is =
    inr (ap (λ (x : Token). x.serial) (sym is) ∙ same_in_set c (fresh_token p l))
set_serial p c l (Some u) t is =
    inl (u, refl, sym (same_in_set c u) ∙ ap (λ (x : Token). x.serial) is)

answer_moves : (r : Process) (place : ℕ) (from : Pid) (v : ℕ) (token : Option Token)
    → (let m : Message = record { from = from; value = v; token = token } in
    PartMoves None true r (takes_answer r (node_found (Some (place, m)))) (is_some token))
answer_moves r place from v None is = quiet_still r.local r.local (unmoved r.local)
answer_moves r place from v (Some t) is =
    elim (r.local.traced && t.flags.receive) as (λ b.
    (let told : Option Event =
    cond b (Some (token_event kind.Receive (node_token t) (Some r.pid) v)) None in
    IsSome told
    → Moves None r.local (after_answer r.local (Some (node_token t)))
    (option_map (seen true) told))) [
      | true ↦ λ is. inr (inr (answered_token r.local r.pid v t))
      | false ↦ λ is. absurd (false≢true is)
    ] (is refl)

answers_moves : (r : Process) (found : Option (ℕ × Message))
    → PartMoves None true r (takes_answer r (node_found found))
    (option_map_or (λ (x : ℕ × Message). is_some x.1.token) found false)
answers_moves r None is = quiet_still r.local r.local (unmoved r.local)
answers_moves r (Some found) is =
    let m = found.1 in
    answer_moves r found.0 m.from m.value m.token is

pub node_acted_moves : (a : NodeAct) (r : Process)
    → PartMoves (token_put_back a) (is_answer a) r (node_acted r a) (moves_token r (machine_act a))
node_acted_moves (Answer p place) r = answers_moves r (pick (want.Place place) r.queue)
node_acted_moves (Common (act.Receive p w)) r = received_moves r (pick w r.queue)
node_acted_moves (Common (act.Set p c)) r = λ _. record {
  clock = refl;
  last = refl;
  token = λ t is. set_serial r.pid c r.local r.local.token t
      (same_Some (with_component c (token_to_set r.pid r.local)) t is);
}
node_acted_moves (Common (act.Restore p t)) r = λ _. (refl, put_back r.local t)
node_acted_moves (Common a) r = plain_moves a r refl
