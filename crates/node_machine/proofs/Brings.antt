-- Each stamp shows in its report, and each receive in the message that it takes: so an act of a
-- process that reports its stamps is one of six cases.
use Rattle.std.proofs.Common.{◌≡◌, ℕ, ◌⊎◌, ◌&&◌, max, Bool, true, false, cond, List, [], ◌∷◌}
use Rattle.std.proofs.Common.{Option, Some, None, IsSome, inl, inr, refl, ap}
use Rattle.std.specs.List.{slice_get, AllByRecursion}
use Rattle.st_core.specs.declared.types.Pid.{Pid}
use Rattle.st_core.specs.declared.types.Label.{Label}
use Rattle.st_core.specs.declared.types.Token.{Token}
use Rattle.st_core.specs.declared.types.Message.{Message}
use Rattle.st_core.specs.declared.types.Component.{Component}
use Rattle.st_core.specs.declared.types.Kind.TheVariants as kind
use Rattle.st_core.specs.declared.types.Event.{Event}
use Rattle.st_core.specs.declared.types.Act.{Act}
use Rattle.st_core.specs.declared.types.Act.TheVariants as act
use Rattle.st_core.specs.declared.types.Want.TheVariants as want
use Rattle.st_core.specs.State.{LocalState, Process}
use Rattle.st_core.specs.Pick.{pick}
use Rattle.st_core.specs.Report.{token_event}
use Rattle.st_core.specs.Step.{Acted, receives}
use Rattle.st_core.specs.Laws.{moves_token}
use Rattle.node_machine.specs.Counts.{answer_count, node_token, serial_count}
use Rattle.node_machine.specs.Node.{after_set, Answer, Common, machine_act, node_acted, NodeAct}
use Rattle.node_machine.specs.Node.{node_found, seen, takes_answer}
use Rattle.node_machine.specs.Premises.{IsAmong}
use Rattle.node_machine.specs.Origins.{AfterRestore, AfterSet, Follows, Held, TokenOrigin}
use Rattle.node_machine.specs.ByMessages.{AfterAnswer, AfterTake, LabelRule, MayGive, OriginBySends}
use Rattle.node_machine.specs.ByMessages.{Past, SendsTo, message_send, stamp_in, stamps_token}
use Rattle.node_machine.specs.ByMessages.{taken_by}
use Rattle.node_machine.proofs.Carried.{set_moves, SetsLabel}
use Rattle.node_machine.proofs.Counts.{FitsSerial}
use Rattle.node_machine.proofs.Lists.{among_at}
use Rattle.node_machine.proofs.Moves.{emptied, IsBack, IsQuiet, IsStamp, is_plain, plain_stamps}
use Rattle.node_machine.proofs.Moves.{put_back, StampMoves, taken_token, unmoved}

-- no stamp is reported, and the token stays or goes
pub record Stays (l m : LocalState) (told : List Event) (before now : TokenOrigin) : Type 0 where
  pub silent : told ≡ []
  pub quiet : IsQuiet l m
  pub origin : now ≡ before

pub record Stamps (l m : LocalState) (told : List Event) (before now : TokenOrigin) : Type 0 where
  pub event : Event
  pub is : told ≡ event ∷ []
  pub stamp : IsStamp l m (seen false event)
  pub origin : now ≡ before

-- the token comes with the message of a gift
pub record Takes (gifts taken : List Event) (l m : LocalState) (told : List Event)
    (now : TokenOrigin) : Type 0 where
  pub silent : told ≡ []
  pub gift : Event
  pub is : taken ≡ gift ∷ []
  pub index : ℕ
  pub at : slice_get gifts index ≡ Some gift
  pub origin : now ≡ Follows index
  pub fits : FitsSerial gift.serial.this
  pub clock : m.clock ≡ max l.clock gift.serial.this
  pub last : m.last ≡ gift.serial.this
  pub token : (t : Token) → m.token ≡ Some t → gift.serial ≡ t.serial
  pub label : (t : Token) → m.token ≡ Some t → gift.label ≡ t.label

-- a token is made, or its label is set
pub record Makes (Own : Label → Type 0) (l m : LocalState) (told : List Event)
    (now : TokenOrigin) : Type 0 where
  pub silent : told ≡ []
  pub made : SetsLabel Own l m now

pub record PutsBack (Own : Label → Type 0) (held : List Held) (m : LocalState) (told : List Event)
    (now : TokenOrigin) : Type 0 where
  pub silent : told ≡ []
  pub token : Token
  pub back : IsBack token m
  pub after : AfterRestore Own held token now

-- an answer leaves the token as it was
pub record Keeps (answers : List Event) (asked : Option Event) (l m : LocalState)
    (told : List Event) (before now : TokenOrigin) : Type 0 where
  pub silent : told ≡ []
  pub answer : Event
  pub among : IsAmong answers answer
  pub request : Event
  pub is_asked : asked ≡ Some request
  pub sender : request.to ≡ Some answer.from
  pub clock : m.clock ≡ answer_count answer.serial.this
  pub last : m.last ≡ serial_count (answer_count answer.serial.this)
  pub token : m.token ≡ l.token
  pub origin : now ≡ before

module _ (sent : SendsTo) (rule : LabelRule) (past : Past) (held : List Held)
    (now : TokenOrigin) where
  abbrev pub Brings : List Event → LocalState → LocalState → List Event → Type 0
  Brings taken l m told = Stays l m told past.origin now
      ⊎ (Stamps l m told past.origin now
      ⊎ (Takes sent.gifts taken l m told now
      ⊎ (Makes (MayGive rule past) l m told now
      ⊎ (PutsBack (MayGive rule past) held m told now
      ⊎ Keeps sent.answers past.asked l m told past.origin now))))

  stamp_brings : (taken : List Event) (l m : LocalState) (told : Option Event) → StampMoves l m told
      → now ≡ past.origin
      → Brings taken l m (stamp_in told)
  stamp_brings taken l m None quiet same =
      inl (record { silent = refl; quiet = quiet; origin = same })
  stamp_brings taken l m (Some e) stamp same = inr (inl (record {
    event = e;
    is = ap (λ b. cond b [] (e ∷ [])) stamp.kind;
    stamp = stamp;
    origin = same;
  }))

  -- the report of a receive is no stamp
  no_stamp : (b : Bool) (t : Token) (p : Pid) (v : ℕ)
      → stamp_in (cond b (Some (token_event kind.Receive t (Some p) v)) None) ≡ []
  no_stamp true t p v = refl
  no_stamp false t p v = refl

  take_brings : (r : Process) (place : ℕ) (from : Pid) (v : ℕ) (token : Option Token)
      → (let m : Message = record { from = from; value = v; token = token } in
      let done : Acted = receives r (node_found (Some (place, m))) in
      let taken = message_send r.pid (node_found (Some (place, m))) in
      AfterTake sent.gifts taken past.origin now
      → Brings taken r.local done.local (stamp_in done.report))
  take_brings r place from v None same =
      inl (record { silent = refl; quiet = emptied r.local; origin = same })
  take_brings r place from v (Some t) came =
      let take = taken_token r.local r.pid v t in
      inr (inr (inl (record {
        silent = no_stamp (r.local.traced && t.flags.receive) (node_token t) r.pid v;
        gift = token_event kind.Send (node_token t) (Some r.pid) v;
        is = refl;
        index = came.0;
        at = came.1;
        origin = came.2;
        fits = take.fits;
        clock = refl;
        last = refl;
        token = take.token;
        label = take.label;
      })))

  receive_brings : (r : Process) (found : Option (ℕ × Message))
      → (let done : Acted = receives r (node_found found) in
      let taken = message_send r.pid (node_found found) in
      AfterTake sent.gifts taken past.origin now
      → Brings taken r.local done.local (stamp_in done.report))
  receive_brings r None same =
      inl (record { silent = refl; quiet = unmoved r.local; origin = same })
  receive_brings r (Some found) came =
      let m = found.1 in
      take_brings r found.0 m.from m.value m.token came

  answer_brings : (r : Process) (place : ℕ) (from : Pid) (v : ℕ) (token : Option Token)
      → (let m : Message = record { from = from; value = v; token = token } in
      let done : Acted = takes_answer r (node_found (Some (place, m))) in
      AfterAnswer sent.answers past.asked (message_send r.pid (node_found (Some (place, m))))
      past.origin now
      → Brings [] r.local done.local (stamp_in done.report))
  answer_brings r place from v None same =
      inl (record { silent = refl; quiet = unmoved r.local; origin = same })
  answer_brings r place from v (Some t) came = inr (inr (inr (inr (inr (record {
    silent = no_stamp (r.local.traced && t.flags.receive) (node_token t) r.pid v;
    answer = token_event kind.Send (node_token t) (Some r.pid) v;
    among = came.1;
    request = came.2.0;
    is_asked = came.2.1;
    sender = came.2.2;
    clock = refl;
    last = refl;
    token = refl;
    origin = came.0;
  })))))

  answers_bring : (r : Process) (found : Option (ℕ × Message))
      → (let done : Acted = takes_answer r (node_found found) in
      AfterAnswer sent.answers past.asked (message_send r.pid (node_found found)) past.origin now
      → Brings [] r.local done.local (stamp_in done.report))
  answers_bring r None same =
      inl (record { silent = refl; quiet = unmoved r.local; origin = same })
  answers_bring r (Some found) came =
      let m = found.1 in
      answer_brings r found.0 m.from m.value m.token came

  set_brings : (p : Pid) (l : LocalState) (c : Component)
      → AfterSet (MayGive rule past) p l l.token c past.origin now
      → Brings [] l (after_set p c l) []
  set_brings p l c after =
      elim (set_moves (MayGive rule past) past.origin now p l l.token c refl after) as
      (λ _. Brings [] l (after_set p c l) []) [
        | inl kept ↦ inl (record { silent = refl; quiet = kept.0; origin = kept.1 })
        | inr made ↦ inr (inr (inr (inl (record { silent = refl; made = made }))))
      ]

  plain_brings : (a : Act) (r : Process) → is_plain a ≡ true
      → (moves_token r a ≡ true → IsSome (node_acted r (Common a)).report) → now ≡ past.origin
      → (let done = node_acted r (Common a) in
      Brings [] r.local done.local (stamp_in done.report))
  plain_brings a r plain is same =
      let done = node_acted r (Common a) in
      stamp_brings [] r.local done.local done.report (plain_stamps a r plain is) same

  abbrev pub PartBrings : NodeAct → Process → Acted → Type 0
  PartBrings a r done = (stamps_token r (machine_act a) ≡ true → IsSome done.report)
      → OriginBySends sent rule past held r a now
      → Brings (taken_by r a) r.local done.local (stamp_in done.report)

  pub node_brings : (a : NodeAct) (r : Process) → PartBrings a r (node_acted r a)
  node_brings (Answer p place) r is came = answers_bring r (pick (want.Place place) r.queue) came
  node_brings (Common (act.Receive p w)) r is came = receive_brings r (pick w r.queue) came
  node_brings (Common (act.Set p c)) r is after = set_brings r.pid r.local c after
  node_brings (Common (act.Restore p t)) r is after = inr (inr (inr (inr (inl (record {
    token = node_token t;
    silent = refl;
    back = put_back r.local t;
    after = after;
  })))))
  node_brings (Common a) r is same = plain_brings a r refl is same

  -- the send of a taken message is a gift
  gifts_found : (r : Process) (place : ℕ) (from : Pid) (v : ℕ) (token : Option Token)
      → (let m : Message = record { from = from; value = v; token = token } in
      let taken = message_send r.pid (node_found (Some (place, m))) in
      AfterTake sent.gifts taken past.origin now → AllByRecursion (IsAmong sent.gifts) taken)
  gifts_found r place from v None came = tt
  gifts_found r place from v (Some t) came =
      (among_at sent.gifts came.0 (token_event kind.Send (node_token t) (Some r.pid) v) came.1, tt)

  gifts_in : (r : Process) (found : Option (ℕ × Message))
      → (let taken = message_send r.pid (node_found found) in
      AfterTake sent.gifts taken past.origin now → AllByRecursion (IsAmong sent.gifts) taken)
  gifts_in r None came = tt
  gifts_in r (Some found) came =
      let m = found.1 in
      gifts_found r found.0 m.from m.value m.token came

  pub gifts_taken : (a : NodeAct) (r : Process) → OriginBySends sent rule past held r a now
      → AllByRecursion (IsAmong sent.gifts) (taken_by r a)
  gifts_taken (Common (act.Receive p w)) r came = gifts_in r (pick w r.queue) came
  gifts_taken a r came = tt
