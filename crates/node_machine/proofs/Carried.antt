-- An act that is reported if it moves a token is one of six cases, which say what becomes of the
-- token's origin.
use Rattle.std.proofs.Common.{◌≡◌, ℕ, ◌⊎◌, ◌&&◌, Bool, true, false, cond, List, length, Option}
use Rattle.std.proofs.Common.{Some, None, is_some, IsSome, option_map, inl, inr, refl, ◌∙◌, ap}
use Rattle.std.proofs.Common.{subst}
use Rattle.std.specs.Option.{option_map_or}
use Rattle.std.proofs.lemmas.Bool.{false≢true}
use Rattle.std.proofs.lemmas.Option.{same_Some, none-some}
use Rattle.st_core.specs.declared.types.Pid.{Pid}
use Rattle.st_core.specs.declared.types.Label.{Label}
use Rattle.st_core.specs.declared.types.Token.{Token}
use Rattle.st_core.specs.declared.types.Message.{Message}
use Rattle.st_core.specs.declared.types.Component.{Component}
use Rattle.st_core.specs.declared.types.Component.TheVariants as component
use Rattle.st_core.specs.declared.types.Kind.TheVariants as kind
use Rattle.st_core.specs.declared.types.Event.{Event}
use Rattle.st_core.specs.declared.types.Act.{Act}
use Rattle.st_core.specs.declared.types.Act.TheVariants as act
use Rattle.st_core.specs.declared.types.Want.TheVariants as want
use Rattle.st_core.specs.State.{LocalState, Process}
use Rattle.st_core.specs.Local.{received, with_component}
use Rattle.st_core.specs.Pick.{pick}
use Rattle.st_core.specs.Report.{token_event}
use Rattle.st_core.specs.Step.{Acted, receives}
use Rattle.st_core.specs.Laws.{moves_token}
use Rattle.node_machine.specs.Counts.{node_token}
use Rattle.node_machine.specs.Node.{after_answer, after_set, Answer, Common, fresh_token, is_answer}
use Rattle.node_machine.specs.Node.{machine_act, node_acted, node_found, NodeAct, Seen, seen}
use Rattle.node_machine.specs.Node.{takes_answer}
use Rattle.node_machine.specs.Origins.{AfterRestore, AfterSet, Follows, Held, Home, IsOwnLabel}
use Rattle.node_machine.specs.Origins.{TokenOrigin, OriginAfter}
use Rattle.node_machine.proofs.Moves.{answered_token, put_back, taken_token, emptied, IsAnswered}
use Rattle.node_machine.proofs.Moves.{IsBack, IsQuiet, IsStamp, IsStill, IsTake, is_plain}
use Rattle.node_machine.proofs.Moves.{plain_stamps, set_serial, StampMoves, unmoved}

-- A SET

-- a token is made, or its label is set
pub record SetsLabel (Own : Label → Type 0) (l m : LocalState) (now : TokenOrigin) : Type 0 where
  pub still : IsStill l m
  pub origin : now ≡ Home
  pub own : (t : Token) → m.token ≡ Some t → Own t.label

module _ (Own : Label → Type 0) (before now : TokenOrigin) where
  abbrev pub SetMoves : LocalState → LocalState → Type 0
  SetMoves l m = (IsQuiet l m × (now ≡ before)) ⊎ SetsLabel Own l m now

  quiet_set : (l : LocalState) (t u : Token) → l.token ≡ Some t → t.serial ≡ u.serial
      → t.label ≡ u.label → now ≡ before
      → SetMoves l (record l { token = Some u })
  quiet_set l t u had serial label same = inl (
    record {
      clock = refl;
      last = refl;
      token = λ x is.
          let e = same_Some u x is in
          (t, had, serial ∙ ap (λ (y : Token). y.serial) e, label ∙ ap (λ (y : Token). y.label) e);
    },
    same,
  )

  pub set_moves : (p : Pid) (l : LocalState) (token : Option Token) (c : Component)
      → l.token ≡ token
      → AfterSet Own p l token c before now
      → (let made : Token = elim token [ None ↦ fresh_token p l | Some t ↦ t ] in
      SetMoves l (record l { token = Some (with_component c made) }))
  set_moves p l None c had after = inr (record {
    still = record {
      clock = refl;
      last = refl;
      token = λ t is. elim (set_serial p c l None t
          (same_Some (with_component c (fresh_token p l)) t is)) [
            | inl old ↦ absurd (none-some old.0 old.1)
            | inr new ↦ inr new
          ];
    };
    origin = after.0;
    own = λ t is. subst (λ (x : Token). Own x.label)
        (same_Some (with_component c (fresh_token p l)) t is) after.1;
  })
  set_moves p l (Some u) (component.Label x) had after = inr (record {
    still = record {
      clock = refl;
      last = refl;
      token = λ t is.
          let made : Token = with_component (component.Label x) u in
          inl (u, had, ap (λ (y : Token). y.serial) (same_Some made t is));
    };
    origin = after.0;
    own = λ t is.
        let made : Token = with_component (component.Label x) u in
        subst (λ (y : Token). Own y.label) (same_Some made t is) after.1;
  })
  set_moves p l (Some u) c had after = quiet_set l u (with_component c u) had refl refl after

-- nothing is reported, and the token stays or goes
pub record StaysQuiet (l m : LocalState) (told : Option Seen) (before now : TokenOrigin) : Type 0
  where
    pub silent : told ≡ None
    pub quiet : IsQuiet l m
    pub origin : now ≡ before

pub record IsStamped (l m : LocalState) (told : Option Seen) (before now : TokenOrigin) : Type 0
  where
    pub event : Seen
    pub is : told ≡ Some event
    pub stamp : IsStamp l m event
    pub origin : now ≡ before

pub record CameWith (k : ℕ) (l m : LocalState) (told : Option Seen) (now : TokenOrigin) : Type 0
  where
    pub event : Seen
    pub is : told ≡ Some event
    pub take : IsTake l m event
    pub origin : now ≡ Follows k

-- an answer is reported, and the token stays
pub record KeptToken (l m : LocalState) (told : Option Seen) (before now : TokenOrigin) : Type 0
  where
    pub event : Seen
    pub is : told ≡ Some event
    pub answer : IsAnswered l m event
    pub origin : now ≡ before

-- a token is made or its label set, unreported
pub record IsMade (front rest : List Seen) (l m : LocalState) (told : Option Seen)
    (now : TokenOrigin) : Type 0 where
  pub silent : told ≡ None
  pub still : IsStill l m
  pub origin : now ≡ Home
  pub own : (t : Token) → m.token ≡ Some t → IsOwnLabel front rest t.label

pub record CameBack (front rest : List Seen) (held : List Held) (m : LocalState)
    (told : Option Seen) (now : TokenOrigin) : Type 0 where
  pub token : Token
  pub silent : told ≡ None
  pub back : IsBack token m
  pub after : AfterRestore (IsOwnLabel front rest) held token now

abbrev pub Carries : List Seen → List Seen → List Held → LocalState → LocalState → Option Seen
    → TokenOrigin → TokenOrigin
    → Type 0
Carries front rest held l m told before now = StaysQuiet l m told before now
    ⊎ (IsStamped l m told before now
    ⊎ (CameWith (length front) l m told now
    ⊎ (IsMade front rest l m told now
    ⊎ (CameBack front rest held m told now ⊎ KeptToken l m told before now))))

module _ (front rest : List Seen) (held : List Held) (before now : TokenOrigin) where
  abbrev CarriesHere : LocalState → LocalState → Option Seen → Type 0
  CarriesHere l m told = Carries front rest held l m told before now

  stamp_carries : (l m : LocalState) (told : Option Event) → StampMoves l m told → now ≡ before
      → CarriesHere l m (option_map (seen false) told)
  stamp_carries l m None quiet same =
      inl (record { silent = refl; quiet = quiet; origin = same })
  stamp_carries l m (Some e) stamp same =
      inr (inl (record { event = seen false e; is = refl; stamp = stamp; origin = same }))

  abbrev PartCarries : Process → Acted → Bool → Type 0
  PartCarries r done moves = (moves ≡ true → IsSome done.report)
      → now ≡ cond moves (Follows (length front)) before
      → CarriesHere r.local done.local (option_map (seen false) done.report)

  take_carries : (r : Process) (place : ℕ) (from : Pid) (v : ℕ) (token : Option Token)
      → (let m : Message = record { from = from; value = v; token = token } in
      PartCarries r (receives r (node_found (Some (place, m)))) (is_some token))
  take_carries r place from v None is same =
      inl (record { silent = refl; quiet = emptied r.local; origin = same })
  take_carries r place from v (Some t) is same =
      elim (r.local.traced && t.flags.receive) as (λ b.
      (let told : Option Event =
      cond b (Some (token_event kind.Receive (node_token t) (Some r.pid) v)) None in
      IsSome told
      → CarriesHere r.local (received r.local (Some (node_token t)))
      (option_map (seen false) told))) [
        | true ↦ λ is. inr (inr (inl (record {
          event = seen false (token_event kind.Receive (node_token t) (Some r.pid) v);
          is = refl;
          take = taken_token r.local r.pid v t;
          origin = same;
        })))
        | false ↦ λ is. absurd (false≢true is)
      ] (is refl)

  received_carries : (r : Process) (found : Option (ℕ × Message))
      → PartCarries r (receives r (node_found found))
      (option_map_or (λ (x : ℕ × Message). is_some x.1.token) found false)
  received_carries r None is same =
      inl (record { silent = refl; quiet = unmoved r.local; origin = same })
  received_carries r (Some found) is same =
      let m = found.1 in
      take_carries r found.0 m.from m.value m.token is same

  set_carries : (p : Pid) (l : LocalState) (c : Component)
      → AfterSet (IsOwnLabel front rest) p l l.token c before now
      → CarriesHere l (after_set p c l) None
  set_carries p l c after =
      elim (set_moves (IsOwnLabel front rest) before now p l l.token c refl after) as
      (λ _. CarriesHere l (after_set p c l) None) [
        | inl kept ↦ inl (record { silent = refl; quiet = kept.0; origin = kept.1 })
        | inr made ↦ inr (inr (inr (inl (record {
          silent = refl;
          still = made.still;
          origin = made.origin;
          own = made.own;
        }))))
      ]

  plain_carries : (a : Act) (r : Process) → is_plain a ≡ true
      → (moves_token r a ≡ true → IsSome (node_acted r (Common a)).report) → now ≡ before
      → (let done = node_acted r (Common a) in
      CarriesHere r.local done.local (option_map (seen false) done.report))
  plain_carries a r plain is same =
      let done = node_acted r (Common a) in
      stamp_carries r.local done.local done.report (plain_stamps a r plain is) same

  answer_carries : (r : Process) (place : ℕ) (from : Pid) (v : ℕ) (token : Option Token)
      → (let m : Message = record { from = from; value = v; token = token } in
      let done : Acted = takes_answer r (node_found (Some (place, m))) in
      (is_some token ≡ true → IsSome done.report) → now ≡ before
      → CarriesHere r.local done.local (option_map (seen true) done.report))
  answer_carries r place from v None is same =
      inl (record { silent = refl; quiet = unmoved r.local; origin = same })
  answer_carries r place from v (Some t) is same =
      elim (r.local.traced && t.flags.receive) as (λ b.
      (let told : Option Event =
      cond b (Some (token_event kind.Receive (node_token t) (Some r.pid) v)) None in
      IsSome told
      → CarriesHere r.local (after_answer r.local (Some (node_token t)))
      (option_map (seen true) told))) [
        | true ↦ λ is. inr (inr (inr (inr (inr (record {
          event = seen true (token_event kind.Receive (node_token t) (Some r.pid) v);
          is = refl;
          answer = answered_token r.local r.pid v t;
          origin = same;
        })))))
        | false ↦ λ is. absurd (false≢true is)
      ] (is refl)

  answers_carry : (r : Process) (found : Option (ℕ × Message))
      → (let done : Acted = takes_answer r (node_found found) in
      (option_map_or (λ (x : ℕ × Message). is_some x.1.token) found false ≡ true
      → IsSome done.report)
      → now ≡ before
      → CarriesHere r.local done.local (option_map (seen true) done.report))
  answers_carry r None is same =
      inl (record { silent = refl; quiet = unmoved r.local; origin = same })
  answers_carry r (Some found) is same =
      let m = found.1 in
      answer_carries r found.0 m.from m.value m.token is same

  abbrev pub PartCarriesAll : NodeAct → Process → Acted → Type 0
  PartCarriesAll a r done = (moves_token r (machine_act a) ≡ true → IsSome done.report)
      → OriginAfter front rest held r a before now
      → CarriesHere r.local done.local (option_map (seen (is_answer a)) done.report)

  pub node_carries : (a : NodeAct) (r : Process) → PartCarriesAll a r (node_acted r a)
  node_carries (Answer p place) r is after =
      answers_carry r (pick (want.Place place) r.queue) is after
  node_carries (Common (act.Receive p w)) r is after = received_carries r (pick w r.queue) is after
  node_carries (Common (act.Set p c)) r is after = set_carries r.pid r.local c after
  node_carries (Common (act.Restore p t)) r is after = inr (inr (inr (inr (inl (record {
    token = node_token t;
    silent = refl;
    back = put_back r.local t;
    after = after;
  })))))
  node_carries (Common a) r is same = plain_carries a r refl is same
