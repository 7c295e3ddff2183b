-- Each act keeps the claim that the origin of the process's token is among those that its events
-- allow: so the claim holds at each of its stamps.
use Rattle.std.proofs.Common.{◌≡◌, ◌≢◌, ℕ, ◌+◌, ◌<◌, ◌≤◌, ◌⊎◌, suc, Bool, true, false, List, []}
use Rattle.std.proofs.Common.{◌∷◌, ◌++◌, length, max, take, Option, Some, None, is_some, IsSome}
use Rattle.std.proofs.Common.{option_map, option_to_list, inl, inr, refl, arith, sym, ◌∙◌, ap}
use Rattle.std.proofs.Common.{subst, append_assoc, append-nil, if◌then◌else◌}
use Rattle.std.specs.List.{slice_get, AllByRecursion}
use Rattle.std.specs.Option.{option_map_or}
use Rattle.std.proofs.lemmas.Bool.{false≢true}
use Rattle.std.proofs.lemmas.Option.{same_Some, none-some}
use Rattle.st_core.specs.declared.types.Pid.{Pid}
use Rattle.st_core.specs.declared.types.Label.{Label}
use Rattle.st_core.specs.declared.types.Serial.{Serial}
use Rattle.st_core.specs.declared.types.Token.{Token}
use Rattle.st_core.specs.declared.types.Kind.TheVariants as kind
use Rattle.st_core.specs.declared.types.Event.{Event}
use Rattle.st_core.specs.declared.types.Kind.{Kind}
use Rattle.st_core.specs.Event.{kind_eq}
use Rattle.st_core.specs.declared.types.Act.TheVariants as act
use Rattle.st_core.specs.Pid.{pid_eq}
use Rattle.st_core.specs.State.{LocalState, Process, State, process, zero_state}
use Rattle.st_core.specs.Step.{Outcome}
use Rattle.st_core.proofs.ForCallers.{local_found, local_in, mapped, pid_same, zero_found}
use Rattle.node_machine.specs.Counts.{answer_count, stamp_count, node_token, serial_count}
use Rattle.node_machine.specs.Node.{Common, is_answer, node_actor, node_run, node_run_from, NodeAct}
use Rattle.node_machine.specs.Node.{Seen, seen, seen_by, seen_stream}
use Rattle.node_machine.specs.Premises.{IsAmong, NoNodeReset, ReportsTokens, token_put_back}
use Rattle.node_machine.specs.Readings.{is_receipt}
use Rattle.node_machine.specs.Given.{IsPutBack, IsStraight, tokens}
use Rattle.node_machine.specs.Origins.{answered, AnswersComeNext, Can, Follows, Held, held_in, Home}
use Rattle.node_machine.specs.Origins.{home, IsOwnLabel, TokenOrigin, OriginAfter, OriginsAre}
use Rattle.node_machine.specs.Origins.{origins_told, received, stamped, taken, told_send}
use Rattle.node_machine.proofs.Counts.{next_of_clock}
use Rattle.node_machine.proofs.Lists.{AllAlong, along_at, all_append, all_change, all_of}
use Rattle.node_machine.proofs.Lists.{item_behind, length_more, length_push, take_front}
use Rattle.node_machine.proofs.Steps.{node_run_parts, node_step_parts, of_token, actor_found}
use Rattle.node_machine.proofs.Steps.{actor_same, other_same}
use Rattle.node_machine.proofs.Tokens.{tokens_more}
use Rattle.node_machine.proofs.Givens.{AreTold, IsHeld, no_receive, reached_way, step_moves}
use Rattle.node_machine.proofs.Givens.{step_told, told_same, zero_told}
use Rattle.node_machine.proofs.Carried.{CameBack, Carries, IsStamped, node_carries, PartCarriesAll}

module _ (all : List Seen) where
  -- WHICH ORIGINS A HELD TOKEN CAN HAVE

  -- a receive (or, without receipt, a stamp) of a token with the label
  record HasShown (receipt : Bool) (label : Label) : Type 0 where
    index : ℕ
    event : Seen
    at : slice_get all index ≡ Some event
    kind : is_receipt event ≡ receipt
    own : event.answer ≡ false
    same : event.label ≡ label

  record HeldByReceive (n : ℕ) (x : Serial) (label : Label) (h : TokenOrigin) : Type 0 where
    shown : HasShown true label
    before : shown.index < n
    serial : shown.event.serial ≡ x
    origin : h ≡ Follows shown.index

  record HeldByStamp (n : ℕ) (x : Serial) (label : Label) (h : TokenOrigin) : Type 0 where
    shown : HasShown false label
    before : shown.index < n
    serial : shown.event.serial ≡ x
    can : Can all shown.index h

  record HeldAtHome (n : ℕ) (x : Serial) (label : Label) (h : TokenOrigin) : Type 0 where
    front : List Seen
    rest : List Seen
    split : all ≡ front ++ rest
    within : length front ≤ n
    held : IsAmong (tokens front) x
    own : IsOwnLabel front rest label
    origin : h ≡ Home

  -- the events before index n allow the origin h for a held token with serial x and the label
  abbrev CanHold : ℕ → Serial → Label → TokenOrigin → Type 0
  CanHold n x label h =
      HeldByReceive n x label h ⊎ (HeldByStamp n x label h ⊎ HeldAtHome n x label h)

  can_more : (m n : ℕ) (x : Serial) (label : Label) (h : TokenOrigin) → m ≤ n → CanHold m x label h
      → CanHold n x label h
  can_more m n x label h le (inl by) =
      let before = by.before in
      inl (record {
        shown = by.shown;
        before = omega arith;
        serial = by.serial;
        origin = by.origin;
      })
  can_more m n x label h le (inr (inl by)) =
      let before = by.before in
      inr (inl (record {
        shown = by.shown;
        before = omega arith;
        serial = by.serial;
        can = by.can;
      }))
  can_more m n x label h le (inr (inr by)) =
      let within = by.within in
      inr (inr (record {
        front = by.front;
        rest = by.rest;
        split = by.split;
        within = omega arith;
        held = by.held;
        own = by.own;
        origin = by.origin;
      }))

  can_succeed : (i : ℕ) (e : Seen) (x : Serial) (h : TokenOrigin) → slice_get all i ≡ Some e
      → x.prev ≡ e.serial.prev → e.serial.this ≡ stamp_count x.this → CanHold i x e.label h
      → Can all i h
  can_succeed i e x h at prev count (inl by) =
      let shown = by.shown in
      subst (Can all i) (sym by.origin) (received i shown.index (record {
        stamp = e;
        is_stamp = at;
        event = shown.event;
        at = shown.at;
        before = by.before;
        kind = shown.kind;
        own = shown.own;
        label = shown.same;
        prev = ap (λ (y : Serial). y.prev) by.serial ∙ prev;
        count = count ∙ sym (ap (λ (y : Serial). stamp_count y.this) by.serial);
      }))
  can_succeed i e x h at prev count (inr (inl by)) =
      let shown = by.shown in
      stamped i shown.index h (record {
        stamp = e;
        is_stamp = at;
        event = shown.event;
        at = shown.at;
        before = by.before;
        kind = shown.kind;
        own = shown.own;
        label = shown.same;
        prev = ap (λ (y : Serial). y.prev) by.serial ∙ prev;
        count = count ∙ sym (ap (λ (y : Serial). stamp_count y.this) by.serial);
      }) by.can
  can_succeed i e x h at prev count (inr (inr by)) =
      subst (Can all i) (sym by.origin) (home i (record {
        stamp = e;
        is_stamp = at;
        front = by.front;
        rest = by.rest;
        split = by.split;
        within = by.within;
        own = by.own;
        way = inr (x, by.held, prev, count);
      }))

  -- THE TOKEN IN FORCE

  record LastTaken (es : List Seen) (clock last : ℕ) (label : Label) (h : TokenOrigin) : Type 0
    where
      shown : HasShown true label
      behind : length es ≡ suc shown.index
      clock_before : ℕ
      last_before : ℕ
      way : IsStraight (take shown.index all) clock_before last_before
          ⊎ IsPutBack (take shown.index all) clock_before last_before
      lifted : clock ≡ max clock_before shown.event.serial.this
      count : shown.event.serial.this ≡ last
      origin : h ≡ Follows shown.index

  record NowAtHome (es : List Seen) (label : Label) (h : TokenOrigin) : Type 0 where
    rest : List Seen
    split : all ≡ es ++ rest
    own : IsOwnLabel es rest label
    origin : h ≡ Home

  -- the last event is a stamp with the label, for which h is allowed
  record JustStamped (es : List Seen) (label : Label) (h : TokenOrigin) : Type 0 where
    shown : HasShown false label
    behind : length es ≡ suc shown.index
    can : Can all shown.index h

  -- the last event is an answer, right after a stamp with the label, for which h is allowed
  record JustAnswered (es : List Seen) (clock last : ℕ) (label : Label) (h : TokenOrigin) : Type 0
    where
      shown : HasShown false label
      can : Can all shown.index h
      answer : Seen
      answer_at : slice_get all (suc shown.index) ≡ Some answer
      answers : answer.answer ≡ true
      behind : length es ≡ suc (suc shown.index)
      lifted : clock ≡ answer_count answer.serial.this
      count : serial_count (answer_count answer.serial.this) ≡ last

  -- after the events es the process has a token with serial x, the label and the origin h, and its
  -- counts clock and last lead to the token's successor, or the token came with the last event,
  -- was made or labelled after it, or was kept in an answer
  record IsInForce (es : List Seen) (clock last : ℕ) (x : Serial) (label : Label)
      (h : TokenOrigin) : Type 0 where
    can : CanHold (length es) x label h
    form : ((x.prev ≡ last) × (stamp_count x.this ≡ stamp_count clock))
        ⊎ (LastTaken es clock last label h
        ⊎ (NowAtHome es label h ⊎ JustAnswered es clock last label h))

  abbrev InForce : List Seen → LocalState → Token → TokenOrigin → Type 0
  InForce es l t h = IsInForce es l.clock l.last t.serial t.label h

  in_force_same : (es : List Seen) (l m : LocalState) (t u : Token) (h g : TokenOrigin)
      → m.clock ≡ l.clock
      → m.last ≡ l.last → t.serial ≡ u.serial → t.label ≡ u.label → g ≡ h → InForce es l t h
      → InForce es m u g
  in_force_same es l m t u h g clock last serial label origin now =
      subst (λ n. IsInForce es n m.last u.serial u.label g) (sym clock)
      (subst (λ n. IsInForce es l.clock n u.serial u.label g) (sym last)
      (subst (λ x. IsInForce es l.clock l.last x u.label g) serial
      (subst (λ x. IsInForce es l.clock l.last t.serial x g) label
      (subst (IsInForce es l.clock l.last t.serial t.label) (sym origin) now))))

  -- the process's token, if there is one, is in force
  abbrev HasTokens : List Seen → LocalState → TokenOrigin → Type 0
  HasTokens es l h = (t : Token) → l.token ≡ Some t → InForce es l t h

  abbrev IsKnown : List Seen → Held → Type 0
  IsKnown es x = CanHold (length es) x.serial x.label x.origin × IsHeld es x.serial

  stamp_can : (es : List Seen) (l : LocalState) (t : Token) (e : Seen) (h : TokenOrigin)
      → slice_get all (length es) ≡ Some e → e.serial.prev ≡ l.last
      → e.serial.this ≡ stamp_count l.clock → t.label ≡ e.label → InForce es l t h
      → Can all (length es) h
  stamp_can es l t e h at prev count label now =
      elim now.form as (λ _. Can all (length es) h) [
        | inl own ↦ can_succeed (length es) e t.serial h at (own.0 ∙ sym prev)
            (count ∙ sym own.1)
            (subst (λ x. CanHold (length es) t.serial x h) label now.can)
        | inr (inl by) ↦
            let shown = by.shown in
            subst (Can all (length es)) (sym by.origin) (taken (length es) shown.index (record {
              stamp = e;
              is_stamp = at;
              event = shown.event;
              at = shown.at;
              before = by.behind;
              receive = shown.kind;
              own = shown.own;
              label = shown.same ∙ label;
              clock = by.clock_before;
              last = by.last_before;
              way = by.way;
              prev = by.count ∙ sym prev;
              count = count ∙ ap stamp_count by.lifted;
            }))
        | inr (inr (inr by)) ↦ answered (length es) by.shown.index h (record {
          stamp = e;
          is_stamp = at;
          event = by.shown.event;
          at = by.shown.at;
          kind = by.shown.kind;
          label = by.shown.same ∙ label;
          answer = by.answer;
          answer_at = by.answer_at;
          answers = by.answers;
          behind = by.behind;
          prev = by.count ∙ sym prev;
          count = count ∙ ap stamp_count by.lifted;
        }) by.can
        | inr (inr (inl by)) ↦
            subst (Can all (length es)) (sym by.origin) (home (length es) (record {
              stamp = e;
              is_stamp = at;
              front = es;
              rest = by.rest;
              split = by.split;
              within = omega arith;
              own = subst (IsOwnLabel es by.rest) label by.own;
              way = inl refl;
            }))
      ]

  -- ONE ACT

  module _ (es rest : List Seen) (held : List Held) (l m : LocalState) (told : Option Seen)
      (before now : TokenOrigin)
      (split : all ≡ es ++ rest)
      (there : (e : Seen) → told ≡ Some e → slice_get all (length es) ≡ Some e)
      (tells : AreTold es l) (known : AllByRecursion (IsKnown es) held)
      (has : HasTokens es l before) (sent : Bool)
      (just : sent ≡ true → (t : Token) → l.token ≡ Some t → JustStamped es t.label before)
      (next : (e : Seen) → told ≡ Some e → e.answer ≡ true → sent ≡ true) where
    stamped_can : (c : IsStamped l m told before now) → Can all (length es) now
    stamped_can c =
        let had = c.stamp.had in
        subst (Can all (length es)) (sym c.origin)
        (stamp_can es l had.0 c.event before (there c.event c.is) c.stamp.prev c.stamp.count had.2
        (has had.0 had.1))

    abbrev stamp_shown : (c : IsStamped l m told before now) (u : Token) → m.token ≡ Some u
        → HasShown false u.label
    stamp_shown c u is = record {
      index = length es;
      event = c.event;
      at = there c.event c.is;
      kind = c.stamp.kind;
      own = c.stamp.answer;
      same = c.stamp.label u is;
    }

    only_stamp : Carries es rest held l m told before now → (e : Seen) → told ≡ Some e
        → is_receipt e ≡ false → IsStamped l m told before now
    only_stamp (inl c) e is stamp = absurd (none-some e (sym c.silent ∙ is))
    only_stamp (inr (inl c)) e is stamp = c
    only_stamp (inr (inr (inl c))) e is stamp =
        let same = same_Some c.event e (sym c.is ∙ is) in
        absurd (false≢true (sym (ap is_receipt same ∙ stamp) ∙ c.take.kind))
    only_stamp (inr (inr (inr (inl c)))) e is stamp = absurd (none-some e (sym c.silent ∙ is))
    only_stamp (inr (inr (inr (inr (inl c))))) e is stamp =
        absurd (none-some e (sym c.silent ∙ is))
    only_stamp (inr (inr (inr (inr (inr c))))) e is stamp =
        let same = same_Some c.event e (sym c.is ∙ is) in
        absurd (false≢true (sym (ap is_receipt same ∙ stamp) ∙ c.answer.kind))

    now_can : Carries es rest held l m told before now → (e : Seen) → told ≡ Some e
        → is_receipt e ≡ false
        → Can all (length es) now
    now_can carries e is stamp = stamped_can (only_stamp carries e is stamp)

    silently : told ≡ None → HasTokens es m now → HasTokens (es ++ option_to_list told) m now
    silently none carried =
        subst (λ r. HasTokens (es ++ option_to_list r) m now) (sym none)
        (subst (λ xs. HasTokens xs m now) (sym (append-nil es)) carried)

    put_back_can : (c : CameBack es rest held m told now)
        → CanHold (length es) c.token.serial c.token.label now
    put_back_can c =
        let x = c.after.0 in
        let had = all_of (IsKnown es) held x known c.after.1 in
        elim c.after.3 as (λ _. CanHold (length es) c.token.serial c.token.label now) [
          | inl same ↦
              subst (λ y. CanHold (length es) y c.token.label now) c.after.2
              (subst (λ y. CanHold (length es) x.serial y now) same.0
              (subst (CanHold (length es) x.serial x.label) (sym same.1) had.0))
          | inr made ↦ inr (inr (record {
            front = es;
            rest = rest;
            split = split;
            within = omega arith;
            held = subst (IsHeld es) c.after.2 had.1;
            own = made.1;
            origin = made.0;
          }))
        ]

    next_tokens : Carries es rest held l m told before now
        → HasTokens (es ++ option_to_list told) m now
    next_tokens (inl c) = silently c.silent (λ u is.
        let old = c.quiet.token u is in
        in_force_same es l m old.0 u before now c.quiet.clock c.quiet.last old.2 old.3 c.origin
        (has old.0 old.1))
    next_tokens (inr (inl c)) =
        let e = c.event in
        let long = length_push es e in
        subst (λ r. HasTokens (es ++ option_to_list r) m now) (sym c.is) (λ u is. record {
          can = inr (inl (record {
            shown = stamp_shown c u is;
            before = omega arith;
            serial = c.stamp.token u is;
            can = stamped_can c;
          }));
          form = inl (
            sym (ap (λ (y : Serial). y.prev) (c.stamp.token u is)) ∙ c.stamp.prev
                ∙ sym c.stamp.last,
            sym (ap (λ (y : Serial). stamp_count y.this) (c.stamp.token u is))
                ∙ ap stamp_count c.stamp.count ∙ sym (next_of_clock l.clock)
                ∙ ap stamp_count (sym c.stamp.clock),
          );
        })
    next_tokens (inr (inr (inl c))) =
        let e = c.event in
        let long = length_push es e in
        subst (λ r. HasTokens (es ++ option_to_list r) m now) (sym c.is) (λ u is.
        let receive : HasShown true u.label = record {
          index = length es;
          event = e;
          at = there e c.is;
          kind = c.take.kind;
          own = c.take.answer;
          same = c.take.label u is;
        } in
        record {
          can = inl (record {
            shown = receive;
            before = omega arith;
            serial = c.take.token u is;
            origin = c.origin;
          });
          form = inr (inl (record {
            shown = receive;
            behind = long;
            clock_before = l.clock;
            last_before = l.last;
            way = subst (λ xs. IsStraight xs l.clock l.last ⊎ IsPutBack xs l.clock l.last)
                (sym (ap (take (length es)) split ∙ take_front es rest))
                (reached_way es l.clock l.last tells.reached);
            lifted = c.take.clock;
            count = sym c.take.last;
            origin = c.origin;
          }));
        })
    next_tokens (inr (inr (inr (inl c)))) = silently c.silent (λ u is. record {
      can = inr (inr (record {
        front = es;
        rest = rest;
        split = split;
        within = omega arith;
        held = elim (c.still.token u is) as (λ _. IsHeld es u.serial) [
          | inl old ↦ subst (IsHeld es) old.2 (tells.token old.0 old.1)
          | inr new ↦ subst (IsHeld es) (sym new) tells.last
        ];
        own = c.own u is;
        origin = c.origin;
      }));
      form = inr (inr (inl (record {
        rest = rest;
        split = split;
        own = c.own u is;
        origin = c.origin;
      })));
    })
    next_tokens (inr (inr (inr (inr (inr c))))) =
        let e = c.event in
        let long = length_push es e in
        subst (λ r. HasTokens (es ++ option_to_list r) m now) (sym c.is) (λ u is.
        let was = sym c.answer.token ∙ is in
        let old = has u was in
        let stamp = just (next e c.is c.answer.answer) u was in
        record {
          can = can_more (length es) (length (es ++ e ∷ [])) u.serial u.label now
              (length_more es (e ∷ []))
              (subst (CanHold (length es) u.serial u.label) (sym c.origin) old.can);
          form = inr (inr (inr (record {
            shown = stamp.shown;
            can = subst (Can all stamp.shown.index) (sym c.origin) stamp.can;
            answer = e;
            answer_at = ap (slice_get all) (sym stamp.behind) ∙ there e c.is;
            answers = c.answer.answer;
            behind = long ∙ ap suc stamp.behind;
            lifted = c.answer.clock;
            count = sym c.answer.last;
          })));
        })
    next_tokens (inr (inr (inr (inr (inl c))))) =
        let here : InForce es m c.token now = record {
          can = put_back_can c;
          form = inl (sym c.back.last, ap stamp_count (sym c.back.clock));
        } in
        silently c.silent (λ u is.
        subst (λ (y : Token). InForce es m y now) (same_Some c.token u (sym c.back.token ∙ is))
        here)

    next_just : Carries es rest held l m told before now → (e : Seen) → told ≡ Some e
        → is_receipt e ≡ false
        → (u : Token) → m.token ≡ Some u → JustStamped (es ++ option_to_list told) u.label now
    next_just carries e is stamp u at =
        let c = only_stamp carries e is stamp in
        subst (λ r. JustStamped (es ++ option_to_list r) u.label now) (sym c.is) (record {
          shown = stamp_shown c u at;
          behind = length_push es c.event;
          can = stamped_can c;
        })

  -- RUNS

  abbrev CanIfStamp : ℕ → Seen → TokenOrigin → Type 0
  CanIfStamp n e h = is_receipt e ≡ false → Can all n h

  abbrev AllCan : ℕ → List Seen → List TokenOrigin → Type 0
  AllCan = AllAlong CanIfStamp

  known_more : (es more : List Seen) (held : List Held)
      → ((x : Serial) → IsHeld es x → IsHeld (es ++ more) x)
      → AllByRecursion (IsKnown es) held → AllByRecursion (IsKnown (es ++ more)) held
  known_more es more held change known =
      all_change (IsKnown es) (IsKnown (es ++ more))
      (λ x is. (
        can_more (length es) (length (es ++ more)) x.serial x.label x.origin
            (length_more es more) is.0,
        change x.serial is.1,
      )) held known

  known_told : (es : List Seen) (told : Option Seen) (held : List Held)
      → AllByRecursion (IsKnown es) held
      → AllByRecursion (IsKnown (es ++ option_to_list told)) held
  known_told es None held known =
      subst (λ xs. AllByRecursion (IsKnown xs) held) (sym (append-nil es)) known
  known_told es (Some e) held known = known_more es (e ∷ []) held (tokens_more e es) known

  restored_held : (es rest : List Seen) (held : List Held) (r : Process) (a : NodeAct)
      (before now : TokenOrigin)
      → AllByRecursion (IsKnown es) held → OriginAfter es rest held r a before now → (t : Token)
      → token_put_back a ≡ Some t → IsHeld es t.serial
  restored_held es rest held r (Common (act.Restore p u)) before now known after t is =
      let had = all_of (IsKnown es) held after.0 known after.1 in
      subst (λ (y : Token). IsHeld es y.serial) (same_Some (node_token u) t is)
      (subst (IsHeld es) after.2 had.1)
  restored_held es rest held r a before now known after t is = absurd (none-some t is)

  seen_answer : (a : NodeAct) (o : Outcome) (e : Seen) → seen_by a o ≡ Some e → e.answer ≡ true
      → (sent : Bool)
      → (is_answer a ≡ true → is_some o.report ≡ true → sent ≡ true) → sent ≡ true
  seen_answer a o e is answer sent next =
      let parts = mapped (seen (is_answer a)) o.report e is in
      next (ap (λ (x : Seen). x.answer) parts.2 ∙ answer) (ap is_some parts.1)

  send_kind : (k : Kind) → kind_eq k kind.Send ≡ true → kind_eq k kind.Receive ≡ false
  send_kind kind.Receive is = absurd (false≢true is)
  send_kind k is = refl

  seen_send_by : (answer : Bool) (report : Option Event)
      → option_map_or (λ (e : Event). kind_eq e.kind kind.Send) report false ≡ true
      → (e : Seen) × (option_map (seen answer) report ≡ Some e) × (is_receipt e ≡ false)
  seen_send_by answer None is = absurd (false≢true is)
  seen_send_by answer (Some e) is = (seen answer e, refl, send_kind e.kind is)

  seen_send : (a : NodeAct) (o : Outcome) → told_send o ≡ true
      → (e : Seen) × (seen_by a o ≡ Some e) × (is_receipt e ≡ false)
  seen_send a o is = seen_send_by (is_answer a) o.report is

  can_from : (s : State) (acts : List NodeAct) (os : List Outcome) (hs : List TokenOrigin) (p : Pid)
      (es : List Seen) (held : List Held) (before : TokenOrigin)
      → all ≡ es ++ seen_stream acts os p → node_run_from s acts ≡ Some os → NoNodeReset acts
      → ReportsTokens p s acts os
      → OriginsAre p es held before s acts os hs → AllByRecursion (IsKnown es) held
      → AreTold es (local_in s p)
      → HasTokens es (local_in s p) before → (sent : Bool) → AnswersComeNext p sent acts os
      → (sent ≡ true → (t : Token) → (local_in s p).token ≡ Some t → JustStamped es t.label before)
      → AllCan (length es) (seen_stream acts os p) (origins_told acts os hs p)
  can_from s [] os hs p es held before split h none told are known tells has sent next_of just = tt
  can_from s (a ∷ acts) [] hs p es held before split h none told are known tells has sent next_of
      just = tt
  can_from s (a ∷ acts) (o ∷ os) [] p es held before split h none told are known tells has sent
      next_of just = absurd are
  can_from s (a ∷ acts) (o ∷ os) (now ∷ hs) p es held before split h none told are known tells has
      sent next_of just =
      let run = node_run_parts s a acts (o ∷ os) h in
      let x = node_step_parts s a o run.0 in
      let tail = seen_stream acts os p in
      let later = origins_told acts os hs p in
      let holds = held ++ held_in s p before in
      let have : AllByRecursion (IsKnown es) holds =
      all_append (IsKnown es) held (held_in s p before) known
      (of_token (IsKnown es) (λ (t : Token). let y : Held =
      record { serial = t.serial; label = t.label; origin = before } in y) (process s p)
      (λ t is. ((has t is).can, tells.token t is))) in
      let rest = seen_stream (a ∷ acts) (o ∷ os) p in
      elim (pid_eq (node_actor a) p) as (λ b. pid_eq (node_actor a) p ≡ b
      → all ≡ es ++ ((if b then option_to_list (seen_by a o) else []) ++ tail)
      → OriginsAre p (es ++ (if b then option_to_list (seen_by a o) else [])) holds now o.after acts
      os hs
      → AnswersComeNext p (if b then told_send o else sent) acts os
      → AllCan (length es) ((if b then option_to_list (seen_by a o) else []) ++ tail)
      ((if b then option_to_list (option_map (λ _. now) (seen_by a o)) else []) ++ later)) [
        | true ↦ λ mine here are_later nexts_later.
            let who = pid_same (node_actor a) p mine in
            let found = actor_found s a o x none.0 p mine in
            let was = subst (AreTold es) (ap local_found found) tells in
            let had = subst (λ l. HasTokens es l before) (ap local_found found) has in
            let after = are.0 who x.before found in
            let moves = step_moves s a o x none.0 p mine told.0 in
            let same : x.done.report ≡ o.report = ap (λ (y : Outcome). y.report) x.is_outcome in
            let carries : Carries es rest holds x.before.local x.done.local (seen_by a o) before
            now =
            subst (λ r. Carries es rest holds x.before.local x.done.local
            (option_map (seen (is_answer a)) r) before now) same
            (subst (PartCarriesAll es rest holds before now a x.before) x.is_done
            (node_carries es rest holds before now a x.before)
            (λ moved. subst IsSome (sym same) (told.0 who x.before found moved)) after) in
            let there : (e : Seen) → seen_by a o ≡ Some e → slice_get all (length es) ≡ Some e =
            λ e is. ap (λ ys. slice_get ys (length es))
            (here ∙ ap (λ r. es ++ (option_to_list r ++ tail)) is) ∙ item_behind es tail e in
            let just_before : sent ≡ true → (u : Token) → x.before.local.token ≡ Some u
            → JustStamped es u.label before =
            λ yes u is. just yes u (ap (λ y. (local_found y).token) found ∙ is) in
            let right_behind : (e : Seen) → seen_by a o ≡ Some e → e.answer ≡ true
            → sent ≡ true =
            λ e is answer. seen_answer a o e is answer sent (next_of.0 who) in
            let next = next_tokens es rest holds x.before.local x.done.local (seen_by a o) before
            now
            split there was have had sent just_before right_behind carries in
            let next_there : HasTokens (es ++ option_to_list (seen_by a o)) (local_in o.after p)
            now =
            (let to = actor_same s a o x none.0 p mine in λ u is.
            in_force_same (es ++ option_to_list (seen_by a o)) x.done.local (local_in o.after p) u u
            now
            now to.clock to.last refl refl refl (next u (sym to.token ∙ is))) in
            let next_told = step_told s a o x none.0 p es mine moves
            (restored_held es rest holds x.before a before now have after) was in
            let next_known = known_told es (seen_by a o) holds have in
            let just_later : told_send o ≡ true → (u : Token) → (local_in o.after p).token ≡ Some u
            → JustStamped (es ++ option_to_list (seen_by a o)) u.label now =
            λ yes u is.
            let sends = seen_send a o yes in
            next_just es rest holds x.before.local x.done.local (seen_by a o) before now
            split there was have had sent just_before right_behind carries sends.0 sends.1 sends.2 u
            (sym (actor_same s a o x none.0 p mine).token ∙ is) in
            let rest_can = can_from o.after acts os hs p
            (es ++ option_to_list (seen_by a o)) holds now
            (here ∙ sym (append_assoc es (option_to_list (seen_by a o)) tail)) run.1 none.1 told.1
            are_later next_known next_told next_there (told_send o) nexts_later just_later in
            let now_here = now_can es rest holds x.before.local x.done.local (seen_by a o) before
            now
            split there was have had sent just_before right_behind carries in
            elim (seen_by a o) as (λ r. ((e : Seen) → r ≡ Some e → is_receipt e ≡ false
            → Can all (length es) now)
            → AllCan (length (es ++ option_to_list r)) tail later
            → AllCan (length es) (option_to_list r ++ tail)
            (option_to_list (option_map (λ _. now) r) ++ later)) [
              | None ↦ λ can rest_can.
                  subst (λ xs. AllCan (length xs) tail later) (append-nil es) rest_can
              | Some e ↦ λ can rest_can.
                  (can e refl, subst (λ n. AllCan n tail later) (length_push es e) rest_can)
            ] now_here rest_can
        | false ↦ λ other here are_later nexts_later.
            let to = other_same s a o x none.0 p other in
            can_from o.after acts os hs p es holds now here run.1 none.1 told.1
            (subst (λ xs. OriginsAre p xs holds now o.after acts os hs) (append-nil es) are_later)
            have
            (told_same es (local_in s p) (local_in o.after p) to tells)
            (λ u is. in_force_same es (local_in s p) (local_in o.after p) u u before now to.clock
            to.last refl refl (are.1 other) (has u (sym to.token ∙ is))) sent nexts_later
            (λ yes u is. subst (JustStamped es u.label) (sym (are.1 other))
            (just yes u (sym to.token ∙ is)))
      ] refl split are.2 next_of.1

pub origins_can : (pids : List Pid) (acts : List NodeAct) (os : List Outcome)
    → node_run pids acts ≡ Some os → NoNodeReset acts → (p : Pid)
    → ReportsTokens p (zero_state pids) acts os → (hs : List TokenOrigin)
    → OriginsAre p [] [] Home (zero_state pids) acts os hs → AnswersComeNext p false acts os
    → (i : ℕ) (e : Seen) (h : TokenOrigin)
    → slice_get (seen_stream acts os p) i ≡ Some e → e.kind ≢ kind.Receive
    → slice_get (origins_told acts os hs p) i ≡ Some h
    → Can (seen_stream acts os p) i h
origins_can pids acts os run none p tells hs origins nexts i e h at other is =
    let all = seen_stream acts os p in
    let empty : HasTokens all [] (local_in (zero_state pids) p) Home =
    (λ t is. absurd (none-some t
    (sym (ap (λ (l : LocalState). l.token) (zero_found pids p)) ∙ is))) in
    let whole = can_from all (zero_state pids) acts os hs p [] [] Home refl run none tells
    origins tt (subst (AreTold []) (sym (zero_found pids p)) zero_told) empty false nexts
    (λ yes. absurd (false≢true yes)) in
    let found = along_at (CanIfStamp all) 0 all (origins_told acts os hs p) i e h whole at is
    (no_receive e other) in
    let same : 0 + i ≡ i = omega arith in
    subst (λ k. Can all k h) same found
