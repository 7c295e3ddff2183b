-- Each act takes a process's counts and token only from its stamps, from the messages to it, or
-- from a token that it held: so its token keeps an origin that stamps and sends allow.
use Rattle.std.proofs.Common.{◌≡◌, ℕ, ◌+◌, ◌^◌, ◌<◌, ◌≤◌, ◌⊎◌, suc, true, List, [], ◌∷◌, ◌++◌}
use Rattle.std.proofs.Common.{length, max, take, Some, inl, inr, refl, arith, sym, ◌∙◌, ap, subst}
use Rattle.std.proofs.Common.{append-nil}
use Rattle.std.specs.List.{slice_get, AllByRecursion}
use Rattle.std.proofs.lemmas.Bool.{cases_order}
use Rattle.std.proofs.lemmas.Option.{same_Some, none-some}
use Rattle.st_core.specs.declared.types.Label.{Label}
use Rattle.st_core.specs.declared.types.Serial.{Serial}
use Rattle.st_core.specs.declared.types.Token.{Token}
use Rattle.st_core.specs.declared.types.Event.{Event}
use Rattle.st_core.specs.State.{LocalState}
use Rattle.node_machine.specs.Counts.{answer_count, serial_count, stamp_count}
use Rattle.node_machine.specs.Premises.{IsAmong}
use Rattle.node_machine.specs.Given.{fresh}
use Rattle.node_machine.specs.Origins.{Follows, Held, Home, TokenOrigin}
use Rattle.node_machine.specs.ByMessages.{CanBeClock, CanBeHeld, CanBySends, clock_at_zero}
use Rattle.node_machine.specs.ByMessages.{clock_by_answer, clock_by_gift, clock_by_stamp}
use Rattle.node_machine.specs.ByMessages.{gift_put_back, gift_taken, held_by_gift, held_by_stamp}
use Rattle.node_machine.specs.ByMessages.{LabelRule, made_at_answer, made_at_count, made_at_prev}
use Rattle.node_machine.specs.ByMessages.{made_at_zero, MayGive, MayHaveWrapped, Past, SendsTo}
use Rattle.node_machine.specs.ByMessages.{stamp_put_back, token_at_home, token_kept}
use Rattle.node_machine.proofs.Brings.{Brings, Makes, PutsBack, Stamps, Takes}
use Rattle.node_machine.proofs.Counts.{FitsSerial, max_either, next_below, next_of_clock}
use Rattle.node_machine.proofs.Counts.{serial_after, serial_fits, serial_same, stamp_of_serial}
use Rattle.node_machine.proofs.Lists.{all_of, among_at, among_back, among_front, length_push}
use Rattle.node_machine.proofs.Lists.{take_front}

module _ (sent : SendsTo) (rule : LabelRule) (all : List Event) where
  abbrev pub Can : ℕ → TokenOrigin → Type 0
  Can = CanBySends sent rule all

  abbrev pub AreGifts : List Event → Type 0
  AreGifts = AllByRecursion (IsAmong sent.gifts)

  -- COUNTS

  -- n is below 2^59, or a count is so great that a clock may have wrapped
  abbrev pub IsSmall : ℕ → Type 0
  IsSmall n = (n < 2 ^ 59) ⊎ MayHaveWrapped sent all

  small_count : (e : Event) → IsAmong (all ++ (sent.gifts ++ sent.answers)) e
      → (e.serial.this < 2 ^ 55) ⊎ MayHaveWrapped sent all
  small_count e is = elim (cases_order e.serial.this (2 ^ 55)) [
    | inl same ↦ inr (record { event = e; told = is; great = omega arith })
    | inr other ↦ elim other [
      | inl less ↦ inl less
      | inr more ↦ inr (record { event = e; told = is; great = omega arith })
    ]
  ]

  small_event : (e : Event) → IsAmong (all ++ (sent.gifts ++ sent.answers)) e
      → IsSmall e.serial.this
  small_event e is = elim (small_count e is) [
    | inl less ↦ inl (omega arith)
    | inr wraps ↦ inr wraps
  ]

  small_answer : (e : Event) → IsAmong (all ++ (sent.gifts ++ sent.answers)) e
      → IsSmall (answer_count e.serial.this)
  small_answer e is = elim (small_count e is) [
    | inl less ↦ inl (omega arith)
    | inr wraps ↦ inr wraps
  ]

  small_max : (a b : ℕ) → IsSmall a → IsSmall b → IsSmall (max a b)
  small_max a b small_a small_b = elim (max_either a b) [
    | inl left ↦ subst IsSmall (sym left) small_a
    | inr right ↦ subst IsSmall (sym right) small_b
  ]

  told_stamp : (e : Event) → IsAmong all e → IsAmong (all ++ (sent.gifts ++ sent.answers)) e
  told_stamp e is = among_front all (sent.gifts ++ sent.answers) e is

  told_gift : (e : Event) → IsAmong sent.gifts e → IsAmong (all ++ (sent.gifts ++ sent.answers)) e
  told_gift e is = among_back all (sent.gifts ++ sent.answers) e
      (among_front sent.gifts sent.answers e is)

  told_answer : (e : Event) → IsAmong sent.answers e
      → IsAmong (all ++ (sent.gifts ++ sent.answers)) e
  told_answer e is = among_back all (sent.gifts ++ sent.answers) e
      (among_back sent.gifts sent.answers e is)

  clock_more : (es more : List Event) (n : ℕ) → CanBeClock sent es n
      → CanBeClock sent (es ++ more) n
  clock_more es more n (clock_at_zero) = clock_at_zero
  clock_more es more n (clock_by_stamp e is) = clock_by_stamp e (among_front es more e is)
  clock_more es more n (clock_by_gift e is) = clock_by_gift e is
  clock_more es more n (clock_by_answer e is) = clock_by_answer e is

  held_more : (es more taken new : List Event) (x : Serial) → CanBeHeld sent es taken x
      → CanBeHeld sent (es ++ more) (taken ++ new) x
  held_more es more taken new x (made_at_zero) = made_at_zero
  held_more es more taken new x (held_by_stamp e is) = held_by_stamp e (among_front es more e is)
  held_more es more taken new x (held_by_gift e is) = held_by_gift e (among_front taken new e is)
  held_more es more taken new x (made_at_count e is) = made_at_count e (among_front taken new e is)
  held_more es more taken new x (made_at_answer e is) = made_at_answer e is
  held_more es more taken new x (made_at_prev y held) =
      made_at_prev y (held_more es more taken new y held)

  held_by_gifts : (es taken : List Event) (x : Serial) → AreGifts taken
      → CanBeHeld sent es taken x
      → CanBeHeld sent es sent.gifts x
  held_by_gifts es taken x gifts (made_at_zero) = made_at_zero
  held_by_gifts es taken x gifts (held_by_stamp e is) = held_by_stamp e is
  held_by_gifts es taken x gifts (held_by_gift e is) =
      held_by_gift e (all_of (IsAmong sent.gifts) taken e gifts is)
  held_by_gifts es taken x gifts (made_at_count e is) =
      made_at_count e (all_of (IsAmong sent.gifts) taken e gifts is)
  held_by_gifts es taken x gifts (made_at_answer e is) = made_at_answer e is
  held_by_gifts es taken x gifts (made_at_prev y held) =
      made_at_prev y (held_by_gifts es taken y gifts held)

  -- the stamps and messages tell of a token with the serial
  pub record IsTold (es taken : List Event) (x : Serial) : Type 0 where
    held : CanBeHeld sent es taken x
    clock : CanBeClock sent es x.this
    small : IsSmall x.this
    fits : FitsSerial x.this

  pub told_more : (es more taken new : List Event) (x : Serial) → IsTold es taken x
      → IsTold (es ++ more) (taken ++ new) x
  told_more es more taken new x told = record {
    held = held_more es more taken new x told.held;
    clock = clock_more es more x.this told.clock;
    small = told.small;
    fits = told.fits;
  }

  -- the stamps and messages tell the process's counts
  pub record AreKnown (es taken : List Event) (l : LocalState) : Type 0 where
    pub clock : CanBeClock sent es (serial_count l.clock)
    pub small : IsSmall l.clock
    pub last : CanBeHeld sent es taken (fresh l.last)

  pub known_more : (es more taken new : List Event) (l m : LocalState) → m.clock ≡ l.clock
      → m.last ≡ l.last → AreKnown es taken l
      → AreKnown (es ++ more) (taken ++ new) m
  known_more es more taken new l m clock last are = record {
    clock = subst (λ n. CanBeClock sent (es ++ more) (serial_count n)) (sym clock)
        (clock_more es more (serial_count l.clock) are.clock);
    small = subst IsSmall (sym clock) are.small;
    last = subst (λ n. CanBeHeld sent (es ++ more) (taken ++ new) (fresh n)) (sym last)
        (held_more es more taken new (fresh l.last) are.last);
  }

  -- WHICH ORIGINS A HELD TOKEN CAN HAVE

  pub record HeldByGift (x : Serial) (label : Label) (h : TokenOrigin) : Type 0 where
    index : ℕ
    gift : Event
    at : slice_get sent.gifts index ≡ Some gift
    serial : gift.serial ≡ x
    same : gift.label ≡ label
    origin : h ≡ Follows index

  pub record HeldByStamp (n : ℕ) (x : Serial) (label : Label) (h : TokenOrigin) : Type 0 where
    index : ℕ
    before : index < n
    event : Event
    at : slice_get all index ≡ Some event
    serial : event.serial ≡ x
    same : event.label ≡ label
    can : Can index h

  pub record HeldAtHome (n : ℕ) (x : Serial) (label : Label) (h : TokenOrigin) : Type 0 where
    front : List Event
    rest : List Event
    split : all ≡ front ++ rest
    within : length front ≤ n
    taken : List Event
    gifts : AreGifts taken
    own : rule front taken label ≡ true
    held : CanBeHeld sent front taken x
    origin : h ≡ Home

  -- the stamps before index n allow the origin h for a held token with serial x and the label
  abbrev pub CanHold : ℕ → Serial → Label → TokenOrigin → Type 0
  CanHold n x label h = HeldByGift x label h ⊎ (HeldByStamp n x label h ⊎ HeldAtHome n x label h)

  pub hold_later : (m n : ℕ) (x : Serial) (label : Label) (h : TokenOrigin) → m ≤ n
      → CanHold m x label h
      → CanHold n x label h
  hold_later m n x label h le (inl by) = inl by
  hold_later m n x label h le (inr (inl by)) =
      let before = by.before in
      inr (inl (record {
        index = by.index;
        before = omega arith;
        event = by.event;
        at = by.at;
        serial = by.serial;
        same = by.same;
        can = by.can;
      }))
  hold_later m n x label h le (inr (inr by)) =
      let within = by.within in
      inr (inr (record {
        front = by.front;
        rest = by.rest;
        split = by.split;
        within = omega arith;
        taken = by.taken;
        gifts = by.gifts;
        own = by.own;
        held = by.held;
        origin = by.origin;
      }))

  can_succeed : (i : ℕ) (e : Event) (x : Serial) (h : TokenOrigin) → slice_get all i ≡ Some e
      → x.prev ≡ e.serial.prev → e.serial.this ≡ stamp_count x.this → CanHold i x e.label h
      → Can i h
  can_succeed i e x h at prev count (inl by) =
      subst (Can i) (sym by.origin) (gift_put_back i by.index by.gift by.at (record {
        stamp = e;
        is_stamp = at;
        label = by.same;
        prev = ap (λ (y : Serial). y.prev) by.serial ∙ prev;
        count = count ∙ sym (ap (λ (y : Serial). stamp_count y.this) by.serial);
      }))
  can_succeed i e x h at prev count (inr (inl by)) =
      stamp_put_back i by.index h by.event by.before by.at (record {
        stamp = e;
        is_stamp = at;
        label = by.same;
        prev = ap (λ (y : Serial). y.prev) by.serial ∙ prev;
        count = count ∙ sym (ap (λ (y : Serial). stamp_count y.this) by.serial);
      }) by.can
  can_succeed i e x h at prev count (inr (inr by)) =
      subst (Can i) (sym by.origin) (token_at_home i (record {
        stamp = e;
        is_stamp = at;
        front = by.front;
        rest = by.rest;
        split = by.split;
        within = by.within;
        taken = by.taken;
        gifts = by.gifts;
        own = by.own;
        way = inr (x, by.held, prev, count);
      }))

  -- THE TOKEN IN FORCE

  -- the token came with the message that the process took last
  pub record CameLast (clock last : ℕ) (label : Label) (h : TokenOrigin) : Type 0 where
    index : ℕ
    gift : Event
    at : slice_get sent.gifts index ≡ Some gift
    below : gift.serial.this ≤ clock
    count : gift.serial.this ≡ last
    same : gift.label ≡ label
    origin : h ≡ Follows index

  pub record NowAtHome (es : List Event) (label : Label) (h : TokenOrigin) : Type 0 where
    rest : List Event
    split : all ≡ es ++ rest
    taken : List Event
    gifts : AreGifts taken
    own : rule es taken label ≡ true
    origin : h ≡ Home

  -- the last stamp is the request, with the label, and h is allowed for it
  pub record JustStamped (es : List Event) (request : Event) (label : Label)
      (h : TokenOrigin) : Type 0 where
    index : ℕ
    at : slice_get all index ≡ Some request
    behind : length es ≡ suc index
    same : request.label ≡ label
    can : Can index h

  -- the last stamp is a request with the label, and was answered
  pub record JustAnswered (es : List Event) (clock last : ℕ) (label : Label)
      (h : TokenOrigin) : Type 0 where
    request : Event
    just : JustStamped es request label h
    answer : Event
    among : IsAmong sent.answers answer
    sender : request.to ≡ Some answer.from
    lifted : clock ≡ answer_count answer.serial.this
    count : serial_count (answer_count answer.serial.this) ≡ last

  -- after the stamps es the process has a token with serial x, the label and the origin h, and its
  -- counts clock and last lead to the token's successor, or the token came with the last message,
  -- was made or labelled after the last stamp, or was kept in an answer
  pub record IsInForce (es taken : List Event) (clock last : ℕ) (x : Serial) (label : Label)
      (h : TokenOrigin) : Type 0 where
    pub can : CanHold (length es) x label h
    pub told : IsTold es taken x
    pub form : ((x.prev ≡ last) × (stamp_count x.this ≡ stamp_count clock))
        ⊎ (CameLast clock last label h
        ⊎ (NowAtHome es label h ⊎ JustAnswered es clock last label h))

  abbrev pub InForce : List Event → List Event → LocalState → Token → TokenOrigin → Type 0
  InForce es taken l t h = IsInForce es taken l.clock l.last t.serial t.label h

  pub in_force_same : (es taken : List Event) (l m : LocalState) (t u : Token) (h g : TokenOrigin)
      → m.clock ≡ l.clock
      → m.last ≡ l.last → t.serial ≡ u.serial → t.label ≡ u.label → g ≡ h → InForce es taken l t h
      → InForce es taken m u g
  in_force_same es taken l m t u h g clock last serial label origin now =
      subst (λ n. IsInForce es taken n m.last u.serial u.label g) (sym clock)
      (subst (λ n. IsInForce es taken l.clock n u.serial u.label g) (sym last)
      (subst (λ x. IsInForce es taken l.clock l.last x u.label g) serial
      (subst (λ x. IsInForce es taken l.clock l.last t.serial x g) label
      (subst (IsInForce es taken l.clock l.last t.serial t.label) (sym origin) now))))

  taken_more : (es taken new : List Event) (x : Serial) → IsTold es taken x
      → IsTold es (taken ++ new) x
  taken_more es taken new x told =
      subst (λ xs. IsTold xs (taken ++ new) x) (append-nil es) (told_more es [] taken new x told)

  pub in_force_more : (es taken new : List Event) (l : LocalState) (t : Token) (h : TokenOrigin)
      → InForce es taken l t h → InForce es (taken ++ new) l t h
  in_force_more es taken new l t h now = record {
    can = now.can;
    told = taken_more es taken new t.serial now.told;
    form = now.form;
  }

  -- the process's token, if there is one, is in force
  abbrev pub HasTokens : List Event → List Event → LocalState → TokenOrigin → Type 0
  HasTokens es taken l h = (t : Token) → l.token ≡ Some t → InForce es taken l t h

  abbrev pub IsKnown : List Event → List Event → Held → Type 0
  IsKnown es taken x =
      CanHold (length es) x.serial x.label x.origin × IsTold es taken x.serial

  -- the last message's count is below the stamp's, unless a clock may have wrapped
  above_gift : (clock count this : ℕ) → count ≤ clock → this ≡ stamp_count clock → IsSmall clock
      → (count < this) ⊎ MayHaveWrapped sent all
  above_gift clock count this below stamp (inl small) =
      let next = (next_below clock (omega arith)).0 in
      inl (omega arith)
  above_gift clock count this below stamp (inr wraps) = inr wraps

  stamp_can : (es rest taken : List Event) (l : LocalState) (t : Token) (e : Event)
      (h : TokenOrigin) → all ≡ es ++ rest
      → slice_get all (length es) ≡ Some e → e.serial.prev ≡ l.last
      → e.serial.this ≡ stamp_count l.clock → t.label ≡ e.label → AreGifts taken
      → AreKnown es taken l
      → InForce es taken l t h
      → Can (length es) h
  stamp_can es rest taken l t e h split at prev count label gifts are now =
      elim now.form as (λ _. Can (length es) h) [
        | inl own ↦ can_succeed (length es) e t.serial h at (own.0 ∙ sym prev)
            (count ∙ sym own.1)
            (subst (λ x. CanHold (length es) t.serial x h) label now.can)
        | inr (inl by) ↦
            subst (Can (length es)) (sym by.origin) (gift_taken (length es) by.index (record {
              stamp = e;
              is_stamp = at;
              gift = by.gift;
              at = by.at;
              label = by.same ∙ label;
              prev = by.count ∙ sym prev;
              clock = serial_count l.clock;
              shown = subst (λ xs. CanBeClock sent xs (serial_count l.clock))
                  (sym (ap (take (length es)) split ∙ take_front es rest)) are.clock;
              count = count ∙ sym (stamp_of_serial l.clock);
              lifted = above_gift l.clock by.gift.serial.this e.serial.this by.below count
                  are.small;
            }))
        | inr (inr (inl by)) ↦
            subst (Can (length es)) (sym by.origin) (token_at_home (length es) (record {
              stamp = e;
              is_stamp = at;
              front = es;
              rest = by.rest;
              split = by.split;
              within = omega arith;
              taken = by.taken;
              gifts = by.gifts;
              own = subst (λ x. rule es by.taken x ≡ true) label by.own;
              way = inl (
                refl,
                record {
                  last = subst (λ v. CanBeHeld sent es sent.gifts (fresh v)) (sym prev)
                      (held_by_gifts es taken (fresh l.last) gifts are.last);
                  clock = serial_count l.clock;
                  shown = are.clock;
                  count = count ∙ sym (stamp_of_serial l.clock);
                },
              );
            }))
        | inr (inr (inr by)) ↦ token_kept (length es) by.just.index h (record {
          stamp = e;
          is_stamp = at;
          request = by.request;
          at = by.just.at;
          behind = by.just.behind;
          label = by.just.same ∙ label;
          answer = by.answer;
          is_answer = by.among;
          sender = by.sender;
          prev = by.count ∙ sym prev;
          count = count ∙ ap stamp_count by.lifted;
        }) by.just.can
      ]

  -- ONE ACT

  module _ (past : Past) (held : List Held) (rest new : List Event) (l m : LocalState)
      (told : List Event) (now : TokenOrigin)
      (split : all ≡ past.stamped ++ rest)
      (there : (e : Event) → told ≡ e ∷ [] → slice_get all (length past.stamped) ≡ Some e)
      (gifts : AreGifts past.taken)
      (are : AreKnown past.stamped past.taken l)
      (known : AllByRecursion (IsKnown past.stamped past.taken) held)
      (has : HasTokens past.stamped past.taken l past.origin)
      (just : (request : Event) → past.asked ≡ Some request → (t : Token) → l.token ≡ Some t
      → JustStamped past.stamped request t.label past.origin) where
    abbrev pub BringsHere : Type 0
    BringsHere = Brings sent rule past held now new l m told

    abbrev pub before : List Event
    before = past.stamped

    one_only : (d e : Event) → told ≡ d ∷ [] → told ≡ e ∷ [] → d ≡ e
    one_only d e is at =
        same_Some d e (ap (λ (xs : List Event). slice_get xs 0) (sym is ∙ at))

    nothing : (e : Event) → told ≡ [] → told ≡ e ∷ [] → ⊥
    nothing e silent is =
        none-some e (ap (λ (xs : List Event). slice_get xs 0) (sym silent ∙ is))

    stamped_can : (c : Stamps l m told past.origin now) → Can (length before) now
    stamped_can c =
        let had = c.stamp.had in
        subst (Can (length before)) (sym c.origin)
        (stamp_can before rest past.taken l had.0 c.event past.origin split
        (there c.event c.is) c.stamp.prev c.stamp.count had.2 gifts are (has had.0
        had.1))

    only_stamp : BringsHere → (e : Event) → told ≡ e ∷ [] → Stamps l m told past.origin now
    only_stamp (inl c) e is = absurd (nothing e c.silent is)
    only_stamp (inr (inl c)) e is = c
    only_stamp (inr (inr (inl c))) e is = absurd (nothing e c.silent is)
    only_stamp (inr (inr (inr (inl c)))) e is = absurd (nothing e c.silent is)
    only_stamp (inr (inr (inr (inr (inl c))))) e is = absurd (nothing e c.silent is)
    only_stamp (inr (inr (inr (inr (inr c))))) e is = absurd (nothing e c.silent is)

    pub now_can : BringsHere → (e : Event) → told ≡ e ∷ [] → Can (length before) now
    now_can brings e is = stamped_can (only_stamp brings e is)

    silently : (P : List Event → Type 0) → told ≡ [] → P before → P (before ++ told)
    silently P none carried =
        subst (λ r. P (before ++ r)) (sym none) (subst P (sym (append-nil before)) carried)

    abbrev pub HasNext : List Event → Type 0
    HasNext es = HasTokens es (past.taken ++ new) m now

    put_back_can : (c : PutsBack (MayGive rule past) held m told now)
        → CanHold (length before) c.token.serial c.token.label now
    put_back_can c =
        let x = c.after.0 in
        let had = all_of (IsKnown before past.taken) held x known c.after.1 in
        elim c.after.3 as (λ _. CanHold (length before) c.token.serial c.token.label now) [
          | inl same ↦
              subst (λ y. CanHold (length before) y c.token.label now) c.after.2
              (subst (λ y. CanHold (length before) x.serial y now) same.0
              (subst (CanHold (length before) x.serial x.label) (sym same.1) had.0))
          | inr made ↦ inr (inr (record {
            front = before;
            rest = rest;
            split = split;
            within = omega arith;
            taken = past.taken;
            gifts = gifts;
            own = made.1;
            held = subst (CanBeHeld sent before past.taken) c.after.2 had.1.held;
            origin = made.0;
          }))
        ]

    put_back_told : (c : PutsBack (MayGive rule past) held m told now)
        → IsTold before past.taken c.token.serial
    put_back_told c =
        let x = c.after.0 in
        subst (IsTold before past.taken) c.after.2
        (all_of (IsKnown before past.taken) held x known c.after.1).1

    made_told : (c : Makes (MayGive rule past) l m told now) (u : Token) → m.token ≡ Some u
        → IsTold before past.taken u.serial
    made_told c u is = elim (c.made.still.token u is) as (λ _. IsTold before past.taken u.serial) [
      | inl old ↦ subst (IsTold before past.taken) old.2 (has old.0 old.1).told
      | inr made ↦ subst (IsTold before past.taken) (sym made) (record {
        held = are.last;
        clock = clock_at_zero;
        small = inl (omega arith);
        fits = omega arith;
      })
    ]

    stamp_told : (c : Stamps l m told past.origin now) → IsAmong all c.event
    stamp_told c = among_at all (length before) c.event (there c.event c.is)

    stamped_tokens : (c : Stamps l m told past.origin now) → HasNext (before ++ told)
    stamped_tokens c =
        let e = c.event in
        let long = length_push before e in
        subst (λ r. HasNext (before ++ r)) (sym c.is) (λ u is. record {
          can = inr (inl (record {
            index = length before;
            before = omega arith;
            event = e;
            at = there e c.is;
            serial = c.stamp.token u is;
            same = c.stamp.label u is;
            can = stamped_can c;
          }));
          told = subst (IsTold (before ++ e ∷ []) (past.taken ++ new)) (c.stamp.token u is)
              (record {
                held = held_by_stamp e (among_back before (e ∷ []) e (inl refl));
                clock = clock_by_stamp e (among_back before (e ∷ []) e (inl refl));
                small = small_event e (told_stamp e (stamp_told c));
                fits = subst FitsSerial (sym c.stamp.count) (serial_fits (l.clock + 1));
              });
          form = inl (
            sym (ap (λ (y : Serial). y.prev) (c.stamp.token u is)) ∙ c.stamp.prev
                ∙ sym c.stamp.last,
            sym (ap (λ (y : Serial). stamp_count y.this) (c.stamp.token u is))
                ∙ ap stamp_count c.stamp.count ∙ sym (next_of_clock l.clock)
                ∙ ap stamp_count (sym c.stamp.clock),
          );
        })

    took_tokens : (c : Takes sent.gifts new l m told now) → HasNext before
    took_tokens c u is =
        let g = c.gift in
        let here = among_at sent.gifts c.index g c.at in
        let there = subst (λ xs. IsAmong (past.taken ++ xs) g) (sym c.is)
        (among_back past.taken (g ∷ []) g (inl refl)) in
        record {
          can = inl (record {
            index = c.index;
            gift = g;
            at = c.at;
            serial = c.token u is;
            same = c.label u is;
            origin = c.origin;
          });
          told = subst (IsTold before (past.taken ++ new)) (c.token u is) (record {
            held = held_by_gift g there;
            clock = clock_by_gift g here;
            small = small_event g (told_gift g here);
            fits = c.fits;
          });
          form = inr (inl (record {
            index = c.index;
            gift = g;
            at = c.at;
            below = let lifted = c.clock in omega arith;
            count = sym c.last;
            same = c.label u is;
            origin = c.origin;
          }));
        }

    pub next_tokens : BringsHere → HasNext (before ++ told)
    next_tokens (inl c) = silently HasNext c.silent (λ u is.
        let old = c.quiet.token u is in
        in_force_same before (past.taken ++ new) l m old.0 u past.origin now c.quiet.clock
        c.quiet.last old.2 old.3 c.origin
        (in_force_more before past.taken new l old.0 past.origin (has old.0 old.1)))
    next_tokens (inr (inl c)) = stamped_tokens c
    next_tokens (inr (inr (inl c))) = silently HasNext c.silent (took_tokens c)
    next_tokens (inr (inr (inr (inl c)))) = silently HasNext c.silent (λ u is. record {
      can = inr (inr (record {
        front = before;
        rest = rest;
        split = split;
        within = omega arith;
        taken = past.taken;
        gifts = gifts;
        own = c.made.own u is;
        held = (made_told c u is).held;
        origin = c.made.origin;
      }));
      told = taken_more before past.taken new u.serial (made_told c u is);
      form = inr (inr (inl (record {
        rest = rest;
        split = split;
        taken = past.taken;
        gifts = gifts;
        own = c.made.own u is;
        origin = c.made.origin;
      })));
    })
    next_tokens (inr (inr (inr (inr (inl c))))) =
        let here : InForce before (past.taken ++ new) m c.token now = record {
          can = put_back_can c;
          told = taken_more before past.taken new c.token.serial (put_back_told c);
          form = inl (sym c.back.last, ap stamp_count (sym c.back.clock));
        } in
        silently HasNext c.silent (λ u is.
        subst (λ (y : Token). InForce before (past.taken ++ new) m y now)
        (same_Some c.token u (sym c.back.token ∙ is))
        here)
    next_tokens (inr (inr (inr (inr (inr c))))) = silently HasNext c.silent (λ u is.
        let had = has u (sym c.token ∙ is) in
        let kept : InForce before (past.taken ++ new) m u past.origin = record {
          can = had.can;
          told = taken_more before past.taken new u.serial had.told;
          form = inr (inr (inr (record {
            request = c.request;
            just = just c.request c.is_asked u (sym c.token ∙ is);
            answer = c.answer;
            among = c.among;
            sender = c.sender;
            lifted = c.clock;
            count = sym c.last;
          })));
        } in
        subst (λ h. InForce before (past.taken ++ new) m u h) (sym c.origin) kept)

    abbrev pub KnownNext : List Event → Type 0
    KnownNext es = AreKnown es (past.taken ++ new) m

    known_same : m.clock ≡ l.clock → m.last ≡ l.last → KnownNext (before ++ told)
    known_same clock last = known_more before told past.taken new l m clock last are

    stamped_known : (c : Stamps l m told past.origin now) → KnownNext (before ++ told)
    stamped_known c =
        let e = c.event in
        subst (λ r. KnownNext (before ++ r)) (sym c.is) (record {
          clock = subst (CanBeClock sent (before ++ e ∷ []))
              (c.stamp.count ∙ sym (serial_after l.clock) ∙ ap serial_count (sym c.stamp.clock))
              (clock_by_stamp e (among_back before (e ∷ []) e (inl refl)));
          small = elim are.small as (λ _. IsSmall m.clock) [
            | inl less ↦
                let next = next_below l.clock (omega arith) in
                subst IsSmall (c.stamp.count ∙ next.0 ∙ sym next.1 ∙ sym c.stamp.clock)
                (small_event e (told_stamp e (stamp_told c)))
            | inr wraps ↦ inr wraps
          ];
          last = subst (λ n. CanBeHeld sent (before ++ e ∷ []) (past.taken ++ new) (fresh n))
              (sym c.stamp.last)
              (held_more before (e ∷ []) past.taken new (fresh l.last) are.last);
        })

    took_known : (c : Takes sent.gifts new l m told now) → KnownNext before
    took_known c =
        let g = c.gift in
        let here = among_at sent.gifts c.index g c.at in
        let there = subst (λ xs. IsAmong (past.taken ++ xs) g) (sym c.is)
        (among_back past.taken (g ∷ []) g (inl refl)) in
        record {
          clock = elim (max_either l.clock g.serial.this) as
              (λ _. CanBeClock sent before (serial_count m.clock)) [
                | inl left ↦ subst (λ n. CanBeClock sent before (serial_count n))
                    (sym (c.clock ∙ left)) are.clock
                | inr right ↦ subst (CanBeClock sent before)
                    (sym (ap serial_count (c.clock ∙ right) ∙ serial_same g.serial.this c.fits))
                    (clock_by_gift g here)
              ];
          small = subst IsSmall (sym c.clock)
              (small_max l.clock g.serial.this are.small (small_event g (told_gift g here)));
          last = subst (λ n. CanBeHeld sent before (past.taken ++ new) (fresh n)) (sym c.last)
              (made_at_count g there);
        }

    pub next_known : BringsHere → KnownNext (before ++ told)
    next_known (inl c) = known_same c.quiet.clock c.quiet.last
    next_known (inr (inl c)) = stamped_known c
    next_known (inr (inr (inl c))) = silently KnownNext c.silent (took_known c)
    next_known (inr (inr (inr (inl c)))) = known_same c.made.still.clock c.made.still.last
    next_known (inr (inr (inr (inr (inl c))))) =
        let x = taken_more before past.taken new c.token.serial (put_back_told c) in
        silently KnownNext c.silent (record {
          clock = subst (CanBeClock sent before)
              (sym (ap serial_count c.back.clock ∙ serial_same c.token.serial.this x.fits)) x.clock;
          small = subst IsSmall (sym c.back.clock) x.small;
          last = subst (λ n. CanBeHeld sent before (past.taken ++ new) (fresh n)) (sym c.back.last)
              (made_at_prev c.token.serial x.held);
        })
    next_known (inr (inr (inr (inr (inr c))))) = silently KnownNext c.silent (record {
      clock = subst (λ n. CanBeClock sent before (serial_count n)) (sym c.clock)
          (clock_by_answer c.answer c.among);
      small = subst IsSmall (sym c.clock) (small_answer c.answer (told_answer c.answer c.among));
      last = subst (λ n. CanBeHeld sent before (past.taken ++ new) (fresh n)) (sym c.last)
          (made_at_answer c.answer c.among);
    })

    pub next_just : BringsHere → (request : Event) → told ≡ request ∷ [] → (u : Token)
        → m.token ≡ Some u
        → JustStamped (before ++ told) request u.label now
    next_just brings request is u at =
        let c = only_stamp brings request is in
        let e = c.event in
        subst (λ r. JustStamped (before ++ told) r u.label now) (one_only e request c.is is)
        (subst (λ r. JustStamped (before ++ r) e u.label now) (sym c.is) (record {
          index = length before;
          at = there e c.is;
          behind = length_push before e;
          same = c.stamp.label u at;
          can = stamped_can c;
        }))
