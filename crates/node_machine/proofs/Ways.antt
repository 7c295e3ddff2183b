-- A put-back before several receives leads to no other clock than one right before the last of
-- them: so four ways are enough.
use Rattle.std.proofs.Common.{◌≡◌, ℕ, ◌⊎◌, ◌&&◌, max, Bool, true, false, cond, List, [], ◌∷◌, ◌++◌}
use Rattle.std.proofs.Common.{inl, inr, refl, sym, ◌∙◌, ap, subst, append_assoc, append-nil}
use Rattle.std.specs.List.{AllByRecursion}
use Rattle.st_core.specs.declared.types.Serial.{Serial}
use Rattle.node_machine.specs.Counts.{answer_count, stamp_count, serial_count}
use Rattle.node_machine.specs.Node.{Seen}
use Rattle.node_machine.specs.Premises.{IsAmong}
use Rattle.node_machine.specs.Readings.{clock_behind, is_receipt, last_behind}
use Rattle.node_machine.specs.Given.{fresh, IsGiven, IsPutBack, shown, takes, tokens}
use Rattle.node_machine.specs.Ways.{carried, IsInSomeWay, IsLowered, lasts, lasts_shown}
use Rattle.node_machine.proofs.Counts.{max_either, next_of_zero}
use Rattle.node_machine.proofs.Lists.{among_back, among_front, among_parts}
use Rattle.node_machine.proofs.Readings.{next_parts, next_true}
use Rattle.node_machine.proofs.Tokens.{clock_by_receive, last_by_receive, takes_parts, tokens_more}
use Rattle.node_machine.proofs.Tokens.{tokens_receive}

-- TOKENS

-- a token that was held is one that the events show, or was made
abbrev IsHeldAs : List Seen → Serial → Type 0
IsHeldAs es x = IsAmong (carried es) x ⊎ ((v : ℕ) × IsAmong (lasts es) v × (x ≡ fresh v))

module _ (e : Seen) (rest : List Serial) (more : List ℕ) where
  abbrev shown_as : Bool → Bool → List Serial
  shown_as receive answer = cond receive
      (cond answer (fresh (serial_count (answer_count e.serial.this)) ∷ [])
      (e.serial ∷ fresh e.serial.prev ∷ fresh e.serial.this ∷ []))
      (e.serial ∷ fresh e.serial.prev ∷ [])

  abbrev carried_as : Bool → Bool → List Serial
  carried_as receive answer = cond (receive && answer) rest (e.serial ∷ rest)

  abbrev lasts_as : Bool → Bool → List ℕ
  lasts_as receive answer = cond receive
      (cond answer (serial_count (answer_count e.serial.this) ∷ [])
      (e.serial.prev ∷ e.serial.this ∷ []))
      (e.serial.prev ∷ [])

  abbrev HeldAs : Bool → Bool → Serial → Type 0
  HeldAs receive answer x = IsAmong (carried_as receive answer) x
      ⊎ ((v : ℕ) × IsAmong (lasts_as receive answer ++ more) v × (x ≡ fresh v))

  shown_held : (receive answer : Bool) (x : Serial) → IsAmong (shown_as receive answer) x
      → HeldAs receive answer x
  shown_held true true x (inl is) =
      inr (serial_count (answer_count e.serial.this), inl refl, sym is)
  shown_held true true x (inr is) = absurd is
  shown_held true false x (inl is) = inl (inl is)
  shown_held true false x (inr (inl is)) = inr (e.serial.prev, inl refl, sym is)
  shown_held true false x (inr (inr (inl is))) = inr (e.serial.this, inr (inl refl), sym is)
  shown_held true false x (inr (inr (inr is))) = absurd is
  shown_held false answer x (inl is) = inl (inl is)
  shown_held false answer x (inr (inl is)) = inr (e.serial.prev, inl refl, sym is)
  shown_held false answer x (inr (inr is)) = absurd is

  rest_held : (receive answer : Bool) (x : Serial) → IsAmong rest x
      → IsAmong (carried_as receive answer) x
  rest_held true true x is = is
  rest_held true false x is = inr is
  rest_held false answer x is = inr is

  carried_shown : (receive answer : Bool) (x : Serial)
      → IsAmong (carried_as receive answer) x
      → IsAmong (shown_as receive answer) x ⊎ IsAmong rest x
  carried_shown true true x is = inr is
  carried_shown true false x (inl is) = inl (inl is)
  carried_shown true false x (inr is) = inr is
  carried_shown false answer x (inl is) = inl (inl is)
  carried_shown false answer x (inr is) = inr is

  lasts_shown_fresh : (receive answer : Bool) (v : ℕ)
      → IsAmong (lasts_as receive answer) v
      → IsAmong (shown_as receive answer) (fresh v)
  lasts_shown_fresh true true v (inl is) = inl (ap fresh is)
  lasts_shown_fresh true true v (inr is) = absurd is
  lasts_shown_fresh true false v (inl is) = inr (inl (ap fresh is))
  lasts_shown_fresh true false v (inr (inl is)) = inr (inr (inl (ap fresh is)))
  lasts_shown_fresh true false v (inr (inr is)) = absurd is
  lasts_shown_fresh false answer v (inl is) = inr (inl (ap fresh is))
  lasts_shown_fresh false answer v (inr is) = absurd is

  carried_last : (receive answer : Bool) (x : Serial) → IsAmong (carried_as receive answer) x
      → IsAmong (lasts_as receive answer) x.prev ⊎ IsAmong rest x
  carried_last true true x is = inr is
  carried_last true false x (inl is) = inl (inl (ap (λ (y : Serial). y.prev) is))
  carried_last true false x (inr is) = inr is
  carried_last false answer x (inl is) = inl (inl (ap (λ (y : Serial). y.prev) is))
  carried_last false answer x (inr is) = inr is

held_as : (es : List Seen) (x : Serial) → IsAmong (tokens es) x → IsHeldAs es x
held_as [] x (inl is) = inr (0, inl refl, sym is)
held_as [] x (inr is) = absurd is
held_as (e ∷ es) x is = elim (among_parts (shown e) (tokens es) x is) [
  | inl now ↦ shown_held e (carried es) (lasts es) (is_receipt e) e.answer x now
  | inr later ↦ elim (held_as es x later) [
    | inl old ↦ inl (rest_held e (carried es) (lasts es) (is_receipt e) e.answer x old)
    | inr made ↦ inr (made.0, among_back (lasts_shown e) (lasts es) made.0 made.1, made.2)
  ]
]

pub carried_held : (es : List Seen) (x : Serial) → IsAmong (carried es) x → IsAmong (tokens es) x
carried_held [] x is = absurd is
carried_held (e ∷ es) x is =
    elim (carried_shown e (carried es) (lasts es) (is_receipt e) e.answer x is) [
      | inl now ↦ among_front (shown e) (tokens es) x now
      | inr later ↦ among_back (shown e) (tokens es) x (carried_held es x later)
    ]

pub lasts_held : (es : List Seen) (v : ℕ) → IsAmong (lasts es) v → IsAmong (tokens es) (fresh v)
lasts_held [] v (inl is) = inl (ap fresh is)
lasts_held [] v (inr is) = absurd is
lasts_held (e ∷ es) v is = elim (among_parts (lasts_shown e) (lasts es) v is) [
  | inl now ↦ among_front (shown e) (tokens es) (fresh v)
      (lasts_shown_fresh e (carried es) (lasts es) (is_receipt e) e.answer v now)
  | inr later ↦ among_back (shown e) (tokens es) (fresh v) (lasts_held es v later)
]

carried_lasts : (es : List Seen) (x : Serial) → IsAmong (carried es) x → IsAmong (lasts es) x.prev
carried_lasts [] x is = absurd is
carried_lasts (e ∷ es) x is =
    elim (carried_last e (carried es) (lasts es) (is_receipt e) e.answer x is) [
      | inl now ↦ among_front (lasts_shown e) (lasts es) x.prev now
      | inr later ↦ among_back (lasts_shown e) (lasts es) x.prev (carried_lasts es x later)
    ]

-- the prev of a made token was a last
pub made_last : (es : List Seen) (v : ℕ) → IsAmong (tokens es) (fresh v) → IsAmong (lasts es) v
made_last es v is = elim (held_as es (fresh v) is) [
  | inl shown ↦ carried_lasts es (fresh v) shown
  | inr made ↦ subst (IsAmong (lasts es)) (sym (ap (λ (x : Serial). x.prev) made.2)) made.1
]

-- COUNTS

abbrev pub AreTaken : List Seen → Type 0
AreTaken es = AllByRecursion (λ r. takes r ≡ true) es

-- a put-back and receives after it lead to a clock to which a put-back right before the last
-- receive leads too
pub lower : (es : List Seen) (e : Seen) (clock : ℕ) → e.serial.this ≡ stamp_count clock
    → (front : List Seen) (first : Seen) (back : List Seen) (t : Serial)
    → es ≡ front ++ first ∷ back
    → IsAmong (tokens front) t → AreTaken (first ∷ back)
    → clock ≡ clock_behind t.this (first ∷ back)
    → e.serial.prev ≡ last_behind t.prev (first ∷ back)
    → (token : Serial) × IsLowered es e token
lower es e clock count front first [] t split held all clock_is last_is =
    let parts = takes_parts first all.0 in (
      t,
      record {
        front = front;
        receive = first;
        split = split;
        taken = all.0;
        held = held;
        prev = sym (last_is ∙ last_by_receive first parts.0 parts.1);
        count = count ∙ ap stamp_count (clock_is ∙ clock_by_receive first t.this parts.1);
      },
    )
lower es e clock count front first (d ∷ back) t split held all clock_is last_is =
    let parts = takes_parts first all.0 in
    let lifted = clock_by_receive first t.this parts.1 in
    let longer = split ∙ sym (append_assoc front (first ∷ []) (d ∷ back)) in
    elim (max_either t.this first.serial.this) [
      | inl same ↦
          lower es e clock count (front ++ first ∷ []) d back t longer
          (tokens_more first front t held) all.1
          (clock_is ∙ ap (λ n. clock_behind n (d ∷ back)) (lifted ∙ same)) last_is
      | inr same ↦
          lower es e clock count (front ++ first ∷ []) d back first.serial longer
          (tokens_receive first front parts.0 parts.1) all.1
          (clock_is ∙ ap (λ n. clock_behind n (d ∷ back)) (lifted ∙ same)) last_is
    ]

-- THE WAYS

put_back_ways : (es : List Seen) (e : Seen) (clock : ℕ) → e.serial.this ≡ stamp_count clock
    → (way : IsPutBack es clock e.serial.prev) (back : List Seen) → way.back ≡ back
    → IsInSomeWay es e
put_back_ways es e clock count way [] none =
    let prev : e.serial.prev ≡ way.token.prev =
    way.last_is ∙ ap (last_behind way.token.prev) none in
    let this : clock ≡ way.token.this = way.clock_is ∙ ap (clock_behind way.token.this) none in
    let whole : way.front ≡ es =
    sym (way.split ∙ ap (λ xs. way.front ++ xs) none ∙ append-nil way.front) in
    let held = subst (λ xs. IsAmong (tokens xs) way.token) whole way.held in
    elim (held_as es way.token held) [
      | inl old ↦ inr (inl (record {
        token = way.token;
        held = old;
        prev = sym prev;
        count = count ∙ ap stamp_count this;
      }))
      | inr made ↦
          let zero_count : way.token.this ≡ 0 = ap (λ (x : Serial). x.this) made.2 in
          let same : made.0 ≡ e.serial.prev =
          sym (prev ∙ ap (λ (x : Serial). x.prev) made.2) in
          inr (inr (inl (
            count ∙ ap stamp_count (this ∙ zero_count) ∙ next_of_zero,
            subst (IsAmong (lasts es)) same made.1,
          )))
    ]
put_back_ways es e clock count way (first ∷ back) is =
    inr (inr (inr (lower es e clock count way.front first back way.token
    (way.split ∙ ap (λ xs. way.front ++ xs) is) way.held (subst AreTaken is way.receives)
    (way.clock_is ∙ ap (clock_behind way.token.this) is)
    (way.last_is ∙ ap (last_behind way.token.prev) is))))

pub given_ways : (es : List Seen) (e : Seen) → IsGiven es e → IsInSomeWay es e
given_ways es e given = elim given.way as (λ _. IsInSomeWay es e) [
  | inl plain ↦ inl (record {
    reading = plain.reading;
    reads = plain.reads;
    next = next_true plain.reading.clock (last_behind 0 es) e
        (given.count ∙ ap stamp_count plain.clock_is) plain.last_is;
  })
  | inr way ↦ put_back_ways es e given.clock given.count way way.back refl
]

put_now : (es : List Seen) (e : Seen) (x : Serial) → IsAmong (tokens es) x
    → x.prev ≡ e.serial.prev → e.serial.this ≡ stamp_count x.this → IsGiven es e
put_now es e x held prev count = record {
  clock = x.this;
  count = count;
  way = inr (record {
    front = es;
    back = [];
    split = sym (append-nil es);
    receives = tt;
    token = x;
    held = held;
    clock_is = refl;
    last_is = sym prev;
  });
}

lowered_given : (es : List Seen) (e : Seen) (token : Serial) → IsLowered es e token → IsGiven es e
lowered_given es e token low =
    let parts = takes_parts low.receive low.taken in
    record {
      clock = max token.this low.receive.serial.this;
      count = low.count;
      way = inr (record {
        front = low.front;
        back = low.receive ∷ [];
        split = low.split;
        receives = (low.taken, tt);
        token = token;
        held = low.held;
        clock_is = sym (clock_by_receive low.receive token.this parts.1);
        last_is = sym (last_by_receive low.receive parts.0 parts.1 ∙ low.prev);
      });
    }

pub ways_give : (es : List Seen) (e : Seen) → IsInSomeWay es e → IsGiven es e
ways_give es e (inl plain) =
    let parts = next_parts plain.reading.clock (last_behind 0 es) e plain.next in
    record {
      clock = plain.reading.clock;
      count = parts.0;
      way = inl (record {
        reading = plain.reading;
        reads = plain.reads;
        clock_is = refl;
        last_is = parts.1;
      });
    }
ways_give es e (inr (inl again)) =
    put_now es e again.token (carried_held es again.token again.held) again.prev again.count
ways_give es e (inr (inr (inl new))) =
    put_now es e (fresh e.serial.prev) (lasts_held es e.serial.prev new.1) refl
    (new.0 ∙ sym next_of_zero)
ways_give es e (inr (inr (inr low))) = lowered_given es e low.0 low.1
