-- One event more adds the serials that it shows, and moves the counts on by what it shows.
use Rattle.std.proofs.Common.{◌≡◌, ℕ, ◌⊎◌, max, not, Bool, true, false, cond, List, [], ◌∷◌, ◌++◌}
use Rattle.std.proofs.Common.{inl, inr, refl, sym, ◌∙◌, ap, subst}
use Rattle.std.proofs.lemmas.Bool.{and_parts}
use Rattle.st_core.specs.declared.types.Serial.{Serial}
use Rattle.st_core.proofs.ForCallers.{both_true, not_true}
use Rattle.node_machine.specs.Counts.{answer_count, serial_count}
use Rattle.node_machine.specs.Node.{Seen}
use Rattle.node_machine.specs.Premises.{IsAmong}
use Rattle.node_machine.specs.Readings.{clock_behind, clock_by, is_receipt, last_behind, last_by}
use Rattle.node_machine.specs.Given.{fresh, shown, takes, tokens}
use Rattle.node_machine.proofs.Lists.{among_back, among_front, among_parts}

-- HELD SERIALS

module _ (e : Seen) where
  pub tokens_more : (es : List Seen) (x : Serial) → IsAmong (tokens es) x
      → IsAmong (tokens (es ++ e ∷ [])) x
  tokens_more [] x is = among_back (shown e) (fresh 0 ∷ []) x is
  tokens_more (d ∷ es) x is = elim (among_parts (shown d) (tokens es) x is) [
    | inl front ↦ among_front (shown d) (tokens (es ++ e ∷ [])) x front
    | inr back ↦ among_back (shown d) (tokens (es ++ e ∷ [])) x (tokens_more es x back)
  ]

  pub tokens_new : (es : List Seen) (x : Serial) → IsAmong (shown e) x
      → IsAmong (tokens (es ++ e ∷ [])) x
  tokens_new [] x is = among_front (shown e) (fresh 0 ∷ []) x is
  tokens_new (d ∷ es) x is = among_back (shown d) (tokens (es ++ e ∷ [])) x (tokens_new es x is)

  pub tokens_parts : (es : List Seen) (x : Serial) → IsAmong (tokens (es ++ e ∷ [])) x
      → IsAmong (shown e) x ⊎ IsAmong (tokens es) x
  tokens_parts [] x is = among_parts (shown e) (fresh 0 ∷ []) x is
  tokens_parts (d ∷ es) x is =
      elim (among_parts (shown d) (tokens (es ++ e ∷ [])) x is) [
        | inl now ↦ inr (among_front (shown d) (tokens es) x now)
        | inr later ↦ elim (tokens_parts es x later) [
          | inl new ↦ inl new
          | inr old ↦ inr (among_back (shown d) (tokens es) x old)
        ]
      ]

  abbrev shown_by : Bool → Bool → List Serial
  shown_by receive answer = cond receive
      (cond answer (fresh (serial_count (answer_count e.serial.this)) ∷ [])
      (e.serial ∷ fresh e.serial.prev ∷ fresh e.serial.this ∷ []))
      (e.serial ∷ fresh e.serial.prev ∷ [])

  pub tokens_stamp : (es : List Seen) → is_receipt e ≡ false
      → IsAmong (tokens (es ++ e ∷ [])) e.serial
  tokens_stamp es is =
      tokens_new es e.serial
      (subst (λ b. IsAmong (shown_by b e.answer) e.serial) (sym is) (inl refl))

  pub tokens_receive : (es : List Seen) → is_receipt e ≡ true → e.answer ≡ false
      → IsAmong (tokens (es ++ e ∷ [])) e.serial
  tokens_receive es is other =
      tokens_new es e.serial
      (subst (λ b. IsAmong (shown_by b e.answer) e.serial) (sym is)
      (subst (λ b. IsAmong (shown_by true b) e.serial) (sym other) (inl refl)))

  pub tokens_count : (es : List Seen) → is_receipt e ≡ true → e.answer ≡ false
      → IsAmong (tokens (es ++ e ∷ [])) (fresh e.serial.this)
  tokens_count es is other =
      let x = fresh e.serial.this in
      tokens_new es x
      (subst (λ b. IsAmong (shown_by b e.answer) x) (sym is)
      (subst (λ b. IsAmong (shown_by true b) x) (sym other) (inr (inr (inl refl)))))

  pub tokens_answer : (es : List Seen) → is_receipt e ≡ true → e.answer ≡ true
      → IsAmong (tokens (es ++ e ∷ [])) (fresh (serial_count (answer_count e.serial.this)))
  tokens_answer es is answer =
      let x = fresh (serial_count (answer_count e.serial.this)) in
      tokens_new es x
      (subst (λ b. IsAmong (shown_by b e.answer) x) (sym is)
      (subst (λ b. IsAmong (shown_by true b) x) (sym answer) (inl refl)))

  shown_fresh : (receive answer : Bool) (x : Serial) → IsAmong (shown_by receive answer) x
      → IsAmong (shown_by receive answer) (fresh x.prev)
  shown_fresh true true x (inl is) = inl (ap (λ (y : Serial). fresh y.prev) is)
  shown_fresh true true x (inr is) = absurd is
  shown_fresh true false x (inl is) = inr (inl (ap (λ (y : Serial). fresh y.prev) is))
  shown_fresh true false x (inr (inl is)) = inr (inl (ap (λ (y : Serial). fresh y.prev) is))
  shown_fresh true false x (inr (inr (inl is))) =
      inr (inr (inl (ap (λ (y : Serial). fresh y.prev) is)))
  shown_fresh true false x (inr (inr (inr is))) = absurd is
  shown_fresh false answer x (inl is) = inr (inl (ap (λ (y : Serial). fresh y.prev) is))
  shown_fresh false answer x (inr (inl is)) = inr (inl (ap (λ (y : Serial). fresh y.prev) is))
  shown_fresh false answer x (inr (inr is)) = absurd is

-- a held token's prev was last, so a set on no token could make one with it
pub tokens_fresh : (es : List Seen) (x : Serial) → IsAmong (tokens es) x
    → IsAmong (tokens es) (fresh x.prev)
tokens_fresh [] x (inl is) = inl (ap (λ (y : Serial). fresh y.prev) is)
tokens_fresh [] x (inr is) = absurd is
tokens_fresh (d ∷ es) x is = elim (among_parts (shown d) (tokens es) x is) [
  | inl front ↦ among_front (shown d) (tokens es) (fresh x.prev)
      (shown_fresh d (is_receipt d) d.answer x front)
  | inr back ↦ among_back (shown d) (tokens es) (fresh x.prev) (tokens_fresh es x back)
]

-- COUNTS

pub clock_push : (es : List Seen) (e : Seen) (clock : ℕ)
    → clock_behind clock (es ++ e ∷ []) ≡ clock_by e (clock_behind clock es)
clock_push [] e clock = refl
clock_push (d ∷ es) e clock = clock_push es e (clock_by d clock)

pub last_push : (es : List Seen) (e : Seen) (last : ℕ)
    → last_behind last (es ++ e ∷ []) ≡ last_by e
last_push [] e last = refl
last_push (d ∷ es) e last = last_push es e (last_by d)

abbrev last_from : Seen → Bool → Bool → ℕ
last_from e receive answer =
    cond receive (cond answer (serial_count (answer_count e.serial.this)) e.serial.this)
    e.serial.prev

pub clock_by_receive : (e : Seen) (clock : ℕ) → e.answer ≡ false
    → clock_by e clock ≡ max clock e.serial.this
clock_by_receive e clock other =
    ap (λ b. cond b (answer_count e.serial.this) (max clock e.serial.this)) other

pub clock_by_answer : (e : Seen) (clock : ℕ) → e.answer ≡ true
    → clock_by e clock ≡ answer_count e.serial.this
clock_by_answer e clock answer =
    ap (λ b. cond b (answer_count e.serial.this) (max clock e.serial.this)) answer

pub last_by_stamp : (e : Seen) → is_receipt e ≡ false → last_by e ≡ e.serial.prev
last_by_stamp e is = ap (λ b. last_from e b e.answer) is

pub last_by_receive : (e : Seen) → is_receipt e ≡ true → e.answer ≡ false
    → last_by e ≡ e.serial.this
last_by_receive e is other = ap (λ b. last_from e b e.answer) is ∙ ap (last_from e true) other

pub last_by_answer : (e : Seen) → is_receipt e ≡ true → e.answer ≡ true
    → last_by e ≡ serial_count (answer_count e.serial.this)
last_by_answer e is answer = ap (λ b. last_from e b e.answer) is ∙ ap (last_from e true) answer

-- RECEIVES

pub takes_true : (e : Seen) → is_receipt e ≡ true → e.answer ≡ false → takes e ≡ true
takes_true e is other =
    both_true (is_receipt e) (not e.answer) is (ap not other)

pub takes_parts : (e : Seen) → takes e ≡ true → (is_receipt e ≡ true) × (e.answer ≡ false)
takes_parts e is =
    let parts = and_parts (is_receipt e) (not e.answer) is in
    (parts.0, not_true e.answer parts.1)
