-- Each reading of the front events goes on with the next event: so there is always one.
use Rattle.std.proofs.Common.{◌≡◌, ℕ, ◌⊎◌, ◌+◌, ◌==◌, ◌^◌, Bool, true, false, cond, List, [], ◌∷◌}
use Rattle.std.proofs.Common.{◌++◌, map, inl, inr, refl, arith, sym, ◌∙◌, ap, subst, if◌then◌else◌}
use Rattle.std.specs.Prelude.{flat_map}
use Rattle.std.proofs.lemmas.Bool.{and_parts, cases_order, eq-eqb, eqb-true}
use Rattle.st_core.proofs.ForCallers.{both_true}
use Rattle.node_machine.specs.Counts.{next_clock, stamp_count}
use Rattle.node_machine.specs.Node.{Seen}
use Rattle.node_machine.specs.Premises.{IsAmong}
use Rattle.node_machine.specs.Readings.{clock_put_back, going_on, is_next, is_receipt, last_behind}
use Rattle.node_machine.specs.Readings.{last_by, put_back_before, Reading, readings, readings_by}
use Rattle.node_machine.specs.Readings.{readings_from, stamp_readings, taking}
use Rattle.node_machine.proofs.Counts.{FitsSerial, next_below, next_wraps}
use Rattle.node_machine.proofs.Lists.{among_back, among_front, among_parts}

readings_push : (last : ℕ) (es : List Seen) (rs : List Reading) (e : Seen)
    → readings_from last (es ++ e ∷ []) rs
    ≡ readings_by e (last_behind last es) (readings_from last es rs)
readings_push last [] rs e = refl
readings_push last (d ∷ es) rs e = readings_push (last_by d) es (readings_by d last rs) e

map_among : {A B : Type 0} (f : A → B) (xs : List A) (x : A) → IsAmong xs x
    → IsAmong (map f xs) (f x)
map_among f [] x is = absurd is
map_among f (y ∷ xs) x (inl is) = inl (ap f is)
map_among f (y ∷ xs) x (inr is) = inr (map_among f xs x is)

flat_among : {A B : Type 0} (f : A → List B) (xs : List A) (x : A) (y : B) → IsAmong xs x
    → IsAmong (f x) y
    → IsAmong (flat_map f xs) y
flat_among f [] x y is there = absurd is
flat_among f (z ∷ xs) x y (inl is) there =
    among_front (f z) (flat_map f xs) y (subst (λ w. IsAmong (f w) y) (sym is) there)
flat_among f (z ∷ xs) x y (inr is) there =
    among_back (f z) (flat_map f xs) y (flat_among f xs x y is there)

module _ (es : List Seen) (e : Seen) (r : Reading) (is : IsAmong (readings es) r) where
  abbrev by_kind : Bool → List Reading
  by_kind receive = cond receive
      (map (taking e) (readings es))
      (flat_map (stamp_readings (last_behind 0 es) e) (readings es))

  grown : (receive : Bool) (x : Reading) → is_receipt e ≡ receive → IsAmong (by_kind receive) x
      → IsAmong (readings (es ++ e ∷ [])) x
  grown receive x kind there =
      let start : Reading = record { clock = 0; put_backs = 0 } in
      subst (λ xs. IsAmong xs x) (sym (readings_push 0 es (start ∷ []) e))
      (subst (λ b. IsAmong (by_kind b) x) (sym kind) there)

  pub take_reads : is_receipt e ≡ true
      → IsAmong (readings (es ++ e ∷ [])) (taking e r)
  take_reads kind =
      grown true (taking e r) kind (map_among (taking e) (readings es) r is)

  pub stamp_reads : is_receipt e ≡ false → is_next r.clock (last_behind 0 es) e ≡ true
      → IsAmong (readings (es ++ e ∷ [])) (going_on r)
  stamp_reads kind next =
      let last = last_behind 0 es in
      grown false (going_on r) kind
      (flat_among (stamp_readings last e) (readings es) r (going_on r) is
      (subst (λ b. IsAmong ((if b then going_on r ∷ [] else []) ++ put_back_before e r ∷ [])
      (going_on r)) (sym next) (inl refl)))

  pub put_back_reads : is_receipt e ≡ false
      → IsAmong (readings (es ++ e ∷ [])) (put_back_before e r)
  put_back_reads kind =
      let last = last_behind 0 es in
      let x = put_back_before e r in
      grown false x kind
      (flat_among (stamp_readings last e) (readings es) r x is
      (among_back (if is_next r.clock last e then going_on r ∷ [] else []) (x ∷ []) x (inl refl)))

some_from : (last : ℕ) (es : List Seen) (rs : List Reading) (r : Reading) → IsAmong rs r
    → (x : Reading) × IsAmong (readings_from last es rs) x
some_from last [] rs r is = (r, is)
some_from last (e ∷ es) rs r is =
    let xs = readings_by e last rs in
    let found : (x : Reading) × IsAmong xs x =
    (elim (is_receipt e) as (λ b. (x : Reading) × IsAmong (cond b
    (map (taking e) rs)
    (flat_map (stamp_readings last e) rs)) x) [
      | true ↦ (taking e r, map_among (taking e) rs r is)
      | false ↦ (
        put_back_before e r,
        flat_among (stamp_readings last e) rs r (put_back_before e r) is
            (among_back (if is_next r.clock last e then going_on r ∷ [] else [])
            (put_back_before e r ∷ []) (put_back_before e r) (inl refl)),
      )
    ]) in
    some_from (last_by e) es xs found.0 found.1

pub some_reading : (es : List Seen) → (r : Reading) × IsAmong (readings es) r
some_reading es =
    let start : Reading = record { clock = 0; put_backs = 0 } in
    some_from 0 es (start ∷ []) start (inl refl)

-- the reading with a put-back has the clock after a stamp, if the clock before it had 60 bits
pub clock_fits : (clock : ℕ) (e : Seen) → FitsSerial clock → e.serial.this ≡ stamp_count clock
    → next_clock clock ≡ clock_put_back e
clock_fits clock e fits count = elim (cases_order (clock + 1) (2 ^ 60)) [
  | inl same ↦
      let wraps = next_wraps clock same in
      wraps.1 ∙ sym (ap (λ b. cond b (2 ^ 60) e.serial.this)
      (eq-eqb e.serial.this 0 (count ∙ wraps.0)))
  | inr other ↦ elim other [
    | inl less ↦
        let below = next_below clock less in
        elim (e.serial.this == 0) as (λ b. (e.serial.this == 0) ≡ b
        → next_clock clock ≡ cond b (2 ^ 60) e.serial.this) [
          | true ↦ λ is.
              let none = eqb-true e.serial.this 0 is in
              let shown = below.0 in
              absurd (omega arith)
          | false ↦ λ _. below.1 ∙ sym below.0 ∙ sym count
        ] refl
    | inr more ↦ absurd (omega arith)
  ]
]

pub next_true : (clock last : ℕ) (e : Seen) → e.serial.this ≡ stamp_count clock
    → e.serial.prev ≡ last
    → is_next clock last e ≡ true
next_true clock last e count prev =
    both_true (e.serial.this == stamp_count clock) (e.serial.prev == last)
    (eq-eqb e.serial.this (stamp_count clock) count) (eq-eqb e.serial.prev last prev)

pub next_parts : (clock last : ℕ) (e : Seen) → is_next clock last e ≡ true
    → (e.serial.this ≡ stamp_count clock) × (e.serial.prev ≡ last)
next_parts clock last e is =
    let parts = and_parts (e.serial.this == stamp_count clock) (e.serial.prev == last) is in
    (eqb-true e.serial.this (stamp_count clock) parts.0, eqb-true e.serial.prev last parts.1)

-- THE WAY BACK

among_map : {A B : Type 0} (f : A → B) (xs : List A) (y : B) → IsAmong (map f xs) y
    → (x : A) × IsAmong xs x × (f x ≡ y)
among_map f [] y is = absurd is
among_map f (x ∷ xs) y (inl is) = (x, inl refl, is)
among_map f (x ∷ xs) y (inr is) = let found = among_map f xs y is in (found.0, inr found.1, found.2)

among_flat : {A B : Type 0} (f : A → List B) (xs : List A) (y : B) → IsAmong (flat_map f xs) y
    → (x : A) × IsAmong xs x × IsAmong (f x) y
among_flat f [] y is = absurd is
among_flat f (x ∷ xs) y is = elim (among_parts (f x) (flat_map f xs) y is) [
  | inl here ↦ (x, inl refl, here)
  | inr later ↦ let found = among_flat f xs y later in (found.0, inr found.1, found.2)
]

module _ (es : List Seen) (e : Seen) (x : Reading) (is : IsAmong (readings (es ++ e ∷ [])) x) where
  grown_from : (receive : Bool) → is_receipt e ≡ receive → IsAmong (cond receive
      (map (taking e) (readings es))
      (flat_map (stamp_readings (last_behind 0 es) e) (readings es))) x
  grown_from receive kind =
      let start : Reading = record { clock = 0; put_backs = 0 } in
      subst (λ b. IsAmong (cond b (map (taking e) (readings es))
      (flat_map (stamp_readings (last_behind 0 es) e) (readings es))) x) kind
      (subst (λ xs. IsAmong xs x) (readings_push 0 es (start ∷ []) e) is)

  pub took_reads : is_receipt e ≡ true → (r : Reading) × IsAmong (readings es) r × (taking e r ≡ x)
  took_reads kind = among_map (taking e) (readings es) x (grown_from true kind)

  pub stamped_reads : is_receipt e ≡ false → (r : Reading) × IsAmong (readings es) r
      × (((is_next r.clock (last_behind 0 es) e ≡ true) × (going_on r ≡ x))
      ⊎ (put_back_before e r ≡ x))
  stamped_reads kind =
      let found = among_flat (stamp_readings (last_behind 0 es) e) (readings es) x
      (grown_from false kind) in
      let r = found.0 in (
        r,
        found.1,
        (elim (is_next r.clock (last_behind 0 es) e) as (λ b.
            IsAmong ((if b then going_on r ∷ [] else []) ++ put_back_before e r ∷ []) x
            → ((b ≡ true) × (going_on r ≡ x)) ⊎ (put_back_before e r ≡ x)) [
              | true ↦ λ there. elim there [
                | inl first ↦ inl (refl, first)
                | inr rest ↦ elim rest [
                  | inl second ↦ inr second
                  | inr none ↦ absurd none
                ]
              ]
              | false ↦ λ there. elim there [
                | inl first ↦ inr first
                | inr none ↦ absurd none
              ]
            ]) found.2,
      )
