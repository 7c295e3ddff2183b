-- One event more adds its tokens and moves the counts, and the walk keeps both.
use Rattle.std.proofs.Common.{◌≡◌, ℕ, ◌<◌, ◌^◌, ◌==◌, ◌&&◌, max, not, cond, Bool, true, false, List}
use Rattle.std.proofs.Common.{[], ◌∷◌, ◌++◌, map, inl, inr, refl, arith, sym, ◌∙◌, ap, subst}
use Rattle.std.specs.List.{filter}
use Rattle.std.proofs.lemmas.Bool.{and_parts, eqb-true}
use Rattle.st_core.specs.declared.types.Serial.{Serial}
use Rattle.st_core.proofs.ForCallers.{both_true}
use Rattle.node_machine.specs.Counts.{answer_count, next_clock, serial_count}
use Rattle.node_machine.specs.declared.types.Seen.{Seen}
use Rattle.node_machine.specs.declared.types.Reading.{Reading}
use Rattle.node_machine.specs.Premises.{IsAmong}
use Rattle.node_machine.specs.Readings.{clock_put_back, going_on, is_next, is_receipt, last_behind}
use Rattle.node_machine.specs.Readings.{put_back_before, taking}
use Rattle.node_machine.specs.Given.{fresh, shown, takes, tokens}
use Rattle.node_machine.proofs.ForCallers.{all_append, among_back, among_front, among_parts}
use Rattle.node_machine.proofs.ForCallers.{clock_by_answer, clock_by_receive, last_by_answer}
use Rattle.node_machine.proofs.ForCallers.{last_by_receive, last_by_stamp, last_push}
use Rattle.node_machine.proofs.ForCallers.{put_back_reads, some_reading, stamp_reads, stamped_reads}
use Rattle.node_machine.proofs.ForCallers.{take_reads, took_reads, tokens_more, tokens_new}
use Rattle.node_machine.proofs.ForCallers.{tokens_parts}
use Rattle.node_given.specs.declared.tokens.Tokens.{Tokens}
use Rattle.node_given.specs.Clocks.{AreClocks, clocks_by_stamp, leads_elsewhere}
use Rattle.node_given.specs.Tables.{AreTokens}
use Rattle.node_given.specs.Walk.{AreFit, ends_in_take, IsKnown}

-- TABLES

tokens_same : (xs ys : List Serial) (t : Tokens) → ((x : Serial) → IsAmong xs x → IsAmong ys x)
    → ((x : Serial) → IsAmong ys x → IsAmong xs x) → AreTokens xs t → AreTokens ys t
tokens_same xs ys t to from are = record {
  known = λ x is. are.known x (from x is);
  sound = λ x is. to x (are.sound x is);
  counted = λ x is. are.counted x (from x is);
  had = λ this prev is. to (record { prev = prev; this = this }) (are.had this prev is);
}

-- an event's serials, in any order, join those of the events before it
tokens_push : (es : List Seen) (e : Seen) (news : List Serial) (t : Tokens)
    → ((x : Serial) → IsAmong news x → IsAmong (shown e) x)
    → ((x : Serial) → IsAmong (shown e) x → IsAmong news x)
    → AreTokens (news ++ tokens es) t → AreTokens (tokens (es ++ e ∷ [])) t
tokens_push es e news t to from are =
    tokens_same (news ++ tokens es) (tokens (es ++ e ∷ [])) t
    (λ x is. elim (among_parts news (tokens es) x is) [
      | inl new ↦ tokens_new e es x (to x new)
      | inr old ↦ tokens_more e es x old
    ])
    (λ x is. elim (tokens_parts e es x is) [
      | inl new ↦ among_front news (tokens es) x (from x new)
      | inr old ↦ among_back news (tokens es) x old
    ]) are

-- the serials that an event of each kind shows
pub shown_stamp : (e : Seen) → is_receipt e ≡ false
    → shown e ≡ e.serial ∷ fresh e.serial.prev ∷ []
shown_stamp e is = ap (λ b. cond b
    (cond e.answer (fresh (serial_count (answer_count e.serial.this)) ∷ [])
    (e.serial ∷ fresh e.serial.prev ∷ fresh e.serial.this ∷ []))
    (e.serial ∷ fresh e.serial.prev ∷ [])) is

pub shown_taken : (e : Seen) (answer : Bool) → is_receipt e ≡ true → e.answer ≡ answer
    → shown e ≡ cond answer (fresh (serial_count (answer_count e.serial.this)) ∷ [])
    (e.serial ∷ fresh e.serial.prev ∷ fresh e.serial.this ∷ [])
shown_taken e answer is kind = ap (λ b. cond b
    (cond e.answer (fresh (serial_count (answer_count e.serial.this)) ∷ [])
    (e.serial ∷ fresh e.serial.prev ∷ fresh e.serial.this ∷ []))
    (e.serial ∷ fresh e.serial.prev ∷ [])) is
    ∙ ap (λ b. cond b (fresh (serial_count (answer_count e.serial.this)) ∷ [])
    (e.serial ∷ fresh e.serial.prev ∷ fresh e.serial.this ∷ [])) kind

-- THE LAST EVENT

pub ends_push : (es : List Seen) (e : Seen) → ends_in_take (es ++ e ∷ []) ≡ takes e
ends_push [] e = refl
ends_push (d ∷ []) e = refl
ends_push (d ∷ c ∷ es) e = ends_push (c ∷ es) e

pub fit_push : (es : List Seen) (e : Seen) → AreFit es → e.serial.this < 2 ^ 60
    → AreFit (es ++ e ∷ [])
fit_push es e fit here =
    all_append (λ (d : Seen). d.serial.this < 2 ^ 60) es (e ∷ []) fit (here, tt)

not_taken : (e : Seen) → is_receipt e ≡ false → takes e ≡ false
not_taken e is = ap (λ b. b && not e.answer) is

-- CLOCKS

max_zero : (k : ℕ) → max k 0 ≡ k
max_zero k = omega arith

max_again : (k lift n : ℕ) → max (max k lift) n ≡ max k (max lift n)
max_again k lift n = omega arith

in_filter : (test : ℕ → Bool) (ks : List ℕ) (k : ℕ) → IsAmong ks k → test k ≡ true
    → IsAmong (filter test ks) k
in_filter test [] k is passes = absurd is
in_filter test (j ∷ ks) k (inl is) passes =
    subst (λ b. IsAmong (cond b (j ∷ filter test ks) (filter test ks)) k)
    (sym (ap test is ∙ passes)) (inl is)
in_filter test (j ∷ ks) k (inr is) passes =
    elim (test j) as (λ b. IsAmong (cond b (j ∷ filter test ks) (filter test ks)) k) [
      | true ↦ inr (in_filter test ks k is passes)
      | false ↦ in_filter test ks k is passes
    ]

from_filter : (test : ℕ → Bool) (ks : List ℕ) (k : ℕ) → IsAmong (filter test ks) k
    → IsAmong ks k × (test k ≡ true)
from_filter test [] k is = absurd is
from_filter test (j ∷ ks) k is =
    (elim (test j) as (λ b. test j ≡ b → IsAmong (cond b (j ∷ filter test ks) (filter test ks)) k
    → IsAmong (j ∷ ks) k × (test k ≡ true)) [
      | true ↦ λ passes there. elim there [
        | inl here ↦ (inl here, ap test (sym here) ∙ passes)
        | inr later ↦ let found = from_filter test ks k later in (inr found.0, found.1)
      ]
      | false ↦ λ _ there. let found = from_filter test ks k there in (inr found.0, found.1)
    ]) refl is

in_map : (f : ℕ → ℕ) (ks : List ℕ) (k : ℕ) → IsAmong ks k → IsAmong (map f ks) (f k)
in_map f [] k is = absurd is
in_map f (j ∷ ks) k (inl is) = inl (ap f is)
in_map f (j ∷ ks) k (inr is) = inr (in_map f ks k is)

from_map : (f : ℕ → ℕ) (ks : List ℕ) (n : ℕ) → IsAmong (map f ks) n
    → (k : ℕ) × IsAmong ks k × (f k ≡ n)
from_map f [] n is = absurd is
from_map f (j ∷ ks) n (inl is) = (j, inl refl, is)
from_map f (j ∷ ks) n (inr is) = let found = from_map f ks n is in (found.0, inr found.1, found.2)

module _ (es : List Seen) (ks : List ℕ) (lift last : ℕ) (e : Seen) (are : AreClocks ks lift es)
    (last_is : last ≡ last_behind 0 es) where
  stamp_clocks : is_receipt e ≡ false
      → AreClocks (clocks_by_stamp lift last e ks) 0 (es ++ e ∷ [])
  stamp_clocks kind =
      let f : ℕ → ℕ = λ k. next_clock (max k lift) in
      let test = leads_elsewhere lift last e in
      let went = map f (filter test ks) in
      let z = clock_put_back e in
      record {
        sound = λ k is. elim (among_parts went (z ∷ []) k is) [
          | inl first ↦
              let found = from_map f (filter test ks) k first in
              let passes = from_filter test ks found.0 found.1 in
              let old = are.sound found.0 passes.0 in
              let next = and_parts (is_next (max found.0 lift) last e)
              (not (next_clock (max found.0 lift) == z)) passes.1 in
              let goes = subst (λ n. is_next old.0.clock n e ≡ true) last_is
              (subst (λ n. is_next n last e ≡ true) (sym old.2) next.0) in (
                going_on old.0,
                stamp_reads es e old.0 old.1 kind goes,
                ap next_clock old.2 ∙ found.2 ∙ sym (max_zero k),
              )
          | inr second ↦ elim second [
            | inl same ↦
                let some = some_reading es in (
                  put_back_before e some.0,
                  put_back_reads es e some.0 some.1 kind,
                  same ∙ sym (max_zero k),
                )
            | inr none ↦ absurd none
          ]
        ];
        complete = λ r is.
            let back = stamped_reads es e r is kind in
            elim back.2 [
              | inr put ↦ (
                z,
                among_back went (z ∷ []) z (inl refl),
                sym (ap (λ (x : Reading). x.clock) put) ∙ sym (max_zero z),
              )
              | inl goes ↦
                  let old = are.complete back.0 back.1 in
                  let n = f old.0 in
                  let clock : r.clock ≡ n =
                  sym (ap (λ (x : Reading). x.clock) goes.1) ∙ ap next_clock old.2 in
                  let next = subst (λ m. is_next (max old.0 lift) m e ≡ true) (sym last_is)
                  (subst (λ m. is_next m (last_behind 0 es) e ≡ true) old.2 goes.0) in
                  (elim (n == z) as (λ b. (n == z) ≡ b
                  → (k : ℕ) × IsAmong (clocks_by_stamp lift last e ks) k × (r.clock ≡ max k 0)) [
                    | true ↦ λ same. (
                      z,
                      among_back went (z ∷ []) z (inl refl),
                      clock ∙ eqb-true n z same ∙ sym (max_zero z),
                    )
                    | false ↦ λ other. (
                      n,
                      among_front went (z ∷ []) n
                          (in_map f (filter test ks) old.0 (in_filter test ks old.0 old.1
                          (both_true (is_next (max old.0 lift) last e) (not (n == z)) next
                          (ap not other)))),
                      clock ∙ sym (max_zero n),
                    )
                  ]) refl
            ];
      }

  receive_clocks : is_receipt e ≡ true → e.answer ≡ false
      → AreClocks ks (max lift e.serial.this) (es ++ e ∷ [])
  receive_clocks kind other = record {
    sound = λ k is.
        let old = are.sound k is in (
          taking e old.0,
          take_reads es e old.0 old.1 kind,
          clock_by_receive e old.0.clock other ∙ ap (λ n. max n e.serial.this) old.2
              ∙ max_again k lift e.serial.this,
        );
    complete = λ r is.
        let back = took_reads es e r is kind in
        let old = are.complete back.0 back.1 in (
          old.0,
          old.1,
          sym (ap (λ (x : Reading). x.clock) back.2)
              ∙ clock_by_receive e back.0.clock other ∙ ap (λ n. max n e.serial.this) old.2
              ∙ max_again old.0 lift e.serial.this,
        );
  }

  answer_clocks : is_receipt e ≡ true → e.answer ≡ true
      → AreClocks (answer_count e.serial.this ∷ []) 0 (es ++ e ∷ [])
  answer_clocks kind answer =
      let n = answer_count e.serial.this in
      record {
        sound = λ k is. elim is [
          | inl same ↦
              let some = some_reading es in (
                taking e some.0,
                take_reads es e some.0 some.1 kind,
                clock_by_answer e some.0.clock answer ∙ same ∙ sym (max_zero k),
              )
          | inr none ↦ absurd none
        ];
        complete = λ r is.
            let back = took_reads es e r is kind in (
              n,
              inl refl,
              sym (ap (λ (x : Reading). x.clock) back.2)
                  ∙ clock_by_answer e back.0.clock answer ∙ sym (max_zero n),
            );
      }

-- KNOWLEDGE

pub known_start : (t : Tokens) → AreTokens (fresh 0 ∷ []) t → IsKnown [] (0 ∷ []) 0 0 false t
known_start t are =
    let start : Reading = record { clock = 0; put_backs = 0 } in
    record {
      clocks_are = record {
        sound = λ k is. elim is [
          | inl same ↦ (start, inl refl, same ∙ sym (max_zero k))
          | inr none ↦ absurd none
        ];
        complete = λ r is. elim is [
          | inl same ↦ (0, inl refl, sym (ap (λ (x : Reading). x.clock) same))
          | inr none ↦ absurd none
        ];
      };
      last_is = refl;
      taking_is = refl;
      tokens_are = are;
      fit = tt;
    }

and_no : (b : Bool) → (b && false) ≡ false
and_no true = refl
and_no false = refl

pub swap : (x y z : Serial) → IsAmong (x ∷ y ∷ []) z → IsAmong (y ∷ x ∷ []) z
swap x y z (inl is) = inr (inl is)
swap x y z (inr (inl is)) = inl is
swap x y z (inr (inr is)) = absurd is

pub turn : (w x y z : Serial) → IsAmong (w ∷ x ∷ y ∷ []) z → IsAmong (y ∷ x ∷ w ∷ []) z
turn w x y z (inl is) = inr (inr (inl is))
turn w x y z (inr (inl is)) = inr (inl is)
turn w x y z (inr (inr (inl is))) = inl is
turn w x y z (inr (inr (inr is))) = absurd is

module _ (es : List Seen) (ks : List ℕ) (lift last : ℕ) (taking : Bool) (t u : Tokens) (e : Seen)
    (known : IsKnown es ks lift last taking t) (fits : e.serial.this < 2 ^ 60) where
  pub known_stamp : is_receipt e ≡ false
      → AreTokens (fresh e.serial.prev ∷ e.serial ∷ tokens es) u
      → IsKnown (es ++ e ∷ []) (clocks_by_stamp lift last e ks) 0 e.serial.prev false u
  known_stamp kind are = record {
    clocks_are = stamp_clocks es ks lift last e known.clocks_are known.last_is kind;
    last_is = sym (last_push es e 0 ∙ last_by_stamp e kind);
    taking_is = sym (ends_push es e ∙ not_taken e kind);
    tokens_are = tokens_push es e (fresh e.serial.prev ∷ e.serial ∷ []) u
        (λ x is. subst (λ xs. IsAmong xs x) (sym (shown_stamp e kind))
        (swap (fresh e.serial.prev) e.serial x is))
        (λ x is. swap e.serial (fresh e.serial.prev) x
        (subst (λ xs. IsAmong xs x) (shown_stamp e kind) is)) are;
    fit = fit_push es e known.fit fits;
  }

  pub known_receive : is_receipt e ≡ true → e.answer ≡ false
      → AreTokens (fresh e.serial.this ∷ fresh e.serial.prev ∷ e.serial ∷ tokens es) u
      → IsKnown (es ++ e ∷ []) ks (max lift e.serial.this) e.serial.this true u
  known_receive kind other are = record {
    clocks_are = receive_clocks es ks lift last e known.clocks_are known.last_is kind other;
    last_is = sym (last_push es e 0 ∙ last_by_receive e kind other);
    taking_is = sym (ends_push es e ∙ both_true (is_receipt e) (not e.answer) kind (ap not other));
    tokens_are = tokens_push es e (fresh e.serial.this ∷ fresh e.serial.prev ∷ e.serial ∷ []) u
        (λ x is. subst (λ xs. IsAmong xs x) (sym (shown_taken e false kind other))
        (turn (fresh e.serial.this) (fresh e.serial.prev) e.serial x is))
        (λ x is. turn e.serial (fresh e.serial.prev) (fresh e.serial.this) x
        (subst (λ xs. IsAmong xs x) (shown_taken e false kind other) is)) are;
    fit = fit_push es e known.fit fits;
  }

  pub known_answer : is_receipt e ≡ true → e.answer ≡ true
      → AreTokens (fresh (serial_count (answer_count e.serial.this)) ∷ tokens es) u
      → IsKnown (es ++ e ∷ []) (answer_count e.serial.this ∷ []) 0
      (serial_count (answer_count e.serial.this)) false u
  known_answer kind answer are = record {
    clocks_are = answer_clocks es ks lift last e known.clocks_are known.last_is kind answer;
    last_is = sym (last_push es e 0 ∙ last_by_answer e kind answer);
    taking_is = sym (ends_push es e ∙ ap (λ b. is_receipt e && not b) answer
        ∙ and_no (is_receipt e));
    tokens_are = tokens_push es e (fresh (serial_count (answer_count e.serial.this)) ∷ []) u
        (λ x is. subst (λ xs. IsAmong xs x) (sym (shown_taken e true kind answer)) is)
        (λ x is. subst (λ xs. IsAmong xs x) (shown_taken e true kind answer) is) are;
    fit = fit_push es e known.fit fits;
  }
