-- One event more counts if it passes the test, and two contents that compare equal are equal.
use Rattle.std.proofs.Common.{◌≡◌, ℕ, ◌+◌, ◌==◌, zero, suc, cond, Bool, true, List, [], ◌∷◌, ◌++◌}
use Rattle.std.proofs.Common.{Some, refl, arith, ◌∙◌, ap, take, eq-eqb}
use Rattle.std.specs.List.{count_by, slice_get}
use Rattle.std.proofs.lemmas.Bool.{and_parts, eqb-true}
use Rattle.std.proofs.lemmas.List.Sums.{sum_by-append}
use Rattle.std.proofs.lemmas.Option.{same_Some}
use Rattle.st_core.specs.declared.types.Pid.{Pid}
use Rattle.st_core.specs.Pid.{pid_eq}
use Rattle.st_core.specs.Event.{to_eq}
use Rattle.node_machine.proofs.ForCallers.{count_first}
use Rattle.st_core.proofs.ForCallers.{pid_eq-refl, pid_eq-true, to_eq-same, to_eq-true}
use Rattle.node_streams.specs.declared.content.MessageContent.{MessageContent}
use Rattle.node_streams.specs.Messages.{content_eq}
use Rattle.node_streams.specs.Order.{turns}

pub turns_more : (p : Pid) (order : List Pid) (q : Pid)
    → turns q (p ∷ order) ≡ cond (pid_eq p q) 1 0 + turns q order
turns_more p order q = count_first (λ r. pid_eq r q) p order

pub add_zero : (n : ℕ) → n + 0 ≡ n
add_zero n = omega arith

pub count_more : {A : Type 0} (test : A → Bool) (xs : List A) (x : A)
    → count_by test (xs ++ x ∷ []) ≡ count_by test xs + cond (test x) 1 0
count_more {A} test xs x =
    let f : A → ℕ = λ y. cond (test y) 1 0 in
    let all = sum_by-append f xs (x ∷ []) in
    omega arith

pub taken_more : {A : Type 0} (xs : List A) (i : ℕ) (x : A) → slice_get xs i ≡ Some x
    → take (suc i) xs ≡ take i xs ++ x ∷ []
taken_more [] i x at = absurd (cc)
taken_more (y ∷ xs) zero x at = ap (λ z. z ∷ []) (same_Some y x at)
taken_more (y ∷ xs) (suc i) x at = ap (λ ys. y ∷ ys) (taken_more xs i x at)

pub taken_next : {A : Type 0} (xs : List A) (i : ℕ) (x : A) → slice_get xs i ≡ Some x
    → take (i + 1) xs ≡ take i xs ++ x ∷ []
taken_next xs i x at =
    let next : i + 1 ≡ suc i = omega arith in
    ap (λ n. take n xs) next ∙ taken_more xs i x at

pub content_same : (c d : MessageContent) → content_eq c d ≡ true → c ≡ d
content_same c d is =
    let a = and_parts (pid_eq c.from d.from) _ is in
    let b = and_parts (to_eq c.to d.to) _ a.1 in
    let l = and_parts (c.label == d.label) _ b.1 in
    let p = and_parts (c.prev == d.prev) _ l.1 in
    let t = and_parts (c.this == d.this) _ p.1 in
    let from = pid_eq-true c.from d.from a.0 in
    let to = to_eq-true c.to d.to b.0 in
    let label = eqb-true c.label d.label l.0 in
    let prev = eqb-true c.prev d.prev p.0 in
    let this = eqb-true c.this d.this t.0 in
    let value = eqb-true c.value d.value t.1 in
    λ i. record {
      from = from i;
      to = to i;
      label = label i;
      prev = prev i;
      this = this i;
      value = value i;
    }

pub content_itself : (c : MessageContent) → content_eq c c ≡ true
content_itself c = rw (
  pid_eq-refl c.from,
  to_eq-same c.to,
  eq-eqb c.label c.label refl,
  eq-eqb c.prev c.prev refl,
  eq-eqb c.this c.this refl,
  eq-eqb c.value c.value refl,
) refl
