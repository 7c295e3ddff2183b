-- Streams and acts have a verdict, since for each n it can be decided whether the first n acts
-- pass: so there is a first act that fails, or none.
use Rattle.std.proofs.Common.{◌≡◌, ℕ, ◌+◌, ◌≤◌, ◌⊎◌, zero, suc, Bool, true, false, cond, nat_lt}
use Rattle.std.proofs.Common.{List, [], ◌∷◌, ◌++◌, length, take, get_or, find, Option, Some, None}
use Rattle.std.proofs.Common.{is_some, All, refl, sym, ◌∙◌, ap, subst, arith, inl, inr}
use Rattle.std.proofs.Common.{length-append}
use mathlib.Core.List.{IsPrefix}
use Rattle.std.proofs.lemmas.Bool.{cases_eq, ltb-false}
use Rattle.std.proofs.lemmas.List.{take_all, append-nil, nil_from_length}
use Rattle.std.proofs.lemmas.List.Elements.{All-nil, All-cons, All-head, All-tail}
use Rattle.std.proofs.lemmas.Option.{same_Some, none-some}
use Rattle.st_core.specs.declared.types.Pid.{Pid}
use Rattle.st_core.specs.declared.types.Kind.{Kind}
use Rattle.st_core.specs.declared.types.Kind.TheVariants as kind
use Rattle.st_core.specs.declared.types.Event.{Event}
use Rattle.st_core.specs.declared.types.Act.{Act}
use Rattle.st_core.specs.Step.{Outcome}
use Rattle.st_core.specs.Run.{Stream, pids_of, run, stream, Shows}
use Rattle.st_core.specs.Pairs.{pairs}
use Rattle.st_core.specs.Verdict.{Verdict, Stuck, Differs, Left, Yes, IsPassing, Passes, left_over}
use Rattle.st_core.specs.Verdict.{IsVerdict}
use Rattle.st_core.proofs.Runs.{FailsAt}

-- A FACT HOLDS OR NOT

abbrev pub Decided : Type 0 → Type 0
Decided P = P ⊎ (P → ⊥)

pid_decided : (p q : Pid) → Decided (p ≡ q)
pid_decided p q = elim (cases_eq p.node q.node) [
  | inr apart ↦ inr (λ h. apart (ap (λ (x : Pid). x.node) h))
  | inl node ↦
      elim (cases_eq p.number q.number) [
        | inr apart ↦ inr (λ h. apart (ap (λ (x : Pid). x.number) h))
        | inl number ↦ inl (λ i. record { node = node i; number = number i })
      ]
]

to_decided : (p q : Option Pid) → Decided (p ≡ q)
to_decided None None = inl refl
to_decided (Some p) (Some q) =
    elim (pid_decided p q) [
      | inl same ↦ inl (ap (λ (x : Pid). Some x) same)
      | inr apart ↦ inr (λ h. apart (same_Some p q h))
    ]
to_decided p q = inr (λ h. cc)

kind_decided : (k l : Kind) → Decided (k ≡ l)
kind_decided kind.Send kind.Send = inl refl
kind_decided kind.Receive kind.Receive = inl refl
kind_decided kind.Print kind.Print = inl refl
kind_decided k l = inr (λ h. cc)

both_decided : {P Q R : Type 0} → Decided P → Decided Q → (R → P) → (R → Q) → (P → Q → R)
    → Decided R
both_decided (inr no_p) q left right join = inr (λ r. no_p (left r))
both_decided (inl p) (inr no_q) left right join = inr (λ r. no_q (right r))
both_decided (inl p) (inl q) left right join = inl (join p q)

record SameNumbers (d e : Event) : Type 0 where
  label : d.label.0 ≡ e.label.0
  prev : d.serial.prev ≡ e.serial.prev
  this : d.serial.this ≡ e.serial.this
  value : d.value ≡ e.value

numbers_decided : (d e : Event) → Decided (SameNumbers d e)
numbers_decided d e =
    let counts : Decided ((d.serial.prev ≡ e.serial.prev) × (d.serial.this ≡ e.serial.this)) =
    both_decided (cases_eq d.serial.prev e.serial.prev) (cases_eq d.serial.this e.serial.this)
    (λ h. h.0) (λ h. h.1)
    (λ p q. (p, q)) in
    let others : Decided ((d.label.0 ≡ e.label.0) × (d.value ≡ e.value)) =
    both_decided (cases_eq d.label.0 e.label.0) (cases_eq d.value e.value) (λ h. h.0) (λ h. h.1)
    (λ p q. (p, q)) in
    both_decided counts others (λ h. (h.prev, h.this)) (λ h. (h.label, h.value))
    (λ p q. record { label = q.0; prev = p.0; this = p.1; value = q.1 })

-- the two events have the same kind, from and to
record SameParties (d e : Event) : Type 0 where
  kind : d.kind ≡ e.kind
  from : d.from ≡ e.from
  to : d.to ≡ e.to

parties_decided : (d e : Event) → Decided (SameParties d e)
parties_decided d e =
    let ends : Decided ((d.from ≡ e.from) × (d.to ≡ e.to)) =
    both_decided (pid_decided d.from e.from) (to_decided d.to e.to) (λ h. h.0) (λ h. h.1)
    (λ p q. (p, q)) in
    both_decided (kind_decided d.kind e.kind) ends (λ h. h.kind) (λ h. (h.from, h.to))
    (λ p q. record { kind = p; from = q.0; to = q.1 })

same_event : (d e : Event) → SameNumbers d e → SameParties d e → d ≡ e
same_event d e n p =
    λ i.
    record {
      label = record { 0 = n.label i };
      kind = p.kind i;
      serial = record { prev = n.prev i; this = n.this i };
      from = p.from i;
      to = p.to i;
      value = n.value i;
    }

pub event_decided : (d e : Event) → Decided (d ≡ e)
event_decided d e =
    both_decided (numbers_decided d e) (parties_decided d e)
    (λ h.
    record {
      label = ap (λ (x : Event). x.label.0) h;
      prev = ap (λ (x : Event). x.serial.prev) h;
      this = ap (λ (x : Event). x.serial.this) h;
      value = ap (λ (x : Event). x.value) h;
    })
    (λ h.
    record {
      kind = ap (λ (x : Event). x.kind) h;
      from = ap (λ (x : Event). x.from) h;
      to = ap (λ (x : Event). x.to) h;
    })
    (same_event d e)

front_decided : (xs ys : List Event) → Decided (IsPrefix xs ys)
front_decided [] ys = inl (ys, refl)
front_decided (x ∷ xs) [] = inr (λ h. let e : x ∷ (xs ++ h.0) ≡ [] = h.1 in cc)
front_decided (x ∷ xs) (y ∷ ys) =
    both_decided (event_decided x y) (front_decided xs ys)
    (λ h. let e : x ∷ (xs ++ h.0) ≡ y ∷ ys = h.1 in cc)
    (λ h. let e : x ∷ (xs ++ h.0) ≡ y ∷ ys = h.1 in let rest : xs ++ h.0 ≡ ys = cc in (h.0, rest))
    (λ p q. (q.0, ap (λ z. z ∷ (xs ++ q.0)) p ∙ ap (λ zs. y ∷ zs) q.1))

All_decided : {A : Type 0} (P : A → Type 0) → ((x : A) → Decided (P x)) → (xs : List A)
    → Decided (All P xs)
All_decided P decided [] = inl (All-nil P)
All_decided P decided (x ∷ xs) =
    both_decided (decided x) (All_decided P decided xs) (All-head P x xs) (All-tail P x xs)
    (All-cons P x xs)

-- ACTS PASS OR NOT

passes_at : (top : ℕ) (streams : List Stream) (acts : List Act) (outs : Option (List Outcome))
    → run top (pids_of streams) acts ≡ outs → Decided (Passes top streams acts)
passes_at top streams acts None e = inr (λ h. none-some h.0 (sym e ∙ h.1.runs))
passes_at top streams acts (Some os) e =
    let front = λ (x : Stream). IsPrefix (stream acts os x.pid) x.events in
    elim (All_decided front (λ (x : Stream). front_decided (stream acts os x.pid) x.events)
    streams) [
      | inl all ↦ inl (os, record { runs = e; fronts = all })
      | inr apart ↦
          inr
          (λ h.
          apart
          (subst (λ outs. All (λ (x : Stream). IsPrefix (stream acts outs x.pid) x.events) streams)
          (same_Some _ _ (sym h.1.runs ∙ e)) h.1.fronts))
    ]

passes_decided : (top : ℕ) (streams : List Stream) (acts : List Act)
    → Decided (Passes top streams acts)
passes_decided top streams acts = passes_at top streams acts (run top (pids_of streams) acts) refl

pub none_passes : (top : ℕ) (streams : List Stream) → Passes top streams []
none_passes top streams =
    ([], record { runs = refl; fronts = λ k d within. ((get_or streams k d).events, refl) })

-- the first n acts pass, or some act is the first to fail
passing_front : (top : ℕ) (streams : List Stream) (acts : List Act) (n : ℕ) → n ≤ length acts
    → Passes top streams (take n acts) ⊎ ((m : ℕ) × FailsAt top streams acts m)
passing_front top streams acts zero within = inl (none_passes top streams)
passing_front top streams acts (suc n) within =
    elim (passing_front top streams acts n (omega arith)) [
      | inr failed ↦ inr failed
      | inl before ↦
          let next : n + 1 ≡ suc n = omega arith in
          elim (passes_decided top streams (take (n + 1) acts)) [
            | inl pass ↦ inl (subst (λ k. Passes top streams (take k acts)) next pass)
            | inr fails ↦ inr (n, record { within = omega arith; before = before; fails = fails })
          ]
    ]

-- VERDICTS

abbrev pub HasVerdict : ℕ → List Stream → List Act → Type 0
HasVerdict top streams acts = (v : Verdict) × IsVerdict top streams acts v

failed_verdict : (top : ℕ) (streams : List Stream) (acts : List Act) (n : ℕ)
    → FailsAt top streams acts n
    → (outs : Option (List Outcome)) → run top (pids_of streams) (take (n + 1) acts) ≡ outs
    → HasVerdict top streams acts
failed_verdict top streams acts n f None e = (Stuck n, (f.within, f.before, e))
failed_verdict top streams acts n f (Some os) e =
    (Differs n, (f.within, f.before, ap (λ (o : Option (List Outcome)). is_some o) e, f.fails))

none_found : {A : Type 0} (p : A → Bool) (xs : List A) → find p xs ≡ None
    → All (λ x. p x ≡ false) xs
none_found p [] h = All-nil (λ x. p x ≡ false)
none_found p (x ∷ xs) h =
    elim (p x) as (λ b. p x ≡ b → cond b (Some x) (find p xs) ≡ None
    → All (λ x. p x ≡ false) (x ∷ xs)) [
      | true ↦ λ e h. absurd (none-some x (sym h))
      | false ↦ λ e h. All-cons (λ x. p x ≡ false) x xs e (none_found p xs h)
    ] refl h

whole_front : {A : Type 0} (xs ys : List A) → IsPrefix xs ys → length ys ≤ length xs → xs ≡ ys
whole_front xs ys front long =
    let size : length xs + length front.0 ≡ length ys =
    sym (length-append xs front.0) ∙ ap length front.1 in
    sym (append-nil xs) ∙ ap (λ zs. xs ++ zs) (sym (nil_from_length front.0 (omega arith)))
    ∙ front.1

-- if the acts pass and nothing is left over, the verdict is yes
pub passed_yes : (top : ℕ) (streams : List Stream) (acts : List Act) (os : List Outcome)
    → IsPassing top streams acts os
    → left_over streams acts os ≡ None → IsVerdict top streams acts (Yes (pairs acts os))
passed_yes top streams acts os passing e =
    let full = none_found (λ x. nat_lt (length (stream acts os x.pid)) (length x.events)) streams
    e in (
      os,
      passing.runs,
      (λ k d within.
          let x = get_or streams k d in
          whole_front (stream acts os x.pid) x.events (passing.fronts k d within)
          (ltb-false _ _ (full k d within))),
      refl,
    )

passed_verdict : (top : ℕ) (streams : List Stream) (acts : List Act) (os : List Outcome)
    → IsPassing top streams acts os
    → (left : Option Stream) → left_over streams acts os ≡ left → HasVerdict top streams acts
passed_verdict top streams acts os passing (Some x) e = (Left x.pid, (os, passing, x, e, refl))
passed_verdict top streams acts os passing None e =
    (Yes (pairs acts os), passed_yes top streams acts os passing e)

pub a_verdict : (top : ℕ) (streams : List Stream) (acts : List Act) → HasVerdict top streams acts
a_verdict top streams acts = elim (passing_front top streams acts (length acts) (omega arith)) [
  | inr failed ↦
      failed_verdict top streams acts failed.0 failed.1
      (run top (pids_of streams) (take (failed.0 + 1) acts)) refl
  | inl pass ↦
      let whole : Passes top streams acts =
      subst (Passes top streams) (take_all (length acts) acts (omega arith)) pass in
      passed_verdict top streams acts whole.0 whole.1 (left_over streams acts whole.0) refl
]

pub yes_shows : (top : ℕ) (streams : List Stream) (acts : List Act)
    → ((ps : List (ℕ × ℕ)) × IsVerdict top streams acts (Yes ps)) → Shows top streams acts
yes_shows top streams acts v = (v.1.0, v.1.1, v.1.2)

pub shows_yes : (top : ℕ) (streams : List Stream) (acts : List Act) → Shows top streams acts
    → (ps : List (ℕ × ℕ)) × IsVerdict top streams acts (Yes ps)
shows_yes top streams acts h = (pairs acts h.0, (h.0, h.1, h.2, refl))
