-- The events directly before an index decide where the row up to it begins: the row goes back to
-- the first event that is no send or print with the prev.
use Rattle.std.proofs.Common.{◌≡◌, ℕ, ◌<◌, ◌≤◌, ◌&&◌, ◌==◌, zero, suc, Bool, true, false, cond}
use Rattle.std.proofs.Common.{List, Option, Some, None, inl, inr, refl, sym, ◌∙◌, ap, arith}
use Rattle.std.specs.Prelude.{not}
use Rattle.std.specs.List.{slice_get}
use Rattle.std.proofs.lemmas.Bool.{and_parts, eq-eqb, eqb-true, cases_order, false≢true}
use Rattle.std.proofs.lemmas.Option.{same_Some, none-some, cond_some}
use Rattle.st_core.specs.declared.types.Kind.TheVariants as kind
use Rattle.st_core.specs.declared.types.Event.{Event}
use Rattle.st_core.proofs.ForCallers.{both_true}
use Rattle.node_hops.specs.Events.{is_in_row, is_take, take_before, row_first}

-- all events from index j to below i are in the row
abbrev pub IsRowBetween : ℕ → List Event → ℕ → ℕ → Type 0
IsRowBetween prev es j i = (x : ℕ) → j ≤ x → x < i → (e : Event) × (slice_get es x ≡ Some e)
    × (is_in_row prev e ≡ true)

-- EVENTS

pub receive_is : (e : Event) → e.kind ≡ kind.Receive → is_take e ≡ true
receive_is e is =
    ap (λ k. elim k [ kind.Send ↦ false | kind.Receive ↦ true | kind.Print ↦ false ]) is

pub receive_not_in_row : (prev : ℕ) (e : Event) → is_take e ≡ true → is_in_row prev e ≡ false
receive_not_in_row prev e is = ap (λ b. not b && e.serial.prev == prev) is

pub row_no_receive : (prev : ℕ) (e : Event) (b : Bool) → is_take e ≡ b → is_in_row prev e ≡ true
    → b ≡ false
row_no_receive prev e true is row = absurd (false≢true (sym (receive_not_in_row prev e is) ∙ row))
row_no_receive prev e false is row = refl

-- WHERE THE ROW BEGINS

row_start_at : (prev : ℕ) (es : List Event) (i : ℕ) (e : Event) (b : Bool) → slice_get es i ≡ Some e
    → is_in_row prev e ≡ b → row_first prev es (suc i) ≡ cond b (row_first prev es i) (suc i)
row_start_at prev es i e b at is =
    let by = λ (o : Option Event). elim o as (λ _. ℕ) [
      | None ↦ suc i
      | Some x ↦ cond (is_in_row prev x) (row_first prev es i) (suc i)
    ] in
    ap by at ∙ ap (λ c. cond c (row_first prev es i) (suc i)) is

pub row_stops : (prev : ℕ) (es : List Event) (i : ℕ) (e : Event) → slice_get es i ≡ Some e
    → is_take e ≡ true
    → row_first prev es (suc i) ≡ suc i
row_stops prev es i e at is = row_start_at prev es i e false at (receive_not_in_row prev e is)

pub row_start_within : (prev : ℕ) (es : List Event) (i : ℕ) → row_first prev es i ≤ i
row_start_within prev es zero = omega arith
row_start_within prev es (suc i) =
    let rest = row_start_within prev es i in
    elim (slice_get es i) as (λ o.
    elim o [ None ↦ suc i | Some e ↦ cond (is_in_row prev e) (row_first prev es i) (suc i) ]
    ≤ suc i) [
      | None ↦ omega arith
      | Some e ↦ elim (is_in_row prev e) as (λ b. cond b (row_first prev es i) (suc i) ≤ suc i) [
        | true ↦ omega arith
        | false ↦ omega arith
      ]
    ]

pub row_passes : (prev : ℕ) (es : List Event) (j i : ℕ) → j ≤ i → IsRowBetween prev es j i
    → row_first prev es i ≡ row_first prev es j
row_passes prev es j zero le row =
    let same : j ≡ 0 = omega arith in ap (row_first prev es) (sym same)
row_passes prev es j (suc i) le row = elim (cases_order j (suc i)) [
  | inl same ↦ ap (row_first prev es) (sym same)
  | inr other ↦ elim other [
    | inl less ↦
        let here = row i (omega arith) (omega arith) in
        row_start_at prev es i here.0 true here.1 here.2
        ∙ row_passes prev es j i (omega arith) (λ x low high. row x low (omega arith))
    | inr more ↦ absurd (omega arith)
  ]
]

-- THE RECEIVE BEFORE IT

pub received_at : (prev : ℕ) (es : List Event) (j : ℕ) (e : Event) → slice_get es j ≡ Some e
    → is_take e ≡ true
    → e.serial.this ≡ prev → take_before prev es (suc j) ≡ Some j
received_at prev es j e at is this =
    let by = λ (o : Option Event). elim o as (λ _. Option ℕ) [
      | None ↦ None
      | Some x ↦ cond (is_take x && x.serial.this == prev) (Some j) None
    ] in
    let both = both_true (is_take e) (e.serial.this == prev) is
    (eq-eqb e.serial.this prev this) in
    ap by at ∙ ap (λ c. cond c (Some j) None) both

-- WHAT A ROW SAYS

-- the row fills all places from its beginning to the index
pub row_between : (prev : ℕ) (es : List Event) (i : ℕ)
    → IsRowBetween prev es (row_first prev es i) i
row_between prev es zero = λ x low high. absurd (omega arith)
row_between prev es (suc i) =
    elim (slice_get es i) as (λ o. slice_get es i ≡ o
    → IsRowBetween prev es (elim o [
      | None ↦ suc i
      | Some e ↦ cond (is_in_row prev e) (row_first prev es i) (suc i)
    ]) (suc i)) [
      | None ↦ λ _ x low high. absurd (omega arith)
      | Some e ↦ λ at. elim (is_in_row prev e) as (λ b. is_in_row prev e ≡ b
          → IsRowBetween prev es (cond b (row_first prev es i) (suc i)) (suc i)) [
            | true ↦ λ is x low high. elim (cases_order x i) [
              | inl same ↦ (e, ap (slice_get es) same ∙ at, is)
              | inr other ↦ elim other [
                | inl less ↦ row_between prev es i x low less
                | inr more ↦ absurd (omega arith)
              ]
            ]
            | false ↦ λ _ x low high. absurd (omega arith)
          ] refl
    ] refl

-- the event at index j is a receive of the count, directly before index k
pub record IsReceivedBefore (es : List Event) (k j this : ℕ) : Type 0 where
  pub event : Event
  pub at : slice_get es j ≡ Some event
  pub receive : is_take event ≡ true
  pub count : event.serial.this ≡ this
  pub index : k ≡ suc j

pub received_is : (this : ℕ) (es : List Event) (k j : ℕ) → take_before this es k ≡ Some j
    → IsReceivedBefore es k j this
received_is this es zero j h = absurd (none-some j h)
received_is this es (suc k) j h =
    elim (slice_get es k) as (λ o. slice_get es k ≡ o
    → elim o [ None ↦ None | Some e ↦ cond (is_take e && e.serial.this == this) (Some k) None ]
    ≡ Some j
    → IsReceivedBefore es (suc k) j this) [
      | None ↦ λ _ h. absurd (none-some j h)
      | Some e ↦ λ at h.
          let parts = cond_some (is_take e && e.serial.this == this) k j h in
          let tests = and_parts (is_take e) (e.serial.this == this) parts.0 in
          record {
            event = e;
            at = ap (slice_get es) (sym parts.1) ∙ at;
            receive = tests.0;
            count = eqb-true e.serial.this this tests.1;
            index = ap suc parts.1;
          }
    ] refl h

-- the event directly before the row isn't in it
pub row_stopped : (prev : ℕ) (es : List Event) (i j : ℕ) (d : Event)
    → row_first prev es i ≡ suc j → slice_get es j ≡ Some d → is_in_row prev d ≡ false
row_stopped prev es zero j d starts at = absurd (omega arith)
row_stopped prev es (suc i) j d starts at =
    (elim (slice_get es i) as (λ o. slice_get es i ≡ o → (elim o as (λ _. ℕ) [
      | None ↦ suc i
      | Some e ↦ cond (is_in_row prev e) (row_first prev es i) (suc i)
    ]) ≡ suc j → is_in_row prev d ≡ false) [
      | None ↦ λ none is.
          let same : i ≡ j = omega arith in
          absurd (none-some d (sym none ∙ ap (slice_get es) same ∙ at))
      | Some e ↦ λ there. (elim (is_in_row prev e) as (λ b. is_in_row prev e ≡ b
          → cond b (row_first prev es i) (suc i) ≡ suc j → is_in_row prev d ≡ false) [
            | true ↦ λ _ is. row_stopped prev es i j d is at
            | false ↦ λ no is.
                let same : i ≡ j = omega arith in
                ap (is_in_row prev)
                (same_Some d e (sym at ∙ ap (slice_get es) (sym same) ∙ there)) ∙ no
          ]) refl
    ]) refl starts

-- if no receive of the count is directly before the row, a receive there has another count
pub not_received : (this : ℕ) (es : List Event) (j : ℕ) (d : Event)
    → take_before this es (suc j) ≡ None → slice_get es j ≡ Some d
    → (is_take d && d.serial.this == this) ≡ false
not_received this es j d none at =
    (elim (is_take d && d.serial.this == this) as (λ b.
    cond b (Some j) None ≡ None → b ≡ false) [
      | true ↦ λ is. absurd (none-some j (sym is))
      | false ↦ λ _. refl
    ])
    (sym (ap (λ (o : Option Event). elim o as (λ _. Option ℕ) [
      | None ↦ None
      | Some e ↦ cond (is_take e && e.serial.this == this) (Some j) None
    ]) at) ∙ none)
