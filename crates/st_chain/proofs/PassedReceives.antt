-- The last receive of all is the last one with its count; only a receive takes its place.
use Rattle.std.proofs.Common.{◌≡◌, ℕ, ◌+◌, ◌==◌, ◌&&◌, zero, suc, not, Bool, true, false, cond}
use Rattle.std.proofs.Common.{List}
use Rattle.std.proofs.Common.{Option, None, Some, slice_get, if◌then◌else◌, sym, ◌∙◌, ap, arith}
use Rattle.std.proofs.lemmas.Bool.{eq-eqb}
use Rattle.std.proofs.lemmas.Option.{none-some, same_Some}
use Rattle.st_core.specs.declared.types.Event.{Event}
use Rattle.st_pair.specs.Places.{is_stamp}
use Rattle.st_chain.specs.Causes.{received_before}
use Rattle.st_chain.specs.declared.receives.Passed.{Passed}
use Rattle.st_chain.specs.Kept.{latest_receive, ArePassed}

-- the last receive before the next index
last_more : (es : List Event) (i : ℕ) (e : Event) (b : Bool) → slice_get es i ≡ Some e
    → is_stamp e ≡ b
    → latest_receive es (i + 1) ≡ cond b (latest_receive es i) (Some (e.serial.this, i))
last_more es i e b at is =
    let next : i + 1 ≡ suc i = omega arith in
    ap (latest_receive es) next
    ∙ ap (λ (o : Option Event).
    elim o [
      | None ↦ latest_receive es i
      | Some f ↦ if is_stamp f then latest_receive es i else Some (f.serial.this, i)
    ]) at
    ∙ ap (λ (c : Bool). cond c (latest_receive es i) (Some (e.serial.this, i))) is

module _ (es : List Event) (i : ℕ) (e : Event) (at : slice_get es i ≡ Some e) (passed : Passed)
    (are : ArePassed es i passed) where
  -- past a send or print
  pub stamp_passed : is_stamp e ≡ true → ArePassed es (i + 1) passed
  stamp_passed stamps = record {
    last = are.last ∙ sym (last_more es i e true at stamps);
    within = let less = are.within in omega arith;
    noted = are.noted;
  }

  -- past a receive
  pub receive_passed : is_stamp e ≡ false
      → ArePassed es (i + 1) (record passed { last = Some (e.serial.this, i) })
  receive_passed receives = record {
    last = sym (last_more es i e false at receives);
    within = let less = are.within in omega arith;
    noted = are.noted;
  }

abbrev pub Found : List Event → ℕ → Option (ℕ × ℕ) → Type 0
Found es i last = (f : ℕ × ℕ) → last ≡ Some f → received_before es f.0 i ≡ Some f.1

pub last_found : (es : List Event) (i : ℕ) → Found es i (latest_receive es i)
last_found es zero = λ f h. absurd (none-some f h)
last_found es (suc i) = elim (slice_get es i) as (λ o. (f : ℕ × ℕ)
    → (elim o [
      | None ↦ latest_receive es i
      | Some e ↦ if is_stamp e then latest_receive es i else Some (e.serial.this, i)
    ])
    ≡ Some f
    → (elim o [
      | None ↦ received_before es f.0 i
      | Some e ↦ if not (is_stamp e) && e.serial.this == f.0 then Some i else received_before es f.0
          i
    ]) ≡ Some f.1) [
      | None ↦ last_found es i
      | Some e ↦ elim (is_stamp e) as (λ b. (f : ℕ × ℕ)
          → cond b (latest_receive es i) (Some (e.serial.this, i)) ≡ Some f
          → cond (not b && e.serial.this == f.0) (Some i) (received_before es f.0 i) ≡ Some f.1) [
            | true ↦ last_found es i
            | false ↦ λ f h.
                let same = same_Some (e.serial.this, i) f h in
                let count : e.serial.this ≡ f.0 = ap (λ (x : ℕ × ℕ). x.0) same in
                ap (λ (b : Bool). cond b (Some i) (received_before es f.0 i))
                (eq-eqb e.serial.this f.0 count)
                ∙ ap (λ (x : ℕ × ℕ). Some x.1) same
          ]
    ]
