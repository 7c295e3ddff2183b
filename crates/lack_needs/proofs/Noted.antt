-- An event tells of one process's stamp, so only the lowest count at its place changes, and the
-- lowest count of more events is the lower of those before and the new one.
use Rattle.std.proofs.Common.{◌≡◌, ◌≢◌, ℕ, zero, suc, ◌+◌, ◌<◌, ◌&&◌, ◌||◌, not, nat_lt, Bool}
use Rattle.std.proofs.Common.{true, false, cond, List, [], ◌∷◌, ◌++◌, length, take, get_or}
use Rattle.std.proofs.Common.{slice_get, slice_set, Option, Some, None, inl, inr, refl, sym, ◌∙◌}
use Rattle.std.proofs.Common.{ap, subst, arith, replicate}
use Rattle.std.specs.List.{AllByRecursion}
use Rattle.std.proofs.lemmas.List.{length-replicate}
use Rattle.std.proofs.lemmas.Bool.{cases_lt, false≢true, lt-ltb}
use Rattle.std.proofs.lemmas.Option.{get_or_from_slice_get, same_Some, slice_get_within}
use Rattle.st_core.specs.declared.types.Pid.{Pid}
use Rattle.st_core.specs.declared.types.Event.{Event}
use Rattle.st_core.specs.Pid.{pid_eq, IsRising}
use Rattle.st_core.specs.Run.{Stream}
use Rattle.st_core.proofs.ForCallers.{all_at, and_false, pid_eq-refl, pid_eq-swap}
use Rattle.st_core.proofs.ForCallers.{pid_same, or_false}
use Rattle.st_pair.specs.Places.{is_stamp}
use Rattle.st_plan.proofs.ForCallers.{take_more}
use Rattle.lack_needs.specs.Unfounded.{has_receive, lower_count, lowest_from, lowest_in}
use Rattle.lack_needs.specs.Unfounded.{lowest_with, IsNoted}
use Rattle.lack_needs.proofs.Passed.{one_place}

-- ONE EVENT MORE

pub or_assoc : (a b c : Bool) → (a || (b || c)) ≡ ((a || b) || c)
or_assoc true b c = refl
or_assoc false b c = refl

receive_push : (es : List Event) (e : Event) → has_receive (es ++ e ∷ [])
    ≡ (has_receive es || not (is_stamp e))
receive_push [] e = or_false (not (is_stamp e))
receive_push (d ∷ es) e =
    ap (λ b. not (is_stamp d) || b) (receive_push es e)
    ∙ or_assoc (not (is_stamp d)) (has_receive es) (not (is_stamp e))

lowest_push : (q : Pid) (low : Option ℕ) (es : List Event) (e : Event)
    → lowest_in q low (es ++ e ∷ []) ≡ lowest_with q (lowest_in q low es) e
lowest_push q low [] e = refl
lowest_push q low (d ∷ es) e = lowest_push q (lowest_with q low d) es e

lowest_stream : (q : Pid) (low : Option ℕ) (xs : List Stream) (x : Stream)
    → lowest_from q low (xs ++ x ∷ []) ≡ lowest_in q (lowest_from q low xs) x.events
lowest_stream q low [] x = refl
lowest_stream q low (y ∷ xs) x = lowest_stream q (lowest_in q low y.events) xs x

pub lowest_more : (q : Pid) (low : Option ℕ) (es : List Event) (i : ℕ) (e : Event)
    → slice_get es i ≡ Some e
    → lowest_with q (lowest_in q low (take i es)) e ≡ lowest_in q low (take (i + 1) es)
lowest_more q low es i e at =
    let next : suc i ≡ i + 1 = omega arith in
    sym (lowest_push q low (take i es) e) ∙ ap (lowest_in q low) (sym (take_more es i e at))
    ∙ ap (λ n. lowest_in q low (take n es)) next

pub lowest_next : (q : Pid) (low : Option ℕ) (xs : List Stream) (k : ℕ) (x : Stream)
    → slice_get xs k ≡ Some x
    → lowest_in q (lowest_from q low (take k xs)) x.events ≡ lowest_from q low (take (k + 1) xs)
lowest_next q low xs k x at =
    let next : suc k ≡ k + 1 = omega arith in
    sym (lowest_stream q low (take k xs) x) ∙ ap (lowest_from q low) (sym (take_more xs k x at))
    ∙ ap (λ n. lowest_from q low (take n xs)) next

pub receive_more : (es : List Event) (i : ℕ) (e : Event) → slice_get es i ≡ Some e
    → (has_receive (take i es) || not (is_stamp e)) ≡ has_receive (take (i + 1) es)
receive_more es i e at =
    let next : suc i ≡ i + 1 = omega arith in
    sym (receive_push (take i es) e) ∙ ap has_receive (sym (take_more es i e at))
    ∙ ap (λ n. has_receive (take n es)) next

-- STORES

set_other : {X : Type 0} (xs : List X) (i k : ℕ) (x : X) → k ≢ i
    → slice_get (slice_set xs i x) k ≡ slice_get xs k
set_other [] i k x apart = refl
set_other (y ∷ xs) zero zero x apart = absurd (apart refl)
set_other (y ∷ xs) zero (suc k) x apart = refl
set_other (y ∷ xs) (suc i) zero x apart = refl
set_other (y ∷ xs) (suc i) (suc k) x apart = set_other xs i k x (λ same. apart (ap suc same))

set_same : {X : Type 0} (xs : List X) (i : ℕ) (x : X) → i < length xs
    → slice_get (slice_set xs i x) i ≡ Some x
set_same [] i x within = absurd (omega arith)
set_same (y ∷ xs) zero x within = refl
set_same (y ∷ xs) (suc i) x within = set_same xs i x (omega arith)

set_long : {X : Type 0} (xs : List X) (i : ℕ) (x : X) → length (slice_set xs i x) ≡ length xs
set_long [] i x = refl
set_long (y ∷ xs) zero x = refl
set_long (y ∷ xs) (suc i) x = ap suc (set_long xs i x)

-- WHAT IS NOTED

pub noted_zero : (ps : List Pid) (low : Pid → Option ℕ) (lows : List (Option ℕ)) (e : Event)
    → e.serial.prev ≡ 0 → IsNoted ps low lows → IsNoted ps (λ q. lowest_with q (low q) e) lows
noted_zero ps low lows e is_zero noted = record {
  long = noted.long;
  each = λ k p at. noted.each k p at
      ∙ sym (ap (λ n. Some (cond (pid_eq e.from p && nat_lt 0 n)
      (Some (lower_count (low p) e.serial.this)) (low p)))
      is_zero
      ∙ ap (λ b. Some (cond b (Some (lower_count (low p) e.serial.this)) (low p)))
      (and_false (pid_eq e.from p) false refl));
}

pub noted_missing : (ps : List Pid) (low : Pid → Option ℕ) (lows : List (Option ℕ)) (e : Event)
    → AllByRecursion (λ p. pid_eq p e.from ≡ false) ps
    → IsNoted ps low lows → IsNoted ps (λ q. lowest_with q (low q) e) lows
noted_missing ps low lows e missing noted = record {
  long = noted.long;
  each = λ k p at.
      let other : pid_eq e.from p ≡ false =
      pid_eq-swap e.from p ∙ all_at (λ q. pid_eq q e.from ≡ false) ps k p missing at in
      noted.each k p at
      ∙ sym (ap (λ b. Some (cond (b && nat_lt 0 e.serial.prev)
      (Some (lower_count (low p) e.serial.this)) (low p))) other);
}

pub noted_here : (ps : List Pid) (low : Pid → Option ℕ) (lows new : List (Option ℕ)) (e : Event)
    (place : ℕ)
    → IsRising ps → slice_get ps place ≡ Some e.from → (e.serial.prev ≡ 0 → ⊥) → (was : Option ℕ)
    → was ≡ get_or lows place was → new ≡ slice_set lows place
    (Some (lower_count was e.serial.this))
    → IsNoted ps low lows → IsNoted ps (λ q. lowest_with q (low q) e) new
noted_here ps low lows new e place rising here some was read put noted =
    let long = noted.long in
    let fits = slice_get_within ps place e.from here in
    let within : place < length lows = omega arith in
    let low_here : was ≡ low e.from =
    read ∙ get_or_from_slice_get lows place (low e.from) was (noted.each place e.from here) in
    let above : 0 < e.serial.prev = elim (cases_lt 0 e.serial.prev) [
      | inl is ↦ is
      | inr not ↦ absurd (some (omega arith))
    ] in
    subst (λ xs. IsNoted ps (λ q. lowest_with q (low q) e) xs) (sym put) (record {
      long = set_long lows place (Some (lower_count was e.serial.this)) ∙ noted.long;
      each = λ k p at. elim (pid_eq e.from p) as (λ b. pid_eq e.from p ≡ b
          → slice_get (slice_set lows place (Some (lower_count was e.serial.this))) k
          ≡ Some (cond (b && nat_lt 0 e.serial.prev) (Some (lower_count (low p) e.serial.this))
          (low p))) [
            | true ↦ λ is.
                let same = pid_same e.from p is in
                let at_place : k ≡ place = one_place ps k place e.from rising
                (at ∙ ap (λ (x : Pid). Some x) (sym same)) here in
                ap (slice_get (slice_set lows place (Some (lower_count was e.serial.this))))
                at_place
                ∙ set_same lows place (Some (lower_count was e.serial.this)) within
                ∙ ap (λ l. Some (Some (lower_count l e.serial.this))) (low_here ∙ ap low same)
                ∙ sym (ap (λ b. Some (cond b (Some (lower_count (low p) e.serial.this)) (low p)))
                (lt-ltb 0 e.serial.prev above))
            | false ↦ λ other.
                set_other lows place k (Some (lower_count was e.serial.this))
                (λ same. false≢true (sym other ∙ ap (pid_eq e.from)
                (sym (same_Some e.from p (sym here ∙ ap (slice_get ps) (sym same) ∙ at)))
                ∙ pid_eq-refl e.from))
                ∙ noted.each k p at
          ] refl;
    })

-- at first no count is known
none_there : (n k : ℕ) → k < n → slice_get (replicate {A = Option ℕ} n None) k ≡ Some None
none_there zero k less = absurd (omega arith)
none_there (suc n) zero less = refl
none_there (suc n) (suc k) less = none_there n k (omega arith)

pub noted_none : (ps : List Pid) (n : ℕ) (lows : List (Option ℕ)) → n ≡ length ps
    → lows ≡ replicate n None → IsNoted ps (λ q. None) lows
noted_none ps n lows even is = subst (IsNoted ps (λ q. None)) (sym is) (record {
  long = length-replicate n None ∙ even;
  each = λ k p at. let within = slice_get_within ps k p at in none_there n k (omega arith);
})
