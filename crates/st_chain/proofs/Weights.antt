-- The way back ends: a cause has a smaller count, or the same and is a send.
use Rattle.std.proofs.Common.{◌≡◌, ℕ, ◌+◌, ◌*◌, ◌<◌, ◌==◌, ◌&&◌, not, zero, suc, Bool, true, false}
use Rattle.std.proofs.Common.{cond, if◌then◌else◌, List, [], ◌∷◌, Option, None, Some, slice_get}
use Rattle.std.proofs.Common.{option_map, refl, sym, ◌∙◌, ap, arith}
use Rattle.std.proofs.lemmas.Bool.{eqb-true, and_parts}
use Rattle.std.proofs.lemmas.Option.{same_Some}
use Rattle.st_core.specs.declared.types.Pid.{Pid}
use Rattle.st_core.specs.declared.types.Event.{Event}
use Rattle.st_core.specs.Run.{Stream}
use Rattle.st_core.specs.Streams.{events_of}
use Rattle.st_core.proofs.ForCallers.{not_true}
use Rattle.st_pair.specs.declared.answer.Source.TheVariants as source
use Rattle.st_pair.specs.Places.{event_at, is_stamp, first_from, or_else}
use Rattle.st_pair.specs.Pairing.{stamp_of, refusal}
use Rattle.st_pair.proofs.ForCallers.{own_rule, stamp_at, IsPaired, paired, serial_rises}
use Rattle.st_chain.specs.Causes.{received_before, of_source, of_receive, cause_by, cause_at}
use Rattle.st_chain.specs.Causes.{place_of_cause, weight, far}

record IsReceive (es : List Event) (this j : ℕ) : Type 0 where
  event : Event
  at : slice_get es j ≡ Some event
  count : event.serial.this ≡ this
  receive : is_stamp event ≡ false

before_found : (es : List Event) (this i j : ℕ) → received_before es this i ≡ Some j
    → IsReceive es this j
before_found es this zero j h = absurd (cc)
before_found es this (suc i) j h = elim (slice_get es i)
    as (λ o. slice_get es i ≡ o → (elim o [
      | None ↦ received_before es this i
      | Some e ↦
          if not (is_stamp e) && e.serial.this == this then Some i else received_before es this i
    ]) ≡ Some j
    → IsReceive es this j) [
      | None ↦ λ at h. before_found es this i j h
      | Some e ↦ λ at h. elim (not (is_stamp e) && e.serial.this == this)
          as (λ b. (not (is_stamp e) && e.serial.this == this) ≡ b
          → cond b (Some i) (received_before es this i) ≡ Some j
          → IsReceive es this j) [
            | true ↦ λ is h.
                let parts = and_parts (not (is_stamp e)) (e.serial.this == this) is in
                record {
                  event = e;
                  at = ap (slice_get es) (sym (same_Some i j h)) ∙ at;
                  count = eqb-true e.serial.this this parts.1;
                  receive = not_true (is_stamp e) parts.0;
                }
            | false ↦ λ is h. before_found es this i j h
          ] refl h
    ] refl h

stamp_is : (q : Pid) (this i : ℕ) (es : List Event) (f : ℕ × Event)
    → first_from (own_rule this) q i es ≡ Some f
    → (is_stamp f.1 ≡ true) × (f.1.serial.this ≡ this)
stamp_is q this i [] f h = absurd (cc)
stamp_is q this i (e ∷ es) f h = elim (is_stamp e && e.serial.this == this)
    as (λ b. (is_stamp e && e.serial.this == this) ≡ b
    → or_else (cond b (Some (i, e)) None) (first_from (own_rule this) q (i + 1) es) ≡ Some f
    → (is_stamp f.1 ≡ true) × (f.1.serial.this ≡ this)) [
      | true ↦ λ is h.
          let parts = and_parts (is_stamp e) (e.serial.this == this) is in
          let same : e ≡ f.1 = ap (λ (x : ℕ × Event). x.1) (same_Some (i, e) f h) in (
            ap is_stamp (sym same) ∙ parts.0,
            ap (λ (x : Event). x.serial.this) (sym same)
                ∙ eqb-true e.serial.this this parts.1,
          )
      | false ↦ λ is h. stamp_is q this (i + 1) es f h
    ] refl h

far_at : (streams : List Stream) (q : Pid) (j : ℕ) (f : Event) → event_at streams q j ≡ Some f
    → far streams (Some (q, j)) ≡ 1 + weight f
far_at streams q j f at =
    ap (λ (o : Option Event). 1 + (elim o [ None ↦ 0 | Some e ↦ weight e ])) at

weight_by : (e : Event) (b : Bool) → is_stamp e ≡ b
    → weight e ≡ 2 * e.serial.this + (if b then 1 else 2)
weight_by e b is = ap (λ (c : Bool). 2 * e.serial.this + (if c then 1 else 2)) is

module _ (streams : List Stream) (ok : IsPaired streams) (p : Pid) (i : ℕ) (e : Event)
    (at : event_at streams p i ≡ Some e) where
  stamp_back : is_stamp e ≡ true → (o : Option ℕ)
      → received_before (events_of streams p) e.serial.prev i ≡ o
      → far streams (place_of_cause (Some (of_receive p o))) < 1 + weight e
  stamp_back is None found = omega arith
  stamp_back is (Some j) found =
      let r = before_found (events_of streams p) e.serial.prev i j found in
      let f = r.event in
      let lies = far_at streams p j f r.at in
      let one = weight_by f false r.receive in
      let two = weight_by e true is in
      let count = r.count in
      let rises = serial_rises streams ok p i e at in
      omega arith

  receive_back : is_stamp e ≡ false → (o : Option (ℕ × Event))
      → stamp_of streams e.from e.serial.this ≡ o
      → far streams (place_of_cause (Some (of_source
      (elim o [ None ↦ source.Hidden | Some f ↦ source.Event e.from f.0 ])))) < 1 + weight e
  receive_back is None found = omega arith
  receive_back is (Some f) found =
      let lies = far_at streams e.from f.0 f.1 (stamp_at streams e.from e.serial.this f found) in
      let parts = stamp_is e.from e.serial.this 0 (events_of streams e.from) f found in
      let one = weight_by f.1 true parts.0 in
      let two = weight_by e false is in
      let count = parts.1 in
      omega arith

  event_back : far streams (place_of_cause (Some (cause_by streams p i e))) < 1 + weight e
  event_back = elim (is_stamp e)
      as (λ b. is_stamp e ≡ b → far streams
      (place_of_cause (Some (if b then of_receive p
      (received_before (events_of streams p) e.serial.prev i) else of_source
      (elim (stamp_of streams e.from e.serial.this) [
        | None ↦ source.Hidden
        | Some f ↦ source.Event e.from f.0
      ])))) < 1 + weight e) [
        | true ↦ λ is. stamp_back is (received_before (events_of streams p) e.serial.prev i) refl
        | false ↦ λ is. receive_back is (stamp_of streams e.from e.serial.this) refl
      ] refl

pub back_smaller : (streams : List Stream) → refusal streams ≡ None → (p : Pid) (i : ℕ)
    → far streams (place_of_cause (cause_at streams p i)) < far streams (Some (p, i))
back_smaller streams accepted p i = elim (event_at streams p i)
    as (λ o. event_at streams p i ≡ o
    → far streams (place_of_cause (option_map (cause_by streams p i) o)) < 1
    + (elim o [ None ↦ 0 | Some e ↦ weight e ])) [
      | None ↦ λ at. omega arith
      | Some e ↦ λ at. event_back streams (paired streams accepted) p i e at
    ] refl
