-- A send agrees with a receive exactly if it is a send and both have one label, prev, receiver and
-- value.
use Rattle.std.proofs.Common.{◌≡◌, ◌==◌, ◌&&◌, true, sym, ◌∙◌, ap}
use Rattle.std.proofs.lemmas.Bool.{eqb-true, eq-eqb, and_parts, and_from}
use Rattle.st_core.specs.declared.types.Label.{Label}
use Rattle.st_core.specs.declared.types.Event.{Event}
use Rattle.st_core.specs.Event.{to_eq}
use Rattle.st_core.proofs.ForCallers.{to_eq-true, to_eq-same}
use Rattle.st_pair.specs.Pairing.{agrees, is_send}

pub record IsAgreed (f e : Event) : Type 0 where
  pub sends : is_send f ≡ true
  pub label : f.label ≡ e.label
  pub prev : f.serial.prev ≡ e.serial.prev
  pub to : f.to ≡ e.to
  pub value : f.value ≡ e.value

pub agreed : (f e : Event) → agrees f e ≡ true → IsAgreed f e
agreed f e h =
    let to_value = to_eq f.to e.to && f.value == e.value in
    let prev_on = f.serial.prev == e.serial.prev && to_value in
    let one = and_parts (is_send f) (f.label.0 == e.label.0 && prev_on) h in
    let two = and_parts (f.label.0 == e.label.0) prev_on one.1 in
    let three = and_parts (f.serial.prev == e.serial.prev) to_value two.1 in
    let four = and_parts (to_eq f.to e.to) (f.value == e.value) three.1 in
    let number = eqb-true f.label.0 e.label.0 two.0 in
    record {
      sends = one.0;
      label = λ i. record { 0 = number i };
      prev = eqb-true f.serial.prev e.serial.prev three.0;
      to = to_eq-true f.to e.to four.0;
      value = eqb-true f.value e.value four.1;
    }

pub agrees_if : (f e : Event) → IsAgreed f e → agrees f e ≡ true
agrees_if f e is =
    let to_value = to_eq f.to e.to && f.value == e.value in
    let prev_on = f.serial.prev == e.serial.prev && to_value in
    let label = eq-eqb f.label.0 e.label.0 (ap (λ (l : Label). l.0) is.label) in
    let prev = eq-eqb f.serial.prev e.serial.prev is.prev in
    let to = ap (to_eq f.to) (sym is.to) ∙ to_eq-same f.to in
    let value = eq-eqb f.value e.value is.value in
    and_from (is_send f) (f.label.0 == e.label.0 && prev_on) is.sends
    (and_from (f.label.0 == e.label.0) prev_on label
    (and_from (f.serial.prev == e.serial.prev) to_value prev
    (and_from (to_eq f.to e.to) (f.value == e.value) to value)))
