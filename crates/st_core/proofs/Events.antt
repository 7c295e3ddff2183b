-- `event_eq` is true exactly if two events are equal, since it compares them part by part.
use Rattle.std.proofs.Common.{◌≡◌, true, Option, Some, None, refl, ap}
use Rattle.std.proofs.lemmas.Bool.{eqb-true, eq-eqb}
use Rattle.st_core.specs.declared.types.Pid.{Pid}
use Rattle.st_core.specs.declared.types.Kind.{Kind}
use Rattle.st_core.specs.declared.types.Kind.TheVariants as kind
use Rattle.st_core.specs.declared.types.Event.{Event}
use Rattle.st_core.specs.Event.{kind_eq, to_eq, event_eq}
use Rattle.st_core.proofs.Pids.{pid_eq-true, pid_eq-same}
use Rattle.st_core.proofs.Bools.{both_of}

kind_eq-true : (k l : Kind) → kind_eq k l ≡ true → k ≡ l
kind_eq-true kind.Send kind.Send h = refl
kind_eq-true kind.Receive kind.Receive h = refl
kind_eq-true kind.Print kind.Print h = refl
kind_eq-true k l h = absurd (cc)

kind_eq-same : (k : Kind) → kind_eq k k ≡ true
kind_eq-same kind.Send = refl
kind_eq-same kind.Receive = refl
kind_eq-same kind.Print = refl

pub to_eq-true : (p q : Option Pid) → to_eq p q ≡ true → p ≡ q
to_eq-true None None h = refl
to_eq-true (Some p) (Some q) h = ap (λ (x : Pid). Some x) (pid_eq-true p q h)
to_eq-true p q h = absurd (cc)

pub to_eq-same : (p : Option Pid) → to_eq p p ≡ true
to_eq-same None = refl
to_eq-same (Some p) = pid_eq-same p

pub event_eq-true : (d e : Event) → event_eq d e ≡ true → d ≡ e
event_eq-true d e h =
    let one = both_of _ _ h in
    let two = both_of _ _ one.1 in
    let three = both_of _ _ two.1 in
    let four = both_of _ _ three.1 in
    let five = both_of _ _ four.1 in
    let six = both_of _ _ five.1 in
    let label = eqb-true d.label.0 e.label.0 one.0 in
    let kind = kind_eq-true d.kind e.kind two.0 in
    let prev = eqb-true d.serial.prev e.serial.prev three.0 in
    let this = eqb-true d.serial.this e.serial.this four.0 in
    let from = pid_eq-true d.from e.from five.0 in
    let to = to_eq-true d.to e.to six.0 in
    let value = eqb-true d.value e.value six.1 in
    λ i.
    record {
      label = record { 0 = label i };
      kind = kind i;
      serial = record { prev = prev i; this = this i };
      from = from i;
      to = to i;
      value = value i;
    }

pub event_eq-same : (e : Event) → event_eq e e ≡ true
event_eq-same e =
    rw (
      eq-eqb e.label.0 e.label.0 refl,
      kind_eq-same e.kind,
      eq-eqb e.serial.prev e.serial.prev refl,
      eq-eqb e.serial.this e.serial.this refl,
      pid_eq-same e.from,
      to_eq-same e.to,
      eq-eqb e.value e.value refl,
    ) refl
