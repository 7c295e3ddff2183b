-- Sends and prints: the one that `stamp_of` finds, and the last one before an index.
use Rattle.std.proofs.Common.{◌≡◌, ℕ, ◌+◌, ◌==◌, ◌&&◌, suc, Bool, true, false, cond, if◌then◌else◌}
use Rattle.std.proofs.Common.{List, [], ◌∷◌, Option, None, Some, slice_get, ◌∙◌, ap, subst, arith}
use Rattle.std.proofs.lemmas.Option.{same_Some}
use Rattle.st_core.specs.declared.types.Pid.{Pid}
use Rattle.st_core.specs.declared.types.Event.{Event}
use Rattle.st_core.specs.declared.types.Kind.TheVariants as kind
use Rattle.st_core.specs.Run.{Stream}
use Rattle.st_core.specs.Streams.{events_of}
use Rattle.st_pair.specs.Places.{is_stamp, first_from, or_else}
use Rattle.st_pair.specs.Pairing.{stamp_before, stamp_of}
use Rattle.st_pair.proofs.OwnStamps.{own_rule}

-- what a loop's goals name past the end
abbrev pub blank : Event
blank = record {
  label = record { 0 = 0 };
  kind = kind.Send;
  to = None;
  from = record { node = 0; number = 0 };
  serial = record { prev = 0; this = 0 };
  value = 0;
}

pub receive_unstamped : (e : Event) → e.kind ≡ kind.Receive → is_stamp e ≡ false
receive_unstamped e is =
    ap (λ k. elim k [ kind.Send ↦ true | kind.Receive ↦ false | kind.Print ↦ true ]) is

pub send_stamped : (e : Event) → e.kind ≡ kind.Send → is_stamp e ≡ true
send_stamped e is = ap (λ k. elim k [ kind.Send ↦ true | kind.Receive ↦ false | kind.Print ↦ true ])
    is

-- WHAT `stamp_of` FINDS

pub record IsStampAt (es : List Event) (i : ℕ) (f : ℕ × Event) : Type 0 where
  pub place : ℕ
  pub index : f.0 ≡ i + place
  pub at : slice_get es place ≡ Some f.1

stamp_from : (q : Pid) (this i : ℕ) (es : List Event) (f : ℕ × Event)
    → first_from (own_rule this) q i es ≡ Some f
    → IsStampAt es i f
stamp_from q this i [] f is = absurd (cc)
stamp_from q this i (e ∷ es) f is = elim (is_stamp e && e.serial.this == this)
    as (λ b. or_else (cond b (Some (i, e)) None) (first_from (own_rule this) q (i + 1) es) ≡ Some f
    → IsStampAt (e ∷ es) i f) [
      | true ↦ λ h. let same = same_Some (i, e) f h in
          record {
            place = 0;
            index = let j : i ≡ f.0 = ap (λ (x : ℕ × Event). x.0) same in
                omega arith;
            at = ap (λ (x : ℕ × Event). Some x.1) same;
          }
      | false ↦ λ h. let rest = stamp_from q this (i + 1) es f h in let index = rest.index in
          record { place = suc rest.place; index = omega arith; at = rest.at }
    ] is

module _ (streams : List Stream) (q : Pid) (this : ℕ) where
  pub stamp_at : (f : ℕ × Event) → stamp_of streams q this ≡ Some f
      → slice_get (events_of streams q) f.0 ≡ Some f.1
  stamp_at f is =
      let t = stamp_from q this 0 (events_of streams q) f is in
      let index : t.place ≡ f.0 = let j = t.index in omega arith in
      subst (λ (n : ℕ). slice_get (events_of streams q) n ≡ Some f.1) index t.at

-- THE LAST STAMP

-- the last send or print before the next index
pub before_more : (es : List Event) (i : ℕ) (e : Event) → slice_get es i ≡ Some e → (b : Bool)
    → is_stamp e ≡ b
    → stamp_before es (suc i) ≡ cond b (Some (i, e)) (stamp_before es i)
before_more es i e at b is = ap (λ (o : Option Event).
    elim o [
      | None ↦ stamp_before es i
      | Some f ↦
          if is_stamp f then Some (i, f) else stamp_before es i
    ]) at
    ∙ ap (λ (c : Bool). cond c (Some (i, e)) (stamp_before es i)) is
