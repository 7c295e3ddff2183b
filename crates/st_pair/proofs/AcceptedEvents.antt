-- If pairing accepts streams, no rule gives a fault at any event: a rule without a first fault has
-- none anywhere.
use Rattle.std.proofs.Common.{◌≡◌, ℕ, zero, suc, ◌+◌, ◌<◌, ◌==◌, ◌&&◌, ◌||◌, nat_lt, Bool, true}
use Rattle.std.proofs.Common.{false, cond, List, [], ◌∷◌, Option, Some, None, slice_get}
use Rattle.std.proofs.Common.{option_and_then, refl, sym, ◌∙◌, ap, arith, if◌then◌else◌}
use Rattle.std.proofs.lemmas.Bool.{eqb-true, eq-eqb, ltb-true, and_parts, and_from}
use Rattle.std.proofs.lemmas.Option.{same_Some, none-some}
use Rattle.st_core.specs.declared.types.Pid.{Pid}
use Rattle.st_core.specs.declared.types.Event.{Event}
use Rattle.st_core.specs.Pid.{pid_eq}
use Rattle.st_core.specs.Run.{Stream}
use Rattle.st_core.specs.Streams.{stream_of}
use Rattle.st_core.proofs.ForCallers.{pid_eq-true, pid_eq-same}
use Rattle.st_pair.specs.declared.answer.PairFault.{PairFault}
use Rattle.st_pair.specs.declared.answer.PairFault.TheVariants as fault
use Rattle.st_pair.specs.Places.{event_at, is_stamp, first_from, first}
use Rattle.st_pair.specs.Pairing.{receive_of, prev_not_before, not_rising, repeated, mismatch}
use Rattle.st_pair.specs.Pairing.{first_rule, refusal}

abbrev pub Rule : Type 0 → Type 0
Rule X = Pid → ℕ → Event → Option X

given_none : {X : Type 0} (given rest : Option X)
    → (let all : Option X = elim given [ None ↦ rest | Some y ↦ Some y ] in all) ≡ None
    → (given ≡ None) × (rest ≡ None)
given_none {X} None rest h = (refl, h)
given_none {X} (Some y) rest h = absurd (none-some y (sym h))

pub from_none : {X : Type 0} (rule : Rule X) (p : Pid) (k : ℕ) (es : List Event)
    → first_from rule p k es ≡ None
    → (j : ℕ) (e : Event) → slice_get es j ≡ Some e → rule p (k + j) e ≡ None
from_none {X} rule p k [] h j e at = absurd (none-some e at)
from_none {X} rule p k (d ∷ es) h zero e at =
    let parts = given_none (rule p k d) (first_from rule p (k + 1) es) h in
    let number : k + 0 ≡ k = omega arith in
    ap (λ n. rule p n e) number ∙ ap (rule p k) (sym (same_Some d e at)) ∙ parts.0
from_none {X} rule p k (d ∷ es) h (suc j) e at =
    let parts = given_none (rule p k d) (first_from rule p (k + 1) es) h in
    let number : k + suc j ≡ k + 1 + j = omega arith in
    ap (λ n. rule p n e) number ∙ from_none rule p (k + 1) es parts.1 j e at

-- a rule without a first fault gives none at any event
pub event_none : {X : Type 0} (rule : Rule X) (streams : List Stream) → first rule streams ≡ None
    → (p : Pid) (i : ℕ) (e : Event) → event_at streams p i ≡ Some e → rule p i e ≡ None
event_none {X} rule [] h p i e at = absurd (none-some e at)
event_none {X} rule (s ∷ streams) h p i e at =
    let parts = given_none (first_from rule s.pid 0 s.events) (first rule streams) h in
    elim (pid_eq s.pid p) as (λ b. pid_eq s.pid p ≡ b
    → slice_get (elim (cond b (Some s) (stream_of streams p)) [ None ↦ [] | Some y ↦ y.events ]) i
    ≡ Some e
    → rule p i e ≡ None) [
      | true ↦ λ same at. let number : 0 + i ≡ i = omega arith in
          ap (λ q. rule q i e) (sym (pid_eq-true s.pid p same))
          ∙ ap (λ n. rule s.pid n e) (sym number)
          ∙ from_none rule s.pid 0 s.events parts.0 i e at
      | false ↦ λ other at. event_none rule streams parts.1 p i e at
    ] refl at

rule_none : (streams : List Stream) (rule : Rule PairFault) (rules : List (Rule PairFault))
    → first_rule streams (rule ∷ rules) ≡ None → (first rule streams ≡ None)
    × (first_rule streams rules ≡ None)
rule_none streams rule rules h =
    elim (first rule streams) as (λ given.
    (elim given [ None ↦ first_rule streams rules | Some g ↦ Some g ]) ≡ None
    → (given ≡ None) × (first_rule streams rules ≡ None)) [
      | None ↦ λ h. (refl, h)
      | Some g ↦ λ h. absurd (none-some g (sym h))
    ] h

pub record IsPaired (streams : List Stream) : Type 0 where
  pub prev : first prev_not_before streams ≡ None
  pub rising : first (not_rising streams) streams ≡ None
  pub once : first (repeated streams) streams ≡ None
  pub matched : first (mismatch streams) streams ≡ None

pub paired : (streams : List Stream) → refusal streams ≡ None → IsPaired streams
paired streams h =
    let one = rule_none streams prev_not_before
    (not_rising streams ∷ repeated streams ∷ mismatch streams ∷ []) h in
    let two = rule_none streams (not_rising streams) (repeated streams ∷ mismatch streams ∷ [])
    one.1 in
    let three = rule_none streams (repeated streams) (mismatch streams ∷ []) two.1 in
    let four = rule_none streams (mismatch streams) [] three.1 in
    record { prev = one.0; rising = two.0; once = three.0; matched = four.0 }

pub cond_none : {X : Type 0} (b : Bool) (x : X) → cond b None (Some x) ≡ None → b ≡ true
cond_none true x h = refl
cond_none false x h = absurd (none-some x (sym h))

-- each serial rises
pub serial_rises : (streams : List Stream) → IsPaired streams → (p : Pid) (i : ℕ) (e : Event)
    → event_at streams p i ≡ Some e → e.serial.prev < e.serial.this
serial_rises streams ok p i e at = ltb-true e.serial.prev e.serial.this
    (cond_none (nat_lt e.serial.prev e.serial.this) (fault.PrevNotBefore p i)
    (event_none prev_not_before streams ok.prev p i e at))

abbrev pub got_rule : Pid → ℕ → Rule (Pid × ℕ)
got_rule q this p i e = if is_stamp e then None else if pid_eq e.from q
    && e.serial.this == this then Some
    (p, i) else None

receive_there : (streams : List Stream) (p : Pid) (i : ℕ) (e : Event)
    → event_at streams p i ≡ Some e
    → is_stamp e ≡ false → receive_of streams e.from e.serial.this ≡ None → ⊥
receive_there streams p i e at receive none =
    let given = event_none (got_rule e.from e.serial.this) streams none p i e at in
    let test : (pid_eq e.from e.from && e.serial.this == e.serial.this) ≡ true =
    and_from (pid_eq e.from e.from) (e.serial.this == e.serial.this) (pid_eq-same e.from)
    (eq-eqb e.serial.this e.serial.this refl) in
    let place : Pid × ℕ = (p, i) in
    none-some place (sym given ∙ ap
    (λ b. cond b None (cond (pid_eq e.from e.from && e.serial.this == e.serial.this) (Some place)
    None)) receive
    ∙ ap (λ b. cond b (Some place) None) test)

-- a receive is the first one with its sender and count
pub once_place : (streams : List Stream) → IsPaired streams → (p : Pid) (i : ℕ) (e : Event)
    → event_at streams p i ≡ Some e → is_stamp e ≡ false
    → receive_of streams e.from e.serial.this ≡ Some (p, i)
once_place streams ok p i e at receive =
    let given = event_none (repeated streams) streams ok.once p i e at in
    let sought = receive_of streams e.from e.serial.this in
    elim sought as (λ o. sought ≡ o
    → option_and_then (λ (x : Pid × ℕ). if is_stamp e || (pid_eq x.0 p && x.1 == i) then None else
    Some
    (fault.Repeated p i x.0 x.1)) o ≡ None → o ≡ Some (p, i)) [
      | None ↦ λ is h. absurd (receive_there streams p i e at receive is)
      | Some x ↦ λ is h.
          let tests = cond_none (is_stamp e || (pid_eq x.0 p && x.1 == i))
          (fault.Repeated p i x.0 x.1) h in
          let parts = and_parts (pid_eq x.0 p) (x.1 == i)
          (ap (λ b. b || (pid_eq x.0 p && x.1 == i)) (sym receive)
          ∙ tests) in
          let who = pid_eq-true x.0 p parts.0 in
          let index = eqb-true x.1 i parts.1 in
          λ k. Some (who k, index k)
    ] refl given
