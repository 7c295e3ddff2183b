-- A refusal is what one of the four rules gives at some event, so its reason says of that event and
-- of the one that it was compared with what the rule tests.
use Rattle.std.proofs.Common.{◌≡◌, ℕ, ◌<◌, ◌≤◌, ◌==◌, ◌&&◌, ◌||◌, ◌⊎◌, zero, suc, nat_lt, true}
use Rattle.std.proofs.Common.{false, not, cond, List, [], ◌∷◌, Some, None, inl, inr, refl, subst}
use Rattle.std.proofs.Common.{Option, ap, arith, if◌then◌else◌}
use Rattle.std.specs.List.{slice_get}
use Rattle.std.proofs.lemmas.Bool.{ltb-false, or_parts}
use Rattle.std.proofs.lemmas.Option.{same_Some, none-some, option_and_then_some}
use Rattle.st_core.specs.declared.types.Pid.{Pid}
use Rattle.st_core.specs.declared.types.Event.{Event}
use Rattle.st_core.specs.Pid.{pid_eq, IsRising}
use Rattle.st_core.specs.Run.{Stream, pids_of}
use Rattle.st_core.specs.Streams.{events_of}
use Rattle.st_core.proofs.ForCallers.{not_false}
use Rattle.st_pair.specs.declared.answer.PairFault.{PairFault}
use Rattle.st_pair.specs.declared.answer.PairFault.TheVariants as fault
use Rattle.st_pair.specs.Places.{event_at, is_stamp, first, or_else}
use Rattle.st_pair.specs.Pairing.{stamp_before, stamp_of, receive_of, agrees, prev_not_before}
use Rattle.st_pair.specs.Pairing.{not_rising, repeated, mismatch, first_rule, refusal}
use Rattle.st_pair.proofs.AcceptedEvents.{Rule}
use Rattle.st_pair.proofs.Converse.{given_at, some_unless}

-- WHICH RULE DECIDED

one_rule : (streams : List Stream) (rule : Rule PairFault) (rules : List (Rule PairFault))
    (f : PairFault)
    → first_rule streams (rule ∷ rules) ≡ Some f → (first rule streams ≡ Some f)
    ⊎ (first_rule streams rules ≡ Some f)
one_rule streams rule rules f h = elim (first rule streams)
    as (λ given. or_else given (first_rule streams rules) ≡ Some f
    → (given ≡ Some f) ⊎ (first_rule streams rules ≡ Some f)) [
      | None ↦ λ h. inr h
      | Some g ↦
          λ h. inl h
    ] h

pub data IsReason (streams : List Stream) (f : PairFault) : Type 0 where
  ByPrev : first prev_not_before streams ≡ Some f → IsReason streams f
  ByRising : first (not_rising streams) streams ≡ Some f → IsReason streams f
  ByRepeated : first (repeated streams) streams ≡ Some f → IsReason streams f
  ByMismatch : first (mismatch streams) streams ≡ Some f → IsReason streams f

pub reason_of : (streams : List Stream) (f : PairFault) → refusal streams ≡ Some f
    → IsReason streams f
reason_of streams f h =
    let fourth = mismatch streams ∷ [] in
    let third = repeated streams ∷ fourth in
    let second = not_rising streams ∷ third in
    elim (one_rule streams prev_not_before second f h) [
      | inl found ↦ ByPrev found
      | inr h ↦ elim (one_rule streams (not_rising streams) third f h) [
        | inl found ↦ ByRising found
        | inr h ↦ elim (one_rule streams (repeated streams) fourth f h) [
          | inl found ↦ ByRepeated found
          | inr h ↦ elim (one_rule streams (mismatch streams) [] f h) [
            | inl found ↦ ByMismatch found
            | inr h ↦ absurd (none-some f h)
          ]
        ]
      ]
    ]

-- WHAT EACH RULE SAYS OF ITS EVENT

module _ (streams : List Stream) (p : Pid) (i : ℕ) (e : Event) (f : PairFault) where
  pub record SaysPrev : Type 0 where
    pub falls : e.serial.this ≤ e.serial.prev
    pub is : fault.PrevNotBefore p i ≡ f

  pub prev_says : prev_not_before p i e ≡ Some f → SaysPrev
  prev_says h =
      let parts = some_unless (nat_lt e.serial.prev e.serial.this) (fault.PrevNotBefore p i) f h in
      record { falls = ltb-false e.serial.prev e.serial.this parts.0; is = parts.1 }

  pub record SaysRising : Type 0 where
    pub other : ℕ × Event
    pub before : stamp_before (events_of streams p) i ≡ Some other
    pub stamps : is_stamp e ≡ true
    pub falls : e.serial.this ≤ other.1.serial.this
    pub is : fault.NotRising p i other.0 ≡ f

  pub rising_says : not_rising streams p i e ≡ Some f → SaysRising
  rising_says h =
      let test = λ (g : ℕ × Event). not (is_stamp e) || nat_lt g.1.serial.this e.serial.this in
      option_and_then_some (λ (g : ℕ × Event).
      if test g then None else Some (fault.NotRising p i g.0))
      (stamp_before (events_of streams p) i) f h (λ g is given.
      let parts = some_unless (test g) (fault.NotRising p i g.0) f given in
      let tests = or_parts (not (is_stamp e)) (nat_lt g.1.serial.this e.serial.this) parts.0 in
      record {
        other = g;
        before = is;
        stamps = not_false (is_stamp e) tests.0;
        falls = ltb-false g.1.serial.this e.serial.this tests.1;
        is = parts.1;
      })

  pub record SaysRepeated : Type 0 where
    pub other : Pid × ℕ
    pub earlier : receive_of streams e.from e.serial.this ≡ Some other
    pub receives : is_stamp e ≡ false
    pub apart : (pid_eq other.0 p && other.1 == i) ≡ false
    pub is : fault.Repeated p i other.0 other.1 ≡ f

  pub repeated_says : repeated streams p i e ≡ Some f → SaysRepeated
  repeated_says h =
      let here = λ (at : Pid × ℕ). pid_eq at.0 p && at.1 == i in
      option_and_then_some (λ (at : Pid × ℕ). if is_stamp e || here at then None
      else Some (fault.Repeated p i at.0 at.1)) (receive_of streams e.from e.serial.this) f h
      (λ at is given.
      let parts = some_unless (is_stamp e || here at) (fault.Repeated p i at.0 at.1) f given in
      let tests = or_parts (is_stamp e) (here at) parts.0 in
      record { other = at; earlier = is; receives = tests.0; apart = tests.1; is = parts.1 })

  pub record SaysMismatch : Type 0 where
    pub other : ℕ × Event
    pub sent : stamp_of streams e.from e.serial.this ≡ Some other
    pub receives : is_stamp e ≡ false
    pub differs : agrees other.1 e ≡ false
    pub is : fault.Mismatch p i e.from other.0 ≡ f

  pub mismatch_says : mismatch streams p i e ≡ Some f → SaysMismatch
  mismatch_says h =
      option_and_then_some (λ (g : ℕ × Event). if is_stamp e || agrees g.1 e then None
      else Some (fault.Mismatch p i e.from g.0)) (stamp_of streams e.from e.serial.this) f h
      (λ g is given.
      let parts = some_unless (is_stamp e || agrees g.1 e) (fault.Mismatch p i e.from g.0) f
      given in
      let tests = or_parts (is_stamp e) (agrees g.1 e) parts.0 in
      record { other = g; sent = is; receives = tests.0; differs = tests.1; is = parts.1 })

-- WHERE A REASON IS

-- the place that a fault names first
abbrev pub place_of : PairFault → Option (Pid × ℕ)
place_of fault.Memory = None
place_of (fault.PrevNotBefore p i) = Some (p, i)
place_of (fault.NotRising p i j) = Some (p, i)
place_of (fault.Repeated p i q j) = Some (p, i)
place_of (fault.Mismatch p i q j) = Some (p, i)

-- the place that a reason names has an event
pub reason_at : (streams : List Stream) (f : PairFault) → IsRising (pids_of streams)
    → refusal streams ≡ Some f → (x : Pid × ℕ) × (e : Event)
    × (event_at streams x.0 x.1 ≡ Some e) × (Some x ≡ place_of f)
reason_at streams f rising h = elim (reason_of streams f h) [
  | ByPrev found ↦
      let x = given_at prev_not_before streams f rising found in
      let is = (prev_says streams x.pid x.index x.event f x.gives).is in
      ((x.pid, x.index), x.event, x.at, ap place_of is)
  | ByRising found ↦
      let x = given_at (not_rising streams) streams f rising found in
      let is = (rising_says streams x.pid x.index x.event f x.gives).is in
      ((x.pid, x.index), x.event, x.at, ap place_of is)
  | ByRepeated found ↦
      let x = given_at (repeated streams) streams f rising found in
      let is = (repeated_says streams x.pid x.index x.event f x.gives).is in
      ((x.pid, x.index), x.event, x.at, ap place_of is)
  | ByMismatch found ↦
      let x = given_at (mismatch streams) streams f rising found in
      let is = (mismatch_says streams x.pid x.index x.event f x.gives).is in
      ((x.pid, x.index), x.event, x.at, ap place_of is)
]

-- THE LAST STAMP

-- the last send or print before index i is one, and is before it
pub record IsStampBefore (es : List Event) (i : ℕ) (g : ℕ × Event) : Type 0 where
  pub below : g.0 < i
  pub at : slice_get es g.0 ≡ Some g.1
  pub stamps : is_stamp g.1 ≡ true

later : (es : List Event) (i : ℕ) (g : ℕ × Event) → IsStampBefore es i g
    → IsStampBefore es (suc i) g
later es i g b = let below = b.below in record { below = omega arith; at = b.at; stamps = b.stamps }

pub stamp_before_at : (es : List Event) (i : ℕ) (g : ℕ × Event) → stamp_before es i ≡ Some g
    → IsStampBefore es i g
stamp_before_at es zero g h = absurd (none-some g h)
stamp_before_at es (suc i) g h =
    let rest = stamp_before es i in
    elim (slice_get es i) as (λ at. slice_get es i ≡ at
    → (elim at [ None ↦ rest | Some e ↦ if is_stamp e then Some (i, e) else rest ]) ≡ Some g
    → IsStampBefore es (suc i) g) [
      | None ↦ λ at h. later es i g (stamp_before_at es i g h)
      | Some e ↦ λ at h. elim (is_stamp e)
          as (λ b. is_stamp e ≡ b → cond b (Some (i, e)) rest ≡ Some g
          → IsStampBefore es (suc i) g) [
            | true ↦ λ is h. subst (IsStampBefore es (suc i)) (same_Some (i, e) g h)
                (record { below = omega arith; at = at; stamps = is })
            | false ↦ λ is h. later es i g (stamp_before_at es i g h)
          ] refl h
    ] refl h
