-- The first receive of each key: a table that takes receives in their order, and keeps the first
-- of each key, is told by a key that is there already that its message was received before.
use Rattle.std.proofs.Common.{◌≡◌, ℕ, ◌+◌, ◌==◌, ◌&&◌, ◌||◌, ◌⊎◌, inl, inr, Bool, true, false, cond}
use Rattle.std.proofs.Common.{List, length, get_or, drop, ◌<◌, Option, None, Some, slice_get, refl}
use Rattle.std.proofs.Common.{sym, ◌∙◌, ap, subst, if◌then◌else◌, option_and_then, Result, Ok, Err}
use Rattle.std.proofs.Common.{IfErr}
use Rattle.std.proofs.lemmas.Bool.{eqb-true, eq-eqb, and_parts, and_from}
use Rattle.st_core.specs.declared.types.Pid.{Pid}
use Rattle.st_core.specs.declared.types.Event.{Event}
use Rattle.st_core.specs.Pid.{pid_eq, IsRising}
use Rattle.st_core.specs.Run.{Stream, pids_of}
use Rattle.st_core.specs.Streams.{events_of}
use Rattle.st_core.proofs.ForCallers.{pid_eq-true, pid_eq-same}
use Rattle.st_pair.specs.declared.answer.PairFault.{PairFault}
use Rattle.st_pair.specs.declared.answer.PairFault.TheVariants as fault
use Rattle.st_pair.specs.declared.receives.Key.{Key}
use Rattle.st_pair.specs.Places.{is_stamp, first, first_from, or_else}
use Rattle.st_pair.specs.Pairing.{receive_of, repeated}
use Rattle.st_pair.specs.Rules.{repeated_by, IsFirstFault}
use Rattle.st_pair.specs.Tables.{here, key_eq, key_in, receive_rule, HasReceivesWith}
use Rattle.st_pair.proofs.AcceptedEvents.{cond_none}
use Rattle.st_pair.proofs.Firsts.{first-events, first_from-step, or_none, or_assoc}

abbrev pub Table : Type 0
Table = Key → Option (Pid × ℕ)

pub key_eq-true : (k l : Key) → key_eq k l ≡ true → k ≡ l
key_eq-true k l h =
    let parts = and_parts (pid_eq k.from l.from) (k.this == l.this) h in
    let from = pid_eq-true k.from l.from parts.0 in
    let this = eqb-true k.this l.this parts.1 in
    λ i. record { from = from i; this = this i }

-- A RECEIVE IS NOTED

abbrev put : Bool → Pid × ℕ → Option (Pid × ℕ) → Option (Pid × ℕ)
put b place old = cond b (Some place) old

put_under : (b : Bool) (place : Pid × ℕ) (old : Option (Pid × ℕ))
    → (b ≡ true → (old ≡ None) ⊎ (old ≡ Some place))
    → put b place old ≡ or_else old (put b place None)
put_under false place old was = sym (or_none old)
put_under true place old was = elim (was refl) [
  | inl none ↦ ap (λ (o : Option (Pid × ℕ)). or_else o (Some place)) (sym none)
  | inr same ↦ sym (ap (λ (o : Option (Pid × ℕ)). or_else o (Some place)) same)
]

-- writing a key that wasn't there, or that had this very place, adds the place for this key alone
pub noted : (before after : Table) (key : Key) (place : Pid × ℕ)
    → ((k : Key) → after k ≡ cond (key_eq key k) (Some place) (before k))
    → (before key ≡ None) ⊎ (before key ≡ Some place) → (k : Key)
    → after k ≡ or_else (before k) (here key place k)
noted before after key place written was k =
    written k ∙ put_under (key_eq key k) place (before k)
    (λ same. subst (λ l. (before l ≡ None) ⊎ (before l ≡ Some place))
    (key_eq-true key k same) was)

-- WHAT A RECEIVE GIVES

here_rule : (k : Key) (p : Pid) (i : ℕ) (e : Event) → is_stamp e ≡ false
    → receive_rule k p i e ≡ here (key_in e) (p, i) k
here_rule k p i e receives = ap (λ (b : Bool). cond b None (here (key_in e) (p, i) k)) receives

pub key_eq-same : (k : Key) → key_eq k k ≡ true
key_eq-same k = and_from (pid_eq k.from k.from) (k.this == k.this) (pid_eq-same k.from)
    (eq-eqb k.this k.this refl)

pub here_same : (k : Key) (place : Pid × ℕ) → here k place k ≡ Some place
here_same k place = ap (λ (b : Bool). cond b (Some place) None) (key_eq-same k)

-- one key at the next event, by what the table gave before these events and what it gives now
module _ (k : Key) (before now : Option (Pid × ℕ)) (p : Pid) (i : ℕ) (es : List Event) (e : Event)
    (at : slice_get es i ≡ Some e) (receives : is_stamp e ≡ false)
    (so_far : or_else now (first_from (receive_rule k) p i (drop i es))
    ≡ or_else before (first_from (receive_rule k) p 0 es)) where
  -- the key after the receive is noted
  pub key_noted : (after : Option (Pid × ℕ)) → after ≡ or_else now (here (key_in e) (p, i) k)
      → or_else after (first_from (receive_rule k) p (i + 1) (drop (i + 1) es))
      ≡ or_else before (first_from (receive_rule k) p 0 es)
  key_noted after is =
      let rest = first_from (receive_rule k) p (i + 1) (drop (i + 1) es) in
      ap (λ (o : Option (Pid × ℕ)). or_else o rest)
      (is ∙ ap (or_else now) (sym (here_rule k p i e receives)))
      ∙ or_assoc now (receive_rule k p i e) rest
      ∙ ap (or_else now) (sym (first_from-step (receive_rule k) p i es e at)) ∙ so_far

  -- the first receive with the key is that of the table, or it is itself the first
  pub key_repeated : key_in e ≡ k
      → (streams : List Stream) (rest : Option (Pid × ℕ)) (first : Pid × ℕ)
      → or_else before (or_else (first_from (receive_rule k) p 0 es) rest)
      ≡ receive_of streams k.from k.this
      → Some first ≡ or_else now (Some (p, i)) → repeated streams p i e ≡ repeated_by first p i
  key_repeated own_key streams rest first all is =
      let later = first_from (receive_rule k) p (i + 1) (drop (i + 1) es) in
      let given = first_from (receive_rule k) p 0 es in
      let own : receive_rule k p i e ≡ Some (p, i) = here_rule k p i e receives
      ∙ ap (λ (l : Key). here l (p, i) k) own_key ∙ here_same k (p, i) in
      let front : first_from (receive_rule k) p i (drop i es) ≡ Some (p, i) =
      first_from-step (receive_rule k) p i es e at ∙ ap (λ (o : Option (Pid × ℕ)). or_else o later)
      own in
      let found : or_else before given ≡ Some first =
      sym so_far ∙ ap (or_else now) front ∙ sym is in
      let sought : receive_of streams e.from e.serial.this ≡ Some first =
      ap (λ (l : Key). receive_of streams l.from l.this) own_key
      ∙ sym all ∙ sym (or_assoc before given rest)
      ∙ ap (λ (o : Option (Pid × ℕ)). or_else o rest) found in
      ap (option_and_then (λ (at : Pid × ℕ). if is_stamp e || (pid_eq at.0 p && at.1 == i) then None
      else Some (fault.Repeated p i at.0 at.1))) sought
      ∙ ap (λ (b : Bool). cond (b || (pid_eq first.0 p && first.1 == i)) None
      (Some (fault.Repeated p i first.0 first.1)))
      receives

module _ (before now : Table) (p : Pid) (i : ℕ) (es : List Event) (e : Event)
    (at : slice_get es i ≡ Some e) (receives : is_stamp e ≡ false)
    (so_far : (k : Key) → or_else (now k) (first_from (receive_rule k) p i (drop i es))
    ≡ or_else (before k) (first_from (receive_rule k) p 0 es)) where
  -- the table once it is noted
  pub noted_more : (after : Table)
      → ((k : Key) → after k ≡ or_else (now k) (here (key_in e) (p, i) k)) → (k : Key)
      → or_else (after k) (first_from (receive_rule k) p (i + 1) (drop (i + 1) es))
      ≡ or_else (before k) (first_from (receive_rule k) p 0 es)
  noted_more after is k = key_noted k (before k) (now k) p i es e at receives (so_far k) (after k)
      (is k)

  pub repeated_at : (streams : List Stream) (rest : Table) (first : Pid × ℕ)
      → HasReceivesWith streams before (λ k. or_else (first_from (receive_rule k) p 0 es) (rest k))
      → Some first ≡ or_else (now (key_in e)) (Some (p, i))
      → repeated streams p i e ≡ repeated_by first p i
  repeated_at streams rest first all is =
      let k = key_in e in
      key_repeated k (before k) (now k) p i es e at receives (so_far k) refl streams (rest k) first
      (all k) is

-- a send or print gives nothing
pub unnoted_passed : (k : Key) (p : Pid) (i : ℕ) (es : List Event) (e : Event)
    → slice_get es i ≡ Some e
    → is_stamp e ≡ true
    → first_from (receive_rule k) p i (drop i es)
    ≡ first_from (receive_rule k) p (i + 1) (drop (i + 1) es)
unnoted_passed k p i es e at stamps =
    first_from-step (receive_rule k) p i es e at
    ∙ ap (λ (b : Bool). or_else (cond b None (here (key_in e) (p, i) k))
    (first_from (receive_rule k) p (i + 1) (drop (i + 1) es))) stamps

pub stamp_unrepeated : (streams : List Stream) (p : Pid) (i : ℕ) (e : Event) → is_stamp e ≡ true
    → repeated streams p i e ≡ None
stamp_unrepeated streams p i e stamps = elim (receive_of streams e.from e.serial.this)
    as (λ o. option_and_then
    (λ (at : Pid × ℕ). if is_stamp e || (pid_eq at.0 p && at.1 == i) then None
    else Some (fault.Repeated p i at.0 at.1)) o ≡ None) [
      | None ↦ refl
      | Some at ↦ ap (λ (b : Bool). cond (b || (pid_eq at.0 p && at.1 == i)) None
          (Some (fault.Repeated p i at.0 at.1))) stamps
    ]

-- a process's receives come between those of the processes before and after it
pub key_with : (streams : List Stream) → IsRising (pids_of streams)
    → (pids : List Pid) (k : ℕ) (d : Pid)
    (es : List Event) (key : Key) (before : Option (Pid × ℕ)) → pids ≡ pids_of streams
    → k < length pids
    → es ≡ events_of streams (get_or pids k d)
    → or_else before (first (receive_rule key) (drop k streams)) ≡ first (receive_rule key) streams
    → or_else before (or_else (first_from (receive_rule key) (get_or pids k d) 0 es)
    (first (receive_rule key) (drop (k + 1) streams))) ≡ receive_of streams key.from key.this
key_with streams rising pids k d es key before are within events so_far =
    ap (or_else before) (sym
    (first-events (receive_rule key) streams rising pids k d es are within events)) ∙ so_far

pub all_with : (streams : List Stream) → IsRising (pids_of streams)
    → (pids : List Pid) (k : ℕ) (d : Pid)
    (es : List Event) (table : Table) → pids ≡ pids_of streams → k < length pids
    → es ≡ events_of streams (get_or pids k d)
    → ((key : Key) → or_else (table key) (first (receive_rule key) (drop k streams))
    ≡ first (receive_rule key) streams)
    → HasReceivesWith streams table
    (λ key. or_else (first_from (receive_rule key) (get_or pids k d) 0 es)
    (first (receive_rule key) (drop (k + 1) streams)))
all_with streams rising pids k d es table are within events so_far key =
    key_with streams rising pids k d es key (table key) are within events (so_far key)

-- the fault that a rule gives first meets `IsFirstFault`
pub first_fault : (o : Option PairFault) (f : PairFault) → o ≡ Some f → IsFirstFault o f
first_fault o fault.Memory h = tt
first_fault o (fault.PrevNotBefore p i) h = h
first_fault o (fault.NotRising p i j) h = h
first_fault o (fault.Repeated p i q j) h = h
first_fault o (fault.Mismatch p i q j) h = h

-- and that of a process's events is that of all if nothing is given before
pub fault_along : (a b : Option PairFault) (f : PairFault)
    → ((g : PairFault) → a ≡ Some g → b ≡ Some g)
    → IsFirstFault a f → IsFirstFault b f
fault_along a b fault.Memory along h = tt
fault_along a b (fault.PrevNotBefore p i) along h = along (fault.PrevNotBefore p i) h
fault_along a b (fault.NotRising p i j) along h = along (fault.NotRising p i j) h
fault_along a b (fault.Repeated p i q j) along h = along (fault.Repeated p i q j) h
fault_along a b (fault.Mismatch p i q j) along h = along (fault.Mismatch p i q j) h

pub err_along : {T : Type 0} (r : Result T PairFault) (a b : Option PairFault)
    → ((g : PairFault) → a ≡ Some g → b ≡ Some g) → IfErr r (IsFirstFault a)
    → IfErr r (IsFirstFault b)
err_along (Ok x) a b along h = tt
err_along (Err f) a b along h = fault_along a b f along h

-- a place that isn't refused is the receive's own
pub own_place : (first : Pid × ℕ) (p : Pid) (i : ℕ) → repeated_by first p i ≡ None → first ≡ (p, i)
own_place first p i none =
    let parts = and_parts (pid_eq first.0 p) (first.1 == i)
    (cond_none (pid_eq first.0 p && first.1 == i) (fault.Repeated p i first.0 first.1) none) in
    let who = pid_eq-true first.0 p parts.0 in
    let index = eqb-true first.1 i parts.1 in
    λ j. (who j, index j)
