-- A receive is noted under its own key alone: no other sender and count have the send or print at
-- which it is noted.
use Rattle.std.proofs.Common.{◌≡◌, ℕ, ◌+◌, ◌<◌, ◌⊎◌, inl, inr, zero, suc, Bool, true, false, cond}
use Rattle.std.proofs.Common.{List, [], ◌∷◌, get_or, length, map, replicate, set, Option, None}
use Rattle.std.proofs.Common.{Some, slice_get}
use Rattle.std.proofs.Common.{option_and_then, option_map, refl, sym, ◌∙◌, ap, subst, arith}
use Rattle.std.specs.List.{AllByRecursion}
use Rattle.std.proofs.lemmas.List.{get_or-set_same, length-set}
use Rattle.std.proofs.lemmas.Option.{same_Some, none-some, get_or_from_slice_get, slice_get-get_or}
use Rattle.std.proofs.lemmas.Option.{slice_get_within}
use Rattle.st_core.specs.declared.types.Pid.{Pid}
use Rattle.st_core.specs.declared.types.Event.{Event}
use Rattle.st_core.specs.Pid.{pid_eq, IsRising}
use Rattle.st_core.specs.Run.{Stream, pids_of}
use Rattle.st_core.specs.Streams.{events_of}
use Rattle.st_core.proofs.ForCallers.{above_apart, pid_eq-true, pid_eq-same, pid_eq-swap}
use Rattle.st_pair.specs.declared.receives.Key.{Key}
use Rattle.st_pair.specs.Pairing.{stamp_of}
use Rattle.st_pair.specs.Places.{or_else}
use Rattle.st_pair.specs.Tables.{here, key_eq, mark_at, mark_of, marks_in, no_marks, stamp_index}
use Rattle.st_pair.proofs.Converse.{given_from, own_says}
use Rattle.st_pair.proofs.Firsts.{or_none}
use Rattle.st_pair.proofs.OwnStamps.{own_rule}
use Rattle.st_pair.proofs.Received.{here_same, key_eq-same, key_eq-true, noted, Table}

abbrev pub Mark : Type 0
Mark = Option (Pid × ℕ)

-- WHAT IS READ AND WRITTEN

module _ {X : Type 0} where
  pub set_same : (xs : List X) (i : ℕ) (x : X) → i < length xs → slice_get (set xs i x) i ≡ Some x
  set_same xs i x within = slice_get-get_or (set xs i x) i x (omega (arith, length-set xs i x))
      ∙ ap (λ (y : X). Some y) (get_or-set_same xs i x x within)

  pub set_apart : (xs : List X) (i j : ℕ) (x : X) → (i ≡ j → ⊥)
      → slice_get (set xs i x) j ≡ slice_get xs j
  set_apart [] i j x apart = refl
  set_apart (y ∷ xs) zero zero x apart = absurd (apart refl)
  set_apart (y ∷ xs) zero (suc j) x apart = refl
  set_apart (y ∷ xs) (suc i) zero x apart = refl
  set_apart (y ∷ xs) (suc i) (suc j) x apart = set_apart xs i j x (λ same. apart (omega arith))

-- the marks at a process's place are its own
pub marks_read : (streams : List Stream) (lists : List (List Mark)) (n i : ℕ) (p : Pid)
    → IsRising (pids_of streams)
    → slice_get (pids_of streams) n ≡ Some p
    → mark_at lists n i ≡ slice_get (marks_in streams lists p) i
marks_read [] lists n i p rising at = absurd (none-some p at)
marks_read (s ∷ streams) [] n i p rising at = refl
marks_read (s ∷ streams) (l ∷ lists) zero i p rising at =
    let same = same_Some s.pid p at in
    rw (same, pid_eq-same p) refl
marks_read (s ∷ streams) (l ∷ lists) (suc n) i p rising at =
    rw (above_apart (pids_of streams) s.pid p n rising.0 at)
    (marks_read streams lists n i p rising.1 at)

-- the mark of a key is the one at its send's or print's place and index
pub mark_read : (streams : List Stream) (lists : List (List Mark)) (key : Key) (n i : ℕ)
    → IsRising (pids_of streams)
    → slice_get (pids_of streams) n ≡ Some key.from → stamp_index streams key ≡ Some i
    → mark_of streams lists key ≡ mark_at lists n i
mark_read streams lists key n i rising at is =
    ap (option_and_then (λ (j : ℕ). slice_get (marks_in streams lists key.from) j)) is
    ∙ sym (marks_read streams lists n i key.from rising at)

-- a process that isn't listed has no marks
unlisted_marks : (streams : List Stream) (lists : List (List Mark)) (p : Pid)
    → AllByRecursion (λ q. pid_eq q p ≡ false) (pids_of streams) → marks_in streams lists p ≡ []
unlisted_marks [] lists p missing = refl
unlisted_marks (s ∷ streams) [] p missing = refl
unlisted_marks (s ∷ streams) (l ∷ lists) p missing =
    rw missing.0 (unlisted_marks streams lists p missing.1)

pub unlisted_mark : (streams : List Stream) (lists : List (List Mark)) (key : Key)
    → AllByRecursion (λ q. pid_eq q key.from ≡ false) (pids_of streams)
    → mark_of streams lists key ≡ None
unlisted_mark streams lists key missing = elim (stamp_index streams key)
    as (λ o. option_and_then (λ (j : ℕ). slice_get (marks_in streams lists key.from) j) o ≡ None) [
      | None ↦ refl
      | Some i ↦ ap (λ (l : List Mark). slice_get l i)
          (unlisted_marks streams lists key.from missing)
    ]

-- if one process's marks are replaced, those of other processes stay
marks_put : (streams : List Stream) (lists : List (List Mark)) (n : ℕ) (p q : Pid) (l : List Mark)
    → IsRising (pids_of streams) → slice_get (pids_of streams) n ≡ Some p → n < length lists
    → marks_in streams (set lists n l) q ≡ cond (pid_eq p q) l (marks_in streams lists q)
marks_put [] lists n p q l rising at within = absurd (none-some p at)
marks_put (s ∷ streams) [] n p q l rising at within = absurd (omega arith)
marks_put (s ∷ streams) (m ∷ lists) zero p q l rising at within =
    let same = same_Some s.pid p at in
    rw same (elim (pid_eq p q) as (λ b. cond b l (marks_in streams lists q)
    ≡ cond b l (cond b m (marks_in streams lists q))) [ true ↦ refl | false ↦ refl ])
marks_put (s ∷ streams) (m ∷ lists) (suc n) p q l rising at within =
    let apart = above_apart (pids_of streams) s.pid p n rising.0 at in
    let rest = marks_put streams lists n p q l rising.1 at (omega arith) in
    elim (pid_eq s.pid q) as (λ b. pid_eq s.pid q ≡ b
    → cond b m (marks_in streams (set lists n l) q)
    ≡ cond (pid_eq p q) l (cond b m (marks_in streams lists q))) [
      | true ↦ λ is.
          let other : pid_eq p q ≡ false = pid_eq-swap p q
          ∙ ap (λ (x : Pid). pid_eq x p) (sym (pid_eq-true s.pid q is)) ∙ apart in
          rw other refl
      | false ↦ λ is. rest
    ] refl

-- ONE KEY

-- the event at a key's index has the key's count
index_counts : (streams : List Stream) (k : Key) (i : ℕ) → stamp_index streams k ≡ Some i
    → (e : Event) × (slice_get (events_of streams k.from) i ≡ Some e) × (e.serial.this ≡ k.this)
index_counts streams k i h =
    elim (stamp_of streams k.from k.this) as (λ o. stamp_of streams k.from k.this ≡ o
    → option_map (λ (f : ℕ × Event). f.0) o ≡ Some i
    → (e : Event) × (slice_get (events_of streams k.from) i ≡ Some e) × (e.serial.this ≡ k.this)) [
      | None ↦ λ is given. absurd (none-some i given)
      | Some f ↦ λ is given.
          let found = given_from (own_rule k.this) k.from 0 (events_of streams k.from) f is in
          let says = own_says k.this k.from (0 + found.0) found.1 f found.3 in
          let number : 0 + found.0 ≡ found.0 = omega arith in
          let here : found.0 ≡ i = sym number ∙ says.index ∙ same_Some f.0 i given in
          (found.1, ap (slice_get (events_of streams k.from)) (sym here) ∙ found.2, says.count)
    ] refl h

one_index : (streams : List Stream) (k l : Key) (i : ℕ) → k.from ≡ l.from
    → stamp_index streams k ≡ Some i
    → stamp_index streams l ≡ Some i → k.this ≡ l.this
one_index streams k l i from first second =
    let d = index_counts streams k i first in
    let e = index_counts streams l i second in
    let there : slice_get (events_of streams k.from) i ≡ Some e.0 =
    ap (λ (p : Pid). slice_get (events_of streams p) i) from ∙ e.1 in
    let same = same_Some d.0 e.0 (sym d.1 ∙ there) in
    sym d.2 ∙ ap (λ (x : Event). x.serial.this) same ∙ e.2

module _ (streams : List Stream) (lists : List (List Mark)) (key : Key) (n i : ℕ) (place : Pid × ℕ)
    (rising : IsRising (pids_of streams)) (at : slice_get (pids_of streams) n ≡ Some key.from)
    (is : stamp_index streams key ≡ Some i) (marks : List Mark)
    (there : slice_get lists n ≡ Some marks)
    (within : i < length marks) where
  abbrev after : List (List Mark)
  after = set lists n (set marks i (Some place))

  own_mark : (j : ℕ) → slice_get marks j ≡ slice_get (marks_in streams lists key.from) j
  own_mark j = ap (option_and_then (λ (l : List Mark). slice_get l j)) (sym there)
      ∙ marks_read streams lists n j key.from rising at

  moved : (q : Pid) → marks_in streams after q
      ≡ cond (pid_eq key.from q) (set marks i (Some place)) (marks_in streams lists q)
  moved q = marks_put streams lists n key.from q (set marks i (Some place)) rising at
      (slice_get_within lists n marks there)

  pub marked_here : mark_of streams after key ≡ Some (Some place)
  marked_here =
      ap (option_and_then (λ (j : ℕ). slice_get (marks_in streams after key.from) j)) is
      ∙ ap (λ (l : List Mark). slice_get l i) (moved key.from)
      ∙ ap (λ (b : Bool). slice_get
      (cond b (set marks i (Some place)) (marks_in streams lists key.from)) i)
      (pid_eq-same key.from)
      ∙ set_same marks i (Some place) within

  elsewhere : (k : Key) → (key ≡ k → ⊥) → pid_eq key.from k.from ≡ true → (j : ℕ)
      → stamp_index streams k ≡ Some j
      → slice_get (set marks i (Some place)) j ≡ slice_get (marks_in streams lists k.from) j
  elsewhere k apart same j found =
      let from = pid_eq-true key.from k.from same in
      let other : i ≡ j → ⊥ = λ index.
      apart (let this = one_index streams key k j from (is ∙ ap Some index) found in
      λ m. record { from = from m; this = this m }) in
      set_apart marks i j (Some place) other ∙ own_mark j
      ∙ ap (λ (p : Pid). slice_get (marks_in streams lists p) j) from

  marked_elsewhere : (k : Key) → (key ≡ k → ⊥) → mark_of streams after k ≡ mark_of streams lists k
  marked_elsewhere k apart = elim (stamp_index streams k) as (λ o. stamp_index streams k ≡ o
      → option_and_then (λ (j : ℕ). slice_get (marks_in streams after k.from) j) o
      ≡ option_and_then (λ (j : ℕ). slice_get (marks_in streams lists k.from) j) o) [
        | None ↦ λ found. refl
        | Some j ↦ λ found. ap (λ (l : List Mark). slice_get l j) (moved k.from)
            ∙ elim (pid_eq key.from k.from) as (λ b. pid_eq key.from k.from ≡ b
            → slice_get (cond b (set marks i (Some place)) (marks_in streams lists k.from)) j
            ≡ slice_get (marks_in streams lists k.from) j) [
              | true ↦ λ same. elsewhere k apart same j found
              | false ↦ λ other. refl
            ] refl
      ] refl

-- what tables give of which a key has no mark yet, or one
abbrev pub given : Option Mark → Mark → Mark
given mark hidden = elim mark [ None ↦ hidden | Some place ↦ place ]

module _ (key : Key) (place : Pid × ℕ) (k : Key) where
  here_apart : (key ≡ k → ⊥) → here key place k ≡ None
  here_apart apart = elim (key_eq key k) as (λ b. key_eq key k ≡ b
      → cond b (Some place) None ≡ None) [
        | true ↦ λ same. absurd (apart (key_eq-true key k same))
        | false ↦ λ other. refl
      ] refl

-- two keys are equal or different
key_or : (key k : Key) → (key ≡ k) ⊎ (key ≡ k → ⊥)
key_or key k = elim (key_eq key k) as (λ b. key_eq key k ≡ b → (key ≡ k) ⊎ (key ≡ k → ⊥)) [
  | true ↦ λ same. inl (key_eq-true key k same)
  | false ↦ λ other. inr (λ same. let no = sym other
      ∙ subst (λ (x : Key). key_eq key x ≡ true) same (key_eq-same key) in
      absurd (cc))
] refl

-- a key that has the place keeps it, and adds nothing
pub noted_again : (table : Table) (key : Key) (place : Pid × ℕ) → table key ≡ Some place
    → (k : Key) → table k ≡ or_else (table k) (here key place k)
noted_again table key place has k = elim (key_or key k) [
  | inl same ↦ subst (λ (x : Key). table x ≡ or_else (table x) (here key place x)) same
      (sym (ap (λ (o : Mark). or_else o (here key place key)) has ∙ sym has))
  | inr apart ↦ sym (ap (or_else (table k)) (here_apart key place k apart) ∙ or_none (table k))
]

-- noting a receive of a reported send or print adds its place for its key alone
pub noted_shown : (streams : List Stream) (lists : List (List Mark)) (hidden : Table) (key : Key)
    (n i : ℕ)
    (place : Pid × ℕ) → IsRising (pids_of streams) → slice_get (pids_of streams) n ≡ Some key.from
    → stamp_index streams key ≡ Some i → (marks : List Mark) → slice_get lists n ≡ Some marks
    → slice_get marks i ≡ Some None → (k : Key)
    → given (mark_of streams (set lists n (set marks i (Some place))) k) (hidden k)
    ≡ or_else (given (mark_of streams lists k) (hidden k)) (here key place k)
noted_shown streams lists hidden key n i place rising at is marks there free k =
    let within = slice_get_within marks i None free in
    let after = set lists n (set marks i (Some place)) in
    let unmarked : mark_of streams lists key ≡ Some None =
    ap (option_and_then (λ (j : ℕ). slice_get (marks_in streams lists key.from) j)) is
    ∙ sym (own_mark streams lists key n i place rising at is marks there within i) ∙ free in
    elim (key_or key k) [
      | inl same ↦ subst (λ (x : Key). given (mark_of streams after x) (hidden x)
          ≡ or_else (given (mark_of streams lists x) (hidden x)) (here key place x)) same
          (ap (λ (o : Option Mark). given o (hidden key))
          (marked_here streams lists key n i place rising at is marks there within)
          ∙ sym (ap (λ (o : Option Mark). or_else (given o (hidden key)) (here key place key))
          unmarked
          ∙ here_same key place))
      | inr apart ↦
          ap (λ (o : Option Mark). given o (hidden k))
          (marked_elsewhere streams lists key n i place rising at is marks there within k apart)
          ∙ sym (ap (or_else (given (mark_of streams lists k) (hidden k)))
          (here_apart key place k apart)
          ∙ or_none (given (mark_of streams lists k) (hidden k)))
    ]

-- an event that has a mark is at a place within the lists
pub mark_within : (lists : List (List Mark)) (n i : ℕ) (m : Mark) → mark_at lists n i ≡ Some m
    → (n < length lists) × (i < length (get_or lists n []))
mark_within lists n i m h = elim (slice_get lists n) as (λ o. slice_get lists n ≡ o
    → option_and_then (λ (l : List Mark). slice_get l i) o ≡ Some m
    → (n < length lists) × (i < length (get_or lists n []))) [
      | None ↦ λ at given. absurd (none-some m given)
      | Some l ↦ λ at given.
          let same = get_or_from_slice_get lists n l [] at in (
            slice_get_within lists n l at,
            subst (λ (x : List Mark). i < length x) (sym same) (slice_get_within l i m given),
          )
    ] refl h

pub noted_at : (streams : List Stream) (lists : List (List Mark)) (hidden : Table) (key : Key)
    (n i : ℕ)
    (place : Pid × ℕ) → IsRising (pids_of streams) → slice_get (pids_of streams) n ≡ Some key.from
    → stamp_index streams key ≡ Some i → mark_at lists n i ≡ Some None → (k : Key)
    → given (mark_of streams (set lists n (set (get_or lists n []) i (Some place))) k) (hidden k)
    ≡ or_else (given (mark_of streams lists k) (hidden k)) (here key place k)
noted_at streams lists hidden key n i place rising at is free =
    let there = slice_get-get_or lists n [] (mark_within lists n i None free).0 in
    noted_shown streams lists hidden key n i place rising at is (get_or lists n []) there
    (ap (option_and_then (λ (l : List Mark). slice_get l i)) (sym there) ∙ free)

-- noting a receive of a hidden send adds its place for its key alone
pub noted_hidden : (streams : List Stream) (lists : List (List Mark)) (before after : Table)
    (key : Key)
    (place : Pid × ℕ) → mark_of streams lists key ≡ None
    → ((k : Key) → after k ≡ cond (key_eq key k) (Some place) (before k))
    → (before key ≡ None) ⊎ (before key ≡ Some place) → (k : Key)
    → given (mark_of streams lists k) (after k)
    ≡ or_else (given (mark_of streams lists k) (before k)) (here key place k)
noted_hidden streams lists before after key place unmarked written was k =
    elim (mark_of streams lists k) as (λ o. mark_of streams lists k ≡ o
    → given o (after k) ≡ or_else (given o (before k)) (here key place k)) [
      | None ↦ λ none. noted before after key place written was k
      | Some mark ↦ λ there.
          let apart : key ≡ k → ⊥ = λ same. none-some mark
          (sym unmarked ∙ ap (mark_of streams lists) same ∙ there) in
          sym (ap (or_else mark) (here_apart key place k apart) ∙ or_none mark)
    ] refl

-- NONE YET

pub blank_list : (marks : List Mark) (n : ℕ) → length marks ≡ n
    → ((i : ℕ) → i < length marks → get_or marks i None ≡ None) → marks ≡ replicate n None
blank_list [] zero len none = refl
blank_list [] (suc n) len none = absurd (omega arith)
blank_list (m ∷ marks) zero len none = absurd (omega arith)
blank_list (m ∷ marks) (suc n) len none =
    ap (λ (x : Mark). x ∷ marks) (none 0 (omega arith))
    ∙ ap (λ (rest : List Mark). None ∷ rest)
    (blank_list marks n (omega arith) (λ i within. none (suc i) (omega arith)))

blank_at : (n i : ℕ) (mark : Mark) → slice_get (replicate n None) i ≡ Some mark → mark ≡ None
blank_at zero i mark h = absurd (none-some mark h)
blank_at (suc n) zero mark h = sym (same_Some None mark h)
blank_at (suc n) (suc i) mark h = blank_at n i mark h

blank_marks : (streams : List Stream) (p : Pid) (i : ℕ) (mark : Mark)
    → slice_get (marks_in streams (map no_marks streams) p) i ≡ Some mark → mark ≡ None
blank_marks [] p i mark h = absurd (none-some mark h)
blank_marks (s ∷ streams) p i mark h = elim (pid_eq s.pid p)
    as (λ b. slice_get (cond b (no_marks s) (marks_in streams (map no_marks streams) p)) i
    ≡ Some mark → mark ≡ None) [
      | true ↦ λ has. blank_at (length s.events) i mark has
      | false ↦ λ has. blank_marks streams p i mark has
    ] h

pub unmarked : (streams : List Stream) (k : Key) (hidden : Mark) → hidden ≡ None
    → given (mark_of streams (map no_marks streams) k) hidden ≡ None
unmarked streams k hidden none = elim (mark_of streams (map no_marks streams) k)
    as (λ o. mark_of streams (map no_marks streams) k ≡ o → given o hidden ≡ None) [
      | None ↦ λ is. none
      | Some mark ↦ λ is. elim (stamp_index streams k) as (λ o.
          option_and_then (λ (i : ℕ). slice_get (marks_in streams (map no_marks streams) k.from) i)
          o ≡ Some mark
          → mark ≡ None) [
            | None ↦ λ h. absurd (none-some mark h)
            | Some i ↦ λ h. blank_marks streams k.from i mark h
          ] is
    ] refl
