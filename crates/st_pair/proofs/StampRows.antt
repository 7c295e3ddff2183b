-- The sends and prints of a process as rows: the first with a count is the one that `stamp_of`
-- finds, and since counts rise it is the only one, so that a search by halves finds it.
use Rattle.std.proofs.Common.{◌≡◌, ℕ, ◌+◌, ◌<◌, ◌==◌, ◌&&◌, zero, suc, ltb, Bool, true, false, cond}
use Rattle.std.proofs.Common.{List, [], ◌∷◌, length, get_or, find, Option, None, Some, option_map}
use Rattle.std.proofs.Common.{option_and_then, slice_get, refl, inl, inr, sym, ◌∙◌, ap, arith}
use Rattle.std.specs.List.{AllByRecursion}
use Rattle.std.specs.List.Sorted.{IsNonDecreasingBy, IsPartitionPoint}
use Rattle.std.proofs.lemmas.Bool.{eqb-true, eq-eqb, ltb-true, ltb-false, cases_lt}
use Rattle.std.proofs.lemmas.Bool.Decides.{nat_tests}
use Rattle.std.proofs.lemmas.List.Elements.{All-from_recursion}
use Rattle.std.proofs.lemmas.Option.{cond_some, get_or_from_slice_get, same_Some, none-some}
use Rattle.std.proofs.lemmas.Option.{slice_get_within, slice_get-get_or, slice_get-map}
use Rattle.st_core.specs.declared.types.Pid.{Pid}
use Rattle.st_core.specs.declared.types.Event.{Event}
use Rattle.st_core.specs.Pid.{pid_eq}
use Rattle.st_core.specs.Run.{Stream, pids_of}
use Rattle.st_core.specs.Streams.{events_of}
use Rattle.st_pair.specs.declared.stamp_table.StampRow.{StampRow}
use Rattle.st_pair.specs.Pairing.{not_rising, stamp_of}
use Rattle.st_pair.specs.Places.{is_stamp, first, first_from, or_else}
use Rattle.st_pair.specs.Tables.{row_under, rows_in, stamp_rows, AreRising, AreStamps}
use Rattle.st_pair.proofs.Converse.{counts_rise}
use Rattle.st_pair.proofs.Firsts.{is_at, events_in}
use Rattle.st_pair.proofs.OwnStamps.{own_rule}
use Rattle.st_pair.proofs.StreamTables.{missing_events}

-- WHAT ROWS HAVE

-- the first row with a count
abbrev pub row_of : ℕ → List StampRow → Option StampRow
row_of this rows = find (λ r. r.count == this) rows

abbrev pub index_in : Option StampRow → Option ℕ
index_in o = option_map (λ r. r.index) o

pub row_index : (q : Pid) (this i : ℕ) (es : List Event)
    → index_in (row_of this (stamp_rows i es))
    ≡ option_map (λ f. f.0) (first_from (own_rule this) q i es)
row_index q this i [] = refl
row_index q this i (e ∷ es) =
    let row : StampRow = record { count = e.serial.this; index = i } in
    let rest = stamp_rows (i + 1) es in
    let later = first_from (own_rule this) q (i + 1) es in
    elim (is_stamp e) as (λ b. index_in (row_of this (cond b (row ∷ rest) rest))
    ≡ option_map (λ (f : ℕ × Event). f.0)
    (or_else (cond (b && e.serial.this == this) (Some (i, e)) None) later)) [
      | true ↦ elim (e.serial.this == this) as (λ b. index_in (cond b (Some row) (row_of this rest))
          ≡ option_map (λ (f : ℕ × Event). f.0) (or_else (cond b (Some (i, e)) None) later)) [
            | true ↦ refl
            | false ↦ row_index q this (i + 1) es
          ]
      | false ↦ row_index q this (i + 1) es
    ]

-- the rows of the process at a place
pub place_rows : (streams : List Stream) (rows : List (List StampRow)) (place : ℕ) (p : Pid)
    → AreStamps streams rows
    → slice_get (pids_of streams) place ≡ Some p
    → slice_get rows place ≡ Some (stamp_rows 0 (events_of streams p))
place_rows streams rows place p are at =
    let s = is_at streams place p are.pids at in
    ap (λ (xs : List (List StampRow)). slice_get xs place) are.rows
    ∙ slice_get-map rows_in streams place
    ∙ ap (option_map rows_in) s.at ∙ ap (λ (es : List Event). Some (stamp_rows 0 es))
    (sym (ap events_in s.found))

-- a process that isn't listed has no send or print
pub no_stamp : (streams : List Stream) (p : Pid) (this : ℕ)
    → AllByRecursion (λ q. pid_eq q p ≡ false) (pids_of streams)
    → None ≡ option_map (λ f. f.0) (stamp_of streams p this)
no_stamp streams p this all = sym (ap (λ (es : List Event).
    option_map (λ (f : ℕ × Event). f.0) (first_from (own_rule this) p 0 es))
    (missing_events streams p all))

-- THEIR COUNTS RISE

abbrev DoRise : List Event → Type 0
DoRise es = (j i : ℕ) (d e : Event) → j < i → slice_get es j ≡ Some d → slice_get es i ≡ Some e
    → is_stamp d ≡ true → is_stamp e ≡ true → d.serial.this < e.serial.this

above : (n k : ℕ) (es : List Event)
    → ((j : ℕ) (e : Event) → slice_get es j ≡ Some e → is_stamp e ≡ true → n < e.serial.this)
    → AllByRecursion (λ s. n < s.count) (stamp_rows k es)
above n k [] h = tt
above n k (e ∷ es) h =
    let row : StampRow = record { count = e.serial.this; index = k } in
    let rest = stamp_rows (k + 1) es in
    let later = above n (k + 1) es (λ j f at. h (suc j) f at) in
    elim (is_stamp e) as (λ b. is_stamp e ≡ b
    → AllByRecursion (λ s. n < s.count) (cond b (row ∷ rest) rest)) [
      | true ↦ λ is. (h 0 e refl is, later)
      | false ↦ λ is. later
    ] refl

rise_from : (k : ℕ) (es : List Event) → DoRise es → AreRising (stamp_rows k es)
rise_from k [] h = tt
rise_from k (e ∷ es) h =
    let row : StampRow = record { count = e.serial.this; index = k } in
    let rest = stamp_rows (k + 1) es in
    let later = rise_from (k + 1) es
    (λ j i d f less at_d at_f. h (suc j) (suc i) d f (omega arith) at_d at_f) in
    elim (is_stamp e) as (λ b. is_stamp e ≡ b → AreRising (cond b (row ∷ rest) rest)) [
      | true ↦ λ is. (
        above e.serial.this (k + 1) es
            (λ j f at stamps. h 0 (suc j) e f (omega arith) refl at is stamps),
        later,
      )
      | false ↦ λ is. later
    ] refl

pub rows_rise : (streams : List Stream) (p : Pid) → first (not_rising streams) streams ≡ None
    → AreRising (stamp_rows 0 (events_of streams p))
rows_rise streams p rising = rise_from 0 (events_of streams p) (counts_rise streams rising p)

-- THE SEARCH

less_apart : (m n : ℕ) → m < n → (m == n) ≡ false
less_apart m n h = grind (arith, nat_tests)

more_apart : (m n : ℕ) → n < m → (m == n) ≡ false
more_apart m n h = grind (arith, nat_tests)

pub rows_up : (rows : List StampRow) → AreRising rows → IsNonDecreasingBy (λ r. r.count) rows
rows_up [] rising i j d le within = absurd (omega arith)
rows_up (x ∷ rows) rising zero zero d le within = omega arith
rows_up (x ∷ rows) rising zero (suc j) d le within =
    let at : j < length rows = omega arith in
    let more : x.count < (get_or rows j d).count =
    All-from_recursion (λ s. x.count < s.count) rows rising.0 j d at in
    omega arith
rows_up (x ∷ rows) rising (suc i) zero d le within = absurd (omega arith)
rows_up (x ∷ rows) rising (suc i) (suc j) d le within =
    rows_up rows rising.1 i j d (omega arith) (omega arith)

find_at : (rows : List StampRow) (this n : ℕ) (r : StampRow) → AreRising rows
    → slice_get rows n ≡ Some r → r.count ≡ this
    → row_of this rows ≡ Some r
find_at [] this n r rising at is = absurd (none-some r at)
find_at (x ∷ rows) this zero r rising at is =
    let same = same_Some x r at in
    let equal : (x.count == this) ≡ true = rw (same, is) (eq-eqb this this refl) in
    ap (λ (b : Bool). cond b (Some x) (row_of this rows)) equal ∙ ap Some same
find_at (x ∷ rows) this (suc n) r rising at is =
    let within = slice_get_within rows n r at in
    let more : x.count < (get_or rows n r).count = All-from_recursion (λ s. x.count < s.count)
    rows rising.0 n r within in
    let here : get_or rows n r ≡ r = get_or_from_slice_get rows n r r at in
    let less : x.count < this = rw (← is, ← here) more in
    ap (λ (b : Bool). cond b (Some x) (row_of this rows)) (less_apart x.count this less)
    ∙ find_at rows this n r rising.1 at is

none_found : (rows : List StampRow) (this : ℕ)
    → ((j : ℕ) (d : StampRow) → j < length rows → ((get_or rows j d).count == this) ≡ false)
    → row_of this rows ≡ None
none_found [] this apart = refl
none_found (x ∷ rows) this apart =
    ap (λ (b : Bool). cond b (Some x) (row_of this rows)) (apart 0 x (omega arith))
    ∙ none_found rows this (λ j d within. apart (suc j) d (omega arith))

under_is : (this : ℕ) (x r : StampRow) → row_under this x ≡ Some r → (x ≡ r) × (x.count ≡ this)
under_is this x r h =
    let parts = cond_some (x.count == this) x r h in (parts.1, eqb-true x.count this parts.0)

-- a row with the count is the only one
pub found_at : (rows : List StampRow) (this n : ℕ) (r : StampRow) → AreRising rows
    → Some r ≡ option_and_then (row_under this) (slice_get rows n) → Some r ≡ row_of this rows
found_at rows this n r rising h = elim (slice_get rows n)
    as (λ o. slice_get rows n ≡ o → Some r ≡ option_and_then (row_under this) o
    → Some r ≡ row_of this rows) [
      | None ↦ λ at given. absurd (none-some r (sym given))
      | Some x ↦ λ at given.
          let is = under_is this x r (sym given) in
          sym (find_at rows this n r rising (at ∙ ap Some is.0)
          (sym (ap (λ (y : StampRow). y.count) is.0) ∙ is.1))
    ] refl h

unequal : (this : ℕ) (x : StampRow) → None ≡ row_under this x → (x.count == this) ≡ false
unequal this x h = elim (x.count == this) as (λ b. None ≡ cond b (Some x) None → b ≡ false) [
  | true ↦ λ given. absurd (none-some x given)
  | false ↦ λ given. refl
] h

-- if the row where the lesser counts end hasn't the count, no row has it
pub none_at : (rows : List StampRow) (this n : ℕ) → AreRising rows
    → IsPartitionPoint (λ r. ltb r.count this ≡ true) (λ r. ltb r.count this ≡ false) rows n
    → None ≡ option_and_then (row_under this) (slice_get rows n) → None ≡ row_of this rows
none_at rows this n rising point h = sym (none_found rows this (λ j d within. elim (cases_lt j n) [
  | inl before ↦
      let less = ltb-true (get_or rows j d).count this (point.0 j d (omega arith) before) in
      less_apart (get_or rows j d).count this less
  | inr behind ↦
      let at : n < length rows = omega arith in
      let there = slice_get-get_or rows n d at in
      let apart = unequal this (get_or rows n d)
      (h ∙ ap (option_and_then (row_under this)) there) in
      let low = ltb-false (get_or rows n d).count this (point.1 n d (omega arith) at) in
      let up = rows_up rows rising n j d behind within in
      let more : this < (get_or rows j d).count = grind (arith, nat_tests) in
      more_apart (get_or rows j d).count this more
]))
