-- In an order an item has a lower key than each item after it, so before a hidden send its process
-- has only lower counts.
use Rattle.std.proofs.Common.{◌≡◌, ℕ, zero, suc, ◌+◌, ◌<◌, ◌≤◌, ◌⊎◌, inl, inr, max, true, false}
use Rattle.std.proofs.Common.{cond, List, [], ◌∷◌, ◌++◌, take, drop, reverse, Option, Some, None}
use Rattle.std.proofs.Common.{option_map, slice_get, refl, sym, ◌∙◌, ap, subst, arith}
use Rattle.std.specs.List.{AllByRecursion}
use Rattle.std.specs.declared.cmp.Ordering.{Ordering}
use Rattle.std.specs.declared.cmp.Ordering.TheVariants.{Equal, Greater}
use Rattle.std.specs.Ordering.{nat_cmp, ordering_then, is_lt}
use Rattle.std.proofs.lemmas.Bool.{cases_order, false≢true}
use Rattle.std.proofs.lemmas.Bool.Decides.{nat_tests}
use Rattle.std.proofs.lemmas.List.{reverse-append}
use Rattle.std.proofs.lemmas.Option.{same_Some, none-some}
use Rattle.st_core.specs.declared.types.Pid.{Pid}
use Rattle.st_core.specs.declared.types.Event.{Event}
use Rattle.st_core.specs.Pid.{pid_eq, pid_cmp, IsRising}
use Rattle.st_core.specs.Run.{Stream, pids_of}
use Rattle.st_core.specs.Streams.{events_of}
use Rattle.st_core.proofs.ForCallers.{all_at, pid_cmp-same, pid_same, nat_cmp-same}
use Rattle.st_pair.specs.Places.{event_at}
use Rattle.st_order.specs.declared.item.Item.{Item}
use Rattle.st_order.specs.declared.item.Item.TheVariants as item
use Rattle.st_order.specs.Items.{event_of, height, is_hidden, items, items_among, items_at}
use Rattle.st_order.specs.Items.{items_from}
use Rattle.st_order.specs.Order.{comes_before, Key, key, key_by, key_cmp, IsOrder, KeysRise}
use Rattle.st_order.proofs.ForCallers.{all_append, all_found, all_take, among_all, comes_before_is}
use Rattle.st_order.proofs.ForCallers.{drop_front, members}
use Rattle.st_order.proofs.ForCallers.{tallest_has, Among, AreFound}
use Rattle.st_plan.specs.Moves.{Move, clock, earlier_of, move_by, moves}

-- LISTS

all_reverse : {A : Type 0} (P : A → Type 0) (xs : List A) → AllByRecursion P xs
    → AllByRecursion P (reverse xs)
all_reverse P [] all = tt
all_reverse P (x ∷ xs) all = subst (AllByRecursion P) (sym (reverse-append (x ∷ []) xs))
    (all_append P (reverse xs) (x ∷ []) (all_reverse P xs all.1) (all.0, tt))

pub take_more : {A : Type 0} (xs : List A) (n : ℕ) (x : A) → slice_get xs n ≡ Some x
    → take (suc n) xs ≡ take n xs ++ x ∷ []
take_more [] n x at = absurd (none-some x at)
take_more (y ∷ xs) zero x at = ap (λ z. z ∷ []) (same_Some y x at)
take_more (y ∷ xs) (suc n) x at = ap (λ zs. y ∷ zs) (take_more xs n x at)

-- MOVES

pub moves_append : (streams : List Stream) (xs ys : List Item) → moves streams (xs ++ ys)
    ≡ moves streams xs ++ moves streams ys
moves_append streams [] ys = refl
moves_append streams (x ∷ xs) ys =
    elim (event_of streams x) as (λ found. (elim found [
      | None ↦ moves streams (xs ++ ys)
      | Some e ↦ move_by x e ∷ moves streams (xs ++ ys)
    ]) ≡ (elim found [ None ↦ moves streams xs | Some e ↦ move_by x e ∷ moves streams xs ])
    ++ moves streams ys) [
      | None ↦ moves_append streams xs ys
      | Some e ↦ ap (λ ms. move_by x e ∷ ms) (moves_append streams xs ys)
    ]

abbrev pub moves_by : List Stream → Item → List Item → Option Event → List Move
moves_by streams x xs None = moves streams xs
moves_by streams x xs (Some e) = move_by x e ∷ moves streams xs

pub one_move : (streams : List Stream) (x : Item) (e : Event) (rest : List Item)
    → event_of streams x ≡ Some e → moves streams (x ∷ rest) ≡ move_by x e ∷ moves streams rest
one_move streams x e rest at = ap (moves_by streams x rest) at

-- the move of an item after those before it
pub earlier_more : (streams : List Stream) (xs : List Item) (n : ℕ) (x : Item) (e : Event)
    → slice_get xs n ≡ Some x → event_of streams x ≡ Some e
    → earlier_of streams (take (n + 1) xs) ≡ move_by x e ∷ earlier_of streams (take n xs)
earlier_more streams xs n x e at there =
    let next : n + 1 ≡ suc n = omega arith in
    ap (λ k. reverse (moves streams (take k xs))) next
    ∙ ap (λ ys. reverse (moves streams ys)) (take_more xs n x at)
    ∙ ap reverse (moves_append streams (take n xs) (x ∷ [])
    ∙ ap (λ ms. moves streams (take n xs) ++ ms)
    (one_move streams x e [] there))
    ∙ reverse-append (moves streams (take n xs)) (move_by x e ∷ [])

-- WHAT IS THERE

-- streams have the item, with this event
abbrev pub IsAt : List Stream → Item → Event → Type 0
IsAt streams (item.Reported p i) e = event_at streams p i ≡ Some e
IsAt streams (item.Hidden p i) e = (event_at streams p i ≡ Some e) × (is_hidden streams e ≡ true)

abbrev pub IsThere : List Stream → Item → Type 0
IsThere streams x = (e : Event) × IsAt streams x e

pub there_event : (streams : List Stream) (x : Item) (e : Event) → IsAt streams x e
    → event_of streams x ≡ Some e
there_event streams (item.Reported p i) e at = at
there_event streams (item.Hidden p i) e at = at.0

module _ (streams : List Stream) where
  at_there : (p : Pid) (i : ℕ) (e : Event) → event_at streams p i ≡ Some e
      → AllByRecursion (IsThere streams) (items_at streams p i e)
  at_there p i e at = elim (is_hidden streams e) as
      (λ b. is_hidden streams e ≡ b → AllByRecursion (IsThere streams)
      (cond b (item.Hidden p i ∷ item.Reported p i ∷ []) (item.Reported p i ∷ []))) [
        | true ↦ λ is. ((e, (at, is)), ((e, at), tt))
        | false ↦ λ is. ((e, at), tt)
      ] refl

  from_there : (p : Pid) (i : ℕ) (es : List Event) → drop i (events_of streams p) ≡ es
      → AllByRecursion (IsThere streams) (items_from streams p i es)
  from_there p i [] left = tt
  from_there p i (e ∷ es) left =
      let front = drop_front (events_of streams p) i e es left in
      let next : suc i ≡ i + 1 = omega arith in
      all_append (IsThere streams) (items_at streams p i e) (items_from streams p (i + 1) es)
      (at_there p i e front.0)
      (from_there p (i + 1) es (ap (λ (n : ℕ). drop n (events_of streams p)) (sym next) ∙ front.1))

  among_there : (some : List Stream) → AreFound streams some
      → AllByRecursion (IsThere streams) (items_among streams some)
  among_there [] found = tt
  among_there (s ∷ rest) found =
      all_append (IsThere streams) (items_from streams s.pid 0 s.events) (items_among streams rest)
      (from_there s.pid 0 s.events found.0) (among_there rest found.1)

  each_there : (xs : List Item) → AllByRecursion (λ z. Among z (items streams)) xs
      → AllByRecursion (IsThere streams) (items streams) → AllByRecursion (IsThere streams) xs
  each_there [] among all = tt
  each_there (x ∷ xs) among all =
      (among_all (IsThere streams) (items streams) x all among.0, each_there xs among.1 all)

  -- streams have each item of their order
  pub order_there : IsRising (pids_of streams) → (xs : List Item) → IsOrder streams xs
      → AllByRecursion (IsThere streams) xs
  order_there rising xs order = each_there xs (members (items streams) xs order.same)
      (among_there streams (all_found streams rising))

-- KEYS

-- k is below l, compared number by number
pub record IsKeyBelow (k l : Key) : Type 0 where
  pub height : k.height ≤ l.height
  pub rank : k.height ≡ l.height → k.rank ≤ l.rank
  pub place : k.height ≡ l.height → k.rank ≡ l.rank → k.pid ≡ l.pid → k.place < l.place

cmp_greater : (m n : ℕ) → n < m → nat_cmp m n ≡ Greater
cmp_greater m n h = grind (arith, nat_tests)

cmp_less : (m n : ℕ) → is_lt (nat_cmp m n) ≡ true → m < n
cmp_less m n h = elim (cases_order m n) [
  | inl same ↦ absurd (false≢true (ap is_lt (sym (nat_cmp-same m n same)) ∙ h))
  | inr (inl less) ↦ less
  | inr (inr more) ↦ absurd (false≢true (ap is_lt (sym (cmp_greater m n more)) ∙ h))
]

place_below : (k l : Key) → k.pid ≡ l.pid
    → is_lt (ordering_then (pid_cmp k.pid l.pid) (nat_cmp k.place l.place)) ≡ true
    → k.place < l.place
place_below k l pid h =
    let equal : pid_cmp k.pid l.pid ≡ Equal =
    ap (λ p. pid_cmp k.pid p) (sym pid) ∙ pid_cmp-same k.pid in
    cmp_less k.place l.place (ap (λ o. is_lt (ordering_then o (nat_cmp k.place l.place)))
    (sym equal) ∙ h)

-- two numbers are compared, and the rest decides if they are equal
step_below : (m n : ℕ) (rest : Ordering) → is_lt (ordering_then (nat_cmp m n) rest) ≡ true
    → (m < n) ⊎ ((m ≡ n) × (is_lt rest ≡ true))
step_below m n rest h = elim (cases_order m n) [
  | inl same ↦ inr (same, ap (λ o. is_lt (ordering_then o rest)) (sym (nat_cmp-same m n same)) ∙ h)
  | inr (inl less) ↦ inl less
  | inr (inr more) ↦ absurd (false≢true (ap (λ o. is_lt (ordering_then o rest))
      (sym (cmp_greater m n more)) ∙ h))
]

key_below : (k l : Key) → is_lt (key_cmp k l) ≡ true → IsKeyBelow k l
key_below k l h = elim (step_below k.height l.height _ h) [
  | inl less ↦ record {
    height = omega arith;
    rank = λ same. absurd (omega arith);
    place = λ same. absurd (omega arith);
  }
  | inr at_height ↦ elim (step_below k.rank l.rank _ at_height.1) [
    | inl less ↦
        let height = at_height.0 in
        record {
          height = omega arith;
          rank = λ same. omega arith;
          place = λ same rank. absurd (omega arith);
        }
    | inr at_rank ↦
        let height = at_height.0 in
        let rank = at_rank.0 in
        record {
          height = omega arith;
          rank = λ same. omega arith;
          place = λ h1 h2 pid. place_below k l pid at_rank.1;
        }
  ]
]

pub before_below : (streams : List Stream) (y x : Item) (d e : Event) → event_of streams y ≡ Some d
    → event_of streams x ≡ Some e → comes_before streams y x ≡ true
    → IsKeyBelow (key_by streams y d) (key_by streams x e)
before_below streams y x d e at_y at_x h =
    let y_key : key streams y ≡ Some (key_by streams y d) =
    ap (option_map (key_by streams y)) at_y in
    let x_key : key streams x ≡ Some (key_by streams x e) =
    ap (option_map (key_by streams x)) at_x in
    key_below (key_by streams y d) (key_by streams x e)
    (sym (comes_before_is streams y x (key_by streams y d) (key_by streams x e) y_key x_key) ∙ h)

-- if keys rise, each key before an item's is below it
pub all_before : (streams : List Stream) (xs : List Item) (n : ℕ) (x : Item) → KeysRise streams xs
    → slice_get xs n ≡ Some x → AllByRecursion (λ y. comes_before streams y x ≡ true) (take n xs)
all_before streams [] n x rise at = absurd (none-some x at)
all_before streams (y ∷ xs) zero x rise at = tt
all_before streams (y ∷ xs) (suc n) x rise at = (
  all_at (λ z. comes_before streams y z ≡ true) xs n x rise.0 at,
  all_before streams xs n x rise.1 at,
)

-- HEIGHTS

-- an item of a hidden send's process with a lower key has a lower count
pub hidden_above : (streams : List Stream) (y : Item) (d : Event) (p : Pid) (i : ℕ) (e : Event)
    → IsAt streams y d → IsKeyBelow (key_by streams y d) (key_by streams (item.Hidden p i) e)
    → (move_by y d).who ≡ e.from → d.serial.this < e.serial.this
hidden_above streams (item.Reported q j) d p i e at below who =
    let low = tallest_has (events_of streams q) (j + 1) j d at (omega arith) in
    let one = below.height in
    elim (cases_order (height streams q j) e.serial.this) [
      | inl same ↦
          let ranks = below.rank same in
          let zero_rank : (key_by streams (item.Reported q j) d).rank ≡ 0 = omega arith in
          let place = below.place same zero_rank who in
          absurd (omega arith)
      | inr (inl less) ↦ omega arith
      | inr (inr more) ↦ absurd (omega arith)
    ]
hidden_above streams (item.Hidden q j) d p i e at below who =
    let one = below.height in
    elim (cases_order d.serial.this e.serial.this) [
      | inl same ↦ let place = below.place same refl who in absurd (omega arith)
      | inr (inl less) ↦ less
      | inr (inr more) ↦ absurd (omega arith)
    ]

pub event_is : (x : Item) (e : Event) → (move_by x e).event ≡ e
event_is (item.Reported p i) e = refl
event_is (item.Hidden p i) e = refl

-- the counts of q's moves are below `this`
abbrev pub AreBelow : Pid → ℕ → List Move → Type 0
AreBelow q this = AllByRecursion (λ (m : Move). m.who ≡ q → m.event.serial.this < this)

moves_below : (streams : List Stream) (p : Pid) (i : ℕ) (e : Event)
    → IsAt streams (item.Hidden p i) e → (ys : List Item) → AllByRecursion (IsThere streams) ys
    → AllByRecursion (λ y. comes_before streams y (item.Hidden p i) ≡ true) ys
    → AreBelow e.from e.serial.this (moves streams ys)
moves_below streams p i e at [] there before = tt
moves_below streams p i e at (y ∷ ys) there before =
    let x = item.Hidden p i in
    let d = there.0.0 in
    let at_y = there.0.1 in
    let y_event = there_event streams y d at_y in
    let lower = before_below streams y x d e y_event at.0 before.0 in
    subst (AreBelow e.from e.serial.this) (sym (one_move streams y d ys y_event)) (
      λ who. subst (λ (f : Event). f.serial.this < e.serial.this) (sym (event_is y d))
          (hidden_above streams y d p i e at_y lower who),
      moves_below streams p i e at ys there.1 before.1,
    )

pub clock_below : (q : Pid) (this : ℕ) (earlier : List Move) → 0 < this → AreBelow q this earlier
    → clock q earlier < this
clock_below q this [] some all = some
clock_below q this (y ∷ earlier) some all =
    let rest = clock_below q this earlier some all.1 in
    elim (pid_eq y.who q) as (λ b. pid_eq y.who q ≡ b
    → cond b (max (clock q earlier) y.event.serial.this) (clock q earlier) < this) [
      | true ↦ λ same. let here = all.0 (pid_same y.who q same) in omega arith
      | false ↦ λ other. rest
    ] refl

-- the clock of a hidden send's process is below its count
pub hidden_clock : (streams : List Stream) (xs : List Item) (n : ℕ) (p : Pid) (i : ℕ) (e : Event)
    → IsRising (pids_of streams) → IsOrder streams xs → slice_get xs n ≡ Some (item.Hidden p i)
    → event_at streams p i ≡ Some e → 0 < e.serial.this
    → clock e.from (earlier_of streams (take n xs)) < e.serial.this
hidden_clock streams xs n p i e rising order at is some =
    let all = order_there streams rising xs order in
    let found = all_at (IsThere streams) xs n (item.Hidden p i) all at in
    let same : found.0 ≡ e = same_Some found.0 e (sym found.1.0 ∙ is) in
    let at_e : IsAt streams (item.Hidden p i) e =
    subst (IsAt streams (item.Hidden p i)) same found.1 in
    clock_below e.from e.serial.this (earlier_of streams (take n xs)) some
    (all_reverse (λ (m : Move). m.who ≡ e.from → m.event.serial.this < e.serial.this)
    (moves streams (take n xs))
    (moves_below streams p i e at_e (take n xs) (all_take (IsThere streams) n xs all)
    (all_before streams xs n (item.Hidden p i) order.rises at)))
