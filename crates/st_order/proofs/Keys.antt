-- A key says which item has it: it finds a hidden send by its receive, which no other receive
-- repeats, and an event by its place. So two items with the same key are the same.
use Rattle.std.proofs.Common.{◌≡◌, ℕ, ◌+◌, ◌-◌, ◌==◌, Bool, true, false, cond, if◌then◌else◌, List}
use Rattle.std.proofs.Common.{[], ◌∷◌, drop}
use Rattle.std.proofs.Common.{Option, Some, None, option_map, suc, refl, sym, ◌∙◌, ap, arith}
use Rattle.std.specs.List.{AllByRecursion}
use Rattle.std.specs.Cmp.{IsTotalOrder}
use Rattle.std.specs.declared.cmp.Ordering.{Ordering}
use Rattle.std.specs.declared.cmp.Ordering.TheVariants.{Less, Equal, Greater}
use Rattle.std.specs.Ordering.{nat_cmp, ordering_then, is_lt, is_eq, ordering_reverse}
use Rattle.std.proofs.lemmas.Bool.Decides.{nat_tests}
use Rattle.std.proofs.lemmas.Cmp.{nat_cmp_total, on_total, then_total}
use Rattle.std.proofs.lemmas.Option.{same_Some}
use Rattle.st_core.specs.declared.types.Pid.{Pid}
use Rattle.st_core.specs.declared.types.Event.{Event}
use Rattle.st_core.specs.Pid.{pid_cmp, IsRising}
use Rattle.st_core.specs.Run.{Stream, pids_of}
use Rattle.st_core.specs.Streams.{events_of}
use Rattle.st_pair.specs.declared.answer.Source.TheVariants as source
use Rattle.st_pair.specs.Places.{event_at, is_stamp, first}
use Rattle.st_pair.specs.Pairing.{receive_of, repeated, source_of}
use Rattle.st_core.proofs.ForCallers.{is_lt-true}
use Rattle.st_core.proofs.ForCallers.{is_eq-Equal, pid_cmp-Equal}
use Rattle.st_order.specs.declared.item.Item.{Item}
use Rattle.st_order.specs.declared.item.Item.TheVariants as item
use Rattle.st_order.specs.Items.{is_hidden, items_at, items_from, items_among, items}
use Rattle.st_order.specs.Order.{Key, key_by, key, key_cmp, comes_before}
use Rattle.st_pair.proofs.ForCallers.{pid_total}
use Rattle.st_order.proofs.Lists.{all_append}
use Rattle.st_order.proofs.SingleReceives.{only_receive}
use Rattle.st_order.proofs.ListedEvents.{drop_front, AreFound, all_found}

-- ORDERS

pub key_total : IsTotalOrder key_cmp
key_total = then_total (on_total (λ (k : Key). k.height) nat_cmp_total)
    (then_total (on_total (λ (k : Key). k.rank) nat_cmp_total)
    (then_total (on_total (λ (k : Key). k.pid) pid_total)
    (on_total (λ (k : Key). k.place) nat_cmp_total)))

then_eq : (a b : Ordering) → is_eq (ordering_then a b) ≡ true → (is_eq a ≡ true) × (is_eq b ≡ true)
then_eq Equal b h = (refl, h)
then_eq a b h = absurd (cc)

nat_same : (m n : ℕ) → is_eq (nat_cmp m n) ≡ true → m ≡ n
nat_same m n h = grind (arith, nat_tests)

pid_same : (p q : Pid) → is_eq (pid_cmp p q) ≡ true → p ≡ q
pid_same p q h =
    pid_cmp-Equal p q (is_eq-Equal (pid_cmp p q) h)

key_same : (k l : Key) → is_eq (key_cmp k l) ≡ true → k ≡ l
key_same k l h =
    let pids = ordering_then (pid_cmp k.pid l.pid) (nat_cmp k.place l.place) in
    let one = then_eq (nat_cmp k.height l.height) (ordering_then (nat_cmp k.rank l.rank) pids) h in
    let two = then_eq (nat_cmp k.rank l.rank) pids one.1 in
    let three = then_eq (pid_cmp k.pid l.pid) (nat_cmp k.place l.place) two.1 in
    let height = nat_same k.height l.height one.0 in
    let rank = nat_same k.rank l.rank two.0 in
    let pid = pid_same k.pid l.pid three.0 in
    let place = nat_same k.place l.place three.1 in
    λ i. record { height = height i; rank = rank i; pid = pid i; place = place i }

-- THE ITEM OF A KEY

-- the item that has the key, if one does
abbrev pub item_at : List Stream → Key → Option Item
item_at streams k =
    if k.place == 0 then option_map (λ at. item.Hidden at.0 at.1)
    (receive_of streams k.pid k.height) else Some (item.Reported k.pid (k.place - 1))

-- the item has a key, which finds it
pub record IsKeyed (streams : List Stream) (x : Item) : Type 0 where
  pub its : Key
  pub given : key streams x ≡ Some its
  pub found : item_at streams its ≡ Some x

-- x and y have the same key
abbrev pub same_key : List Stream → Item → Item → Bool
same_key streams x y = elim (key streams x) [
  | None ↦ false
  | Some k ↦
      elim (key streams y) [ None ↦ false | Some l ↦ is_eq (key_cmp k l) ]
]

abbrev test_of : (Ordering → Bool) → Option Key → Option Key → Bool
test_of test a b = elim a [
  | None ↦ false
  | Some k ↦
      elim b [ None ↦ false | Some l ↦ test (key_cmp k l) ]
]

pub comes_before_is : (streams : List Stream) (x y : Item) (k l : Key) → key streams x ≡ Some k
    → key streams y ≡ Some l → comes_before streams x y ≡ is_lt (key_cmp k l)
comes_before_is streams x y k l a b =
    ap (λ o. test_of is_lt o (key streams y)) a ∙ ap (λ o. test_of is_lt (Some k) o) b

same_key_is : (streams : List Stream) (x y : Item) (k l : Key) → key streams x ≡ Some k
    → key streams y ≡ Some l → same_key streams x y ≡ is_eq (key_cmp k l)
same_key_is streams x y k l a b =
    ap (λ o. test_of is_eq o (key streams y)) a ∙ ap (λ o. test_of is_eq (Some k) o) b

pub one_item : (streams : List Stream) (x y : Item) → IsKeyed streams x → IsKeyed streams y
    → same_key streams x y ≡ true → x ≡ y
one_item streams x y a b h =
    let same = key_same a.its b.its
    (sym (same_key_is streams x y a.its b.its a.given b.given) ∙ h) in
    same_Some x y (sym a.found ∙ ap (item_at streams) same ∙ b.found)

less_from : (o : Ordering) → is_eq o ≡ false → is_lt (ordering_reverse o) ≡ false → is_lt o ≡ true
less_from Less a b = refl
less_from Equal a b = absurd (cc)
less_from Greater a b = absurd (cc)

-- if two keys differ and y's isn't below x's, x's is below y's
pub before_from : (streams : List Stream) (x y : Item) → IsKeyed streams x → IsKeyed streams y
    → same_key streams x y ≡ false → comes_before streams y x ≡ false
    → comes_before streams x y ≡ true
before_from streams x y a b apart h =
    comes_before_is streams x y a.its b.its a.given b.given
    ∙ less_from (key_cmp a.its b.its)
    (sym (same_key_is streams x y a.its b.its a.given b.given) ∙ apart)
    (ap is_lt (sym (key_total.antisymm b.its a.its))
    ∙ sym (comes_before_is streams y x b.its a.its b.given a.given) ∙ h)

-- EACH ITEM HAS A KEY

above_zero : (i : ℕ) → (i + 1 == 0) ≡ false
above_zero i = grind (arith, nat_tests)

pub hidden_receives : (streams : List Stream) (e : Event) → is_hidden streams e ≡ true
    → is_stamp e ≡ false
hidden_receives streams e h = elim (is_stamp e) as
    (λ b. cond b false (elim
    (source_of streams e) [ source.Hidden ↦ true | source.Event q j ↦ false ]) ≡ true
    → b ≡ false) [
      | true ↦ λ h. absurd (cc)
      | false ↦ λ h. refl
    ] h

module _ (streams : List Stream) (once : first (repeated streams) streams ≡ None) where
  module _ (p : Pid) (i : ℕ) (e : Event) (at : event_at streams p i ≡ Some e) where
    hidden_keyed : is_hidden streams e ≡ true → IsKeyed streams (item.Hidden p i)
    hidden_keyed h = record {
      its = key_by streams (item.Hidden p i) e;
      given = rw at refl;
      found = ap (option_map (λ (at : Pid × ℕ). item.Hidden at.0 at.1))
          (only_receive streams p i e at (hidden_receives streams e h) once);
    }

    reported_keyed : IsKeyed streams (item.Reported p i)
    reported_keyed =
        let minus : i + 1 - 1 ≡ i = omega arith in
        let k = key_by streams (item.Reported p i) e in
        record { its = k; given = rw at refl; found = rw (above_zero i, minus) refl }

    at_keyed : AllByRecursion (IsKeyed streams) (items_at streams p i e)
    at_keyed = elim (is_hidden streams e) as (λ b. is_hidden streams e ≡ b
        → AllByRecursion (IsKeyed streams)
        (cond b (item.Hidden p i ∷ item.Reported p i ∷ []) (item.Reported p i ∷ []))) [
          | true ↦ λ is. (hidden_keyed is, (reported_keyed, tt))
          | false ↦ λ is. (reported_keyed, tt)
        ] refl

  from_keyed : (p : Pid) (i : ℕ) (es : List Event) → drop i (events_of streams p) ≡ es
      → AllByRecursion (IsKeyed streams) (items_from streams p i es)
  from_keyed p i [] left = tt
  from_keyed p i (e ∷ es) left =
      let front = drop_front (events_of streams p) i e es left in
      let next : suc i ≡ i + 1 = omega arith in
      all_append (IsKeyed streams) (items_at streams p i e) (items_from streams p (i + 1) es)
      (at_keyed p i e front.0)
      (from_keyed p (i + 1) es (ap (λ (n : ℕ). drop n (events_of streams p)) (sym next) ∙ front.1))

  among_keyed : (some : List Stream) → AreFound streams some
      → AllByRecursion (IsKeyed streams) (items_among streams some)
  among_keyed [] found = tt
  among_keyed (s ∷ rest) found =
      all_append (IsKeyed streams) (items_from streams s.pid 0 s.events) (items_among streams rest)
      (from_keyed s.pid 0 s.events found.0) (among_keyed rest found.1)

  pub items_keyed : IsRising (pids_of streams) → AllByRecursion (IsKeyed streams) (items streams)
  items_keyed rising = among_keyed streams (all_found streams rising)

-- WHAT COMES BEFORE

one_way_by : (o : Ordering) → is_lt o ≡ true → is_lt (ordering_reverse o) ≡ true → ⊥
one_way_by Less a b = absurd (cc)
one_way_by o a b = absurd (cc)

one_way_of : (a b : Option Key) → test_of is_lt a b ≡ true → test_of is_lt b a ≡ true → ⊥
one_way_of (Some k) (Some l) h g =
    one_way_by (key_cmp k l) h (ap is_lt (sym (key_total.antisymm l k)) ∙ g)
one_way_of a b h g = absurd (cc)

chain_of : (a b c : Option Key) → test_of is_lt a b ≡ true → test_of is_lt b c ≡ true
    → test_of is_lt a c ≡ true
chain_of (Some k) (Some l) (Some m) h g =
    ap is_lt (key_total.trans k l m (is_lt-true (key_cmp k l) h) (is_lt-true (key_cmp l m) g))
chain_of a b c h g = absurd (cc)

-- at most one of two items comes before the other
pub one_way : (streams : List Stream) (x y : Item) → comes_before streams x y ≡ true
    → comes_before streams y x ≡ true → ⊥
one_way streams x y h g = one_way_of (key streams x) (key streams y) h g

pub chain : (streams : List Stream) (x y z : Item) → comes_before streams x y ≡ true
    → comes_before streams y z ≡ true → comes_before streams x z ≡ true
chain streams x y z h g = chain_of (key streams x) (key streams y) (key streams z) h g
