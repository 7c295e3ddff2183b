-- A stamp that is above all events of its process before it is above each item of its process with
-- a lower key: a reported one has a lower index, and a hidden one another count.
use Rattle.std.proofs.Common.{◌≡◌, ℕ, suc, ◌+◌, ◌<◌, ◌≤◌, ◌==◌, ◌&&◌, max, Bool, true, false}
use Rattle.std.proofs.Common.{cond, List, map, take, Option, Some, None, inl, inr, refl}
use Rattle.std.proofs.Common.{sym, ◌∙◌, ap, arith, if◌then◌else◌}
use Rattle.std.proofs.lemmas.Bool.{eq-eqb, and_from, false≢true, cases_order, cases_lt}
use Rattle.std.proofs.lemmas.Option.{none-some}
use Rattle.st_core.specs.declared.types.Pid.{Pid}
use Rattle.st_core.specs.declared.types.Event.{Event}
use Rattle.st_core.specs.Run.{Stream}
use Rattle.st_core.specs.Streams.{events_of}
use Rattle.st_pair.specs.declared.answer.Source.{Source}
use Rattle.st_pair.specs.declared.answer.Source.TheVariants as source
use Rattle.st_pair.specs.Places.{event_at, is_stamp}
use Rattle.st_pair.specs.Pairing.{stamp_of, source_of}
use Rattle.st_pair.proofs.ForCallers.{from_none, own_rule}
use Rattle.st_order.specs.declared.item.Item.{Item}
use Rattle.st_order.specs.declared.item.Item.TheVariants as item
use Rattle.st_order.specs.Items.{greatest, height, is_hidden}
use Rattle.st_order.specs.Order.{key_by}
use Rattle.st_order.proofs.ForCallers.{greatest_more, tallest_grows, tallest_has}
use Rattle.st_plan.specs.Moves.{move_by}
use Rattle.st_plan.proofs.EarlierMoves.{hidden_above, IsAt, IsKeyBelow}

-- HEIGHTS

-- the greatest count of p's first n events
abbrev pub height_of : List Stream → Pid → ℕ → ℕ
height_of streams p n = greatest (map (λ (e : Event). e.serial.this) (take n (events_of streams p)))

pub height_more : (streams : List Stream) (p : Pid) (n : ℕ) (e : Event)
    → event_at streams p n ≡ Some e
    → height_of streams p (suc n) ≡ max e.serial.this (height_of streams p n)
height_more streams p n e at = greatest_more (events_of streams p) n e at

-- the item stamps
abbrev pub Stamps : Item → Event → Type 0
Stamps (item.Reported p i) e = is_stamp e ≡ true
Stamps (item.Hidden p i) e = Unit {0}

-- a reported stamp is above all events of its process before it
abbrev pub IsTop : List Stream → Item → Event → Type 0
IsTop streams (item.Reported p i) e = is_stamp e ≡ true → height_of streams p i < e.serial.this
IsTop streams (item.Hidden p i) e = Unit {0}

pub height_is : (streams : List Stream) (p : Pid) (i : ℕ)
    → height streams p i ≡ height_of streams p (suc i)
height_is streams p i = let e : i + 1 ≡ suc i = omega arith in ap (height_of streams p) e

abbrev pub rank_of : Event → ℕ
rank_of e = if is_stamp e then 0 else 1

stamp_rank : (e : Event) → is_stamp e ≡ true → rank_of e ≡ 0
stamp_rank e h = ap (λ b. let n : ℕ = if b then 0 else 1 in n) h

abbrev pub hidden_by : Source → Bool
hidden_by source.Hidden = true
hidden_by (source.Event q j) = false

abbrev pub source_by : Pid → Option (ℕ × Event) → Source
source_by q None = source.Hidden
source_by q (Some f) = source.Event q f.0

nothing_found : (q : Pid) (o : Option (ℕ × Event)) → hidden_by (source_by q o) ≡ true → o ≡ None
nothing_found q None h = refl
nothing_found q (Some f) h = absurd (false≢true h)

not_found : (streams : List Stream) (d : Event) (b : Bool)
    → (if b then false else hidden_by (source_of streams d)) ≡ true
    → stamp_of streams d.from d.serial.this ≡ None
not_found streams d true h = absurd (false≢true h)
not_found streams d false h = nothing_found d.from (stamp_of streams d.from d.serial.this) h

-- a hidden send's count is that of no send or print of its process
hidden_apart : (streams : List Stream) (d e : Event) (i : ℕ) → is_hidden streams d ≡ true
    → event_at streams d.from i ≡ Some e → is_stamp e ≡ true → d.serial.this ≡ e.serial.this → ⊥
hidden_apart streams d e i hidden at stamps same =
    let sought : stamp_of streams d.from d.serial.this ≡ None =
    not_found streams d (is_stamp d) hidden in
    let none = from_none (own_rule d.serial.this) d.from 0
    (events_of streams d.from) sought i e at in
    let count = eq-eqb e.serial.this d.serial.this (sym same) in
    let test : (is_stamp e && e.serial.this == d.serial.this) ≡ true =
    and_from (is_stamp e) (e.serial.this == d.serial.this) stamps count in
    none-some (0 + i, e) (sym none ∙ ap (λ b. cond b (Some (0 + i, e)) None) test)

-- an item of a stamp's process with a lower key has a lower count than the stamp
pub this_below : (streams : List Stream) (y x : Item) (d e : Event) → IsAt streams y d
    → IsAt streams x e → Stamps x e
    → IsTop streams x e → IsKeyBelow (key_by streams y d) (key_by streams x e)
    → (move_by y d).who ≡ (move_by x e).who → d.serial.this < e.serial.this
this_below streams (item.Reported q j) (item.Reported p i) d e at_d at_e stamps tops below who =
    let top = tops stamps in
    let here : height streams p i ≡ max e.serial.this (height_of streams p i) =
    height_is streams p i ∙ height_more streams p i e at_e in
    let there = height_is streams q j in
    let one = below.height in
    let less : j < i = elim (cases_lt j i) [
      | inl less ↦ less
      | inr least ↦
          let rise : height_of streams q (suc i) ≤ height_of streams q (suc j) =
          tallest_grows (events_of streams q) (suc i) (suc j) (omega arith) in
          let same : height_of streams q (suc i) ≡ height_of streams p (suc i) =
          ap (λ r. height_of streams r (suc i)) who in
          let mine = height_is streams p i in
          let equal : height streams q j ≡ height streams p i = omega arith in
          let rank = below.rank equal in
          let zero_rank = stamp_rank e stamps in
          let ranks : rank_of d ≡ rank_of e = omega arith in
          let place = below.place equal ranks who in
          absurd (omega arith)
    ] in
    let low = tallest_has (events_of streams q) i j d at_d less in
    let same : height_of streams q i ≡ height_of streams p i =
    ap (λ r. height_of streams r i) who in
    omega arith
this_below streams (item.Hidden a b) (item.Reported p i) d e at_d at_e stamps tops below who =
    let top = tops stamps in
    let here : height streams p i ≡ max e.serial.this (height_of streams p i) =
    height_is streams p i ∙ height_more streams p i e at_e in
    let one = below.height in
    elim (cases_order d.serial.this e.serial.this) [
      | inl same ↦ absurd (hidden_apart streams d e i at_d.1
          (ap (λ r. event_at streams r i) who ∙ at_e) stamps same)
      | inr (inl less) ↦ less
      | inr (inr more) ↦ absurd (omega arith)
    ]
this_below streams y (item.Hidden a b) d e at_d at_e stamps tops below who =
    hidden_above streams y d a b e at_d below who
