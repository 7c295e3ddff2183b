-- Along an order in which each process's items come in turn the clock of a stamp's process is below
-- its count: a reported stamp is above the event of its process before it, which came, and so above
-- all that its process did.
use Rattle.std.proofs.Common.{◌≡◌, ℕ, zero, suc, ◌+◌, ◌<◌, Bool, true, false, not, cond, List, []}
use Rattle.std.proofs.Common.{◌∷◌, Some, inl, inr, refl, sym, ◌∙◌, ap, subst, arith, if◌then◌else◌}
use Rattle.std.specs.List.{slice_get, AllByRecursion}
use Rattle.std.proofs.lemmas.Bool.{not-false, cases_lt}
use Rattle.st_core.specs.declared.types.Pid.{Pid}
use Rattle.st_core.specs.declared.types.Event.{Event}
use Rattle.st_core.specs.Pid.{pid_eq}
use Rattle.st_core.specs.Run.{Stream}
use Rattle.st_core.proofs.ForCallers.{pid_same, all_at}
use Rattle.st_pair.specs.Places.{event_at, is_stamp}
use Rattle.st_pair.proofs.ForCallers.{serial_rises, stamp_counts_rise, IsPaired}
use Rattle.st_order.specs.declared.item.Item.{Item}
use Rattle.st_order.specs.declared.item.Item.TheVariants as item
use Rattle.st_order.specs.Items.{height}
use Rattle.st_order.specs.Order.{key_by}
use Rattle.st_plan.specs.Moves.{Move, move_by}
use Rattle.st_plan.specs.Plain.{event_count}
use Rattle.st_plan.proofs.FreeMoves.{IsInTurn}
use Rattle.st_plan.proofs.EarlierMoves.{IsAt, IsKeyBelow}
use Rattle.st_plan.proofs.RisingStamps.{height_is, height_more, height_of, rank_of, this_below}
use Rattle.st_plan.proofs.RisingStamps.{IsTop, Stamps}

abbrev pub IsBelow : List Stream → Move → Move → Type 0
IsBelow streams m y = IsKeyBelow (key_by streams y.item y.event) (key_by streams m.item m.event)

-- what the order says of a move after the earlier ones
pub record IsNext (streams : List Stream) (earlier : List Move) (m : Move) : Type 0 where
  pub at : IsAt streams m.item m.event
  pub is : move_by m.item m.event ≡ m
  pub below : AllByRecursion (IsBelow streams m) earlier
  pub turn : IsInTurn earlier m.item

-- a move that came before
pub record HasCome (streams : List Stream) (y : Move) : Type 0 where
  pub at : IsAt streams y.item y.event
  pub is : move_by y.item y.event ≡ y
  pub top : IsTop streams y.item y.event

-- where the reported item (q, k) is among the moves that came
pub record Stands (earlier : List Move) (q : Pid) (k : ℕ) : Type 0 where
  pub number : ℕ
  pub move : Move
  pub among : slice_get earlier number ≡ Some move
  pub is : move.item ≡ item.Reported q k

-- what is known of the moves that came
pub record IsKnown (streams : List Stream) (earlier : List Move) : Type 0 where
  pub each : AllByRecursion (HasCome streams) earlier
  pub have : (q : Pid) (k : ℕ) → k < event_count q earlier → Stands earlier q k

-- THE MOVES THAT CAME

abbrev pub one_by : Pid → Item → ℕ
one_by q (item.Reported p i) = if pid_eq p q then 1 else 0
one_by q (item.Hidden p i) = 0

later : (m : Move) (earlier : List Move) (q : Pid) (k : ℕ) → Stands earlier q k
    → Stands (m ∷ earlier) q k
later m earlier q k s = record { number = suc s.number; move = s.move; among = s.among; is = s.is }

pub have_by : (m : Move) (earlier : List Move) (x : Item) → m.item ≡ x → IsInTurn earlier x
    → ((q : Pid) (k : ℕ) → k < event_count q earlier → Stands earlier q k) → (q : Pid) (k : ℕ)
    → k < event_count q earlier + one_by q x → Stands (m ∷ earlier) q k
have_by m earlier (item.Hidden p i) is turn have q k less =
    later m earlier q k (have q k (omega arith))
have_by m earlier (item.Reported p i) is turn have q k less =
    elim (pid_eq p q) as (λ b. pid_eq p q ≡ b → k < event_count q earlier + cond b 1 0
    → Stands (m ∷ earlier) q k) [
      | true ↦ λ same less.
          let who = pid_same p q same in
          let count = turn in
          let counts : event_count p earlier ≡ event_count q earlier =
          ap (λ r. event_count r earlier) who in
          elim (cases_lt k (event_count q earlier)) [
            | inl old ↦ later m earlier q k (have q k old)
            | inr now ↦
                let here : i ≡ k = omega arith in
                record {
                  number = 0;
                  move = m;
                  among = refl;
                  is = is ∙ ap (λ r. item.Reported r i) who ∙ ap (item.Reported q) here;
                }
          ]
      | false ↦ λ other less. later m earlier q k (have q k (omega arith))
    ] refl less

-- A REPORTED STAMP IS ABOVE WHAT ITS PROCESS DID

pub at_event : (streams : List Stream) (x : Item) (e : Event) → IsAt streams x e
    → (p : Pid) × (i : ℕ) × (event_at streams p i ≡ Some e)
at_event streams (item.Reported p i) e h = (p, i, h)
at_event streams (item.Hidden p i) e h = (p, i, h.0)

-- the event of a process before a reported one, which came
record CameBefore (streams : List Stream) (p : Pid) (k : ℕ) (e : Event) : Type 0 where
  event : Event
  at : event_at streams p k ≡ Some event
  top : IsTop streams (item.Reported p k) event
  key : IsKeyBelow (key_by streams (item.Reported p k) event)
      (key_by streams (item.Reported p (suc k)) e)

came_before : (streams : List Stream) (earlier : List Move) (p : Pid) (k : ℕ) (e : Event)
    → IsInTurn earlier (item.Reported p (suc k))
    → AllByRecursion (λ y. IsKeyBelow (key_by streams y.item y.event)
    (key_by streams (item.Reported p (suc k)) e)) earlier
    → IsKnown streams earlier → CameBefore streams p k e
came_before streams earlier p k e turn below known =
    let count = turn in
    let s = known.have p k (omega arith) in
    let d = s.move.event in
    let here = key_by streams (item.Reported p (suc k)) e in
    let came = all_at (HasCome streams) earlier s.number s.move known.each s.among in
    let lower = all_at (λ (y : Move). IsKeyBelow (key_by streams y.item y.event) here) earlier
    s.number s.move below s.among in
    record {
      event = d;
      at = subst (λ y. IsAt streams y d) s.is came.at;
      top = subst (λ y. IsTop streams y d) s.is came.top;
      key = subst (λ y. IsKeyBelow (key_by streams y d) here) s.is lower;
    }

-- a stamp is above what its process did: above the stamp before it, and above a receive before it
-- that isn't lower
above_before : (streams : List Stream) (p : Pid) (k : ℕ) (e : Event) → IsPaired streams
    → event_at streams p (suc k) ≡ Some e → is_stamp e ≡ true → CameBefore streams p k e
    → height_of streams p (suc k) < e.serial.this
above_before streams p k e ok at stamps came =
    let d = came.event in
    let before = height_more streams p k d came.at in
    let here = height_more streams p (suc k) e at in
    let low = height_is streams p k in
    let high = height_is streams p (suc k) in
    elim (is_stamp d) as (λ b. is_stamp d ≡ b → height_of streams p (suc k) < e.serial.this) [
      | true ↦ λ stamp.
          let top = came.top stamp in
          let rise = stamp_counts_rise streams ok p k (suc k) d e
          (omega arith) came.at at stamp stamps in
          omega arith
      | false ↦ λ receive.
          let one = came.key.height in
          elim (cases_lt (height streams p k) (height streams p (suc k))) [
            | inl less ↦ omega arith
            | inr least ↦
                let rank = came.key.rank (omega arith) in
                let mine : rank_of d ≡ 1 = ap (λ b. let n : ℕ = if b then 0 else 1 in n) receive in
                let theirs : rank_of e ≡ 0 = ap (λ b. let n : ℕ = if b then 0 else 1 in n) stamps in
                absurd (omega arith)
          ]
    ] refl

pub top_of : (streams : List Stream) (earlier : List Move) (x : Item) (e : Event) → IsPaired streams
    → IsAt streams x e
    → IsInTurn earlier x → AllByRecursion (λ y. IsKeyBelow (key_by streams y.item y.event)
    (key_by streams x e)) earlier
    → IsKnown streams earlier → IsTop streams x e
top_of streams earlier (item.Hidden p i) e ok at turn below known = tt
top_of streams earlier (item.Reported p zero) e ok at turn below known = λ stamps.
    let rises = serial_rises streams ok p 0 e at in
    omega arith
top_of streams earlier (item.Reported p (suc k)) e ok at turn below known = λ stamps.
    above_before streams p k e ok at stamps (came_before streams earlier p k e turn below known)

-- CLOCKS

pub stamps_of : (x : Item) (e : Event) → (let b : Bool = elim x [
  | item.Reported p i ↦ not (is_stamp e)
  | item.Hidden p i ↦ false
] in b) ≡ false → Stamps x e
stamps_of (item.Reported p i) e h = not-false (is_stamp e) h
stamps_of (item.Hidden p i) e h = tt

pub all_below : (streams : List Stream) (m : Move) (earlier : List Move)
    → IsAt streams m.item m.event → move_by m.item m.event ≡ m → Stamps m.item m.event
    → IsTop streams m.item m.event
    → AllByRecursion (HasCome streams) earlier → AllByRecursion (IsBelow streams m) earlier
    → AllByRecursion (λ y. y.who ≡ m.who → y.event.serial.this < m.event.serial.this) earlier
all_below streams m [] at is stamps top each below = tt
all_below streams m (y ∷ earlier) at is stamps top each below = (
  λ who. this_below streams y.item m.item y.event m.event each.0.at at stamps top below.0
      (ap (λ (z : Move). z.who) each.0.is ∙ who ∙ ap (λ (z : Move). z.who) (sym is)),
  all_below streams m earlier at is stamps top each.1 below.1,
)
