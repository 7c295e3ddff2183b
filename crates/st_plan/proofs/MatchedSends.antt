-- If pairing accepts the streams, no earlier move took the message of a receive, since no other
-- receive has its sender and count, and its sender's stamp with its count is its send.
use Rattle.std.proofs.Common.{◌≡◌, ℕ, ◌==◌, ◌&&◌, ◌||◌, Bool, true, false, not, List, [], ◌∷◌, Some}
use Rattle.std.proofs.Common.{None}
use Rattle.std.proofs.Common.{option_and_then, refl, sym, ◌∙◌, ap, subst, arith, if◌then◌else◌}
use Rattle.std.specs.List.{AllByRecursion}
use Rattle.std.proofs.lemmas.Bool.{eqb-true, false≢true, and_parts}
use Rattle.std.proofs.lemmas.Option.{same_Some}
use Rattle.st_core.specs.declared.types.Pid.{Pid}
use Rattle.st_core.specs.declared.types.Event.{Event}
use Rattle.st_core.specs.Pid.{pid_eq}
use Rattle.st_core.specs.Run.{Stream}
use Rattle.st_core.proofs.ForCallers.{pid_same, not_true}
use Rattle.st_pair.specs.declared.answer.PairFault.TheVariants as fault
use Rattle.st_pair.specs.Places.{event_at, is_stamp}
use Rattle.st_pair.specs.Pairing.{stamp_of, agrees, mismatch}
use Rattle.st_pair.proofs.ForCallers.{agreed, cond_none, event_none, IsAgreed, IsPaired, once_place}
use Rattle.st_pair.proofs.ForCallers.{stamp_once}
use Rattle.st_order.specs.declared.item.Item.{Item}
use Rattle.st_order.specs.declared.item.Item.TheVariants as item
use Rattle.st_order.specs.Order.{key_by}
use Rattle.st_plan.specs.Moves.{Move, is_taking, move_by}
use Rattle.st_plan.proofs.EarlierMoves.{IsAt, IsKeyBelow}
use Rattle.st_plan.proofs.Clocks.{HasCome, IsBelow}
use Rattle.st_plan.proofs.WaitingMessages.{Untaken}

-- ONE RECEIVE FOR A FROM AND A COUNT

pub same_place : (streams : List Stream) → IsPaired streams
    → (p : Pid) (i : ℕ) (e : Event) (a : Pid) (b : ℕ)
    (d : Event) → event_at streams p i ≡ Some e → is_stamp e ≡ false → event_at streams a b ≡ Some d
    → is_stamp d ≡ false → d.from ≡ e.from → d.serial.this ≡ e.serial.this → (a ≡ p) × (b ≡ i)
same_place streams ok p i e a b d at_e receive_e at_d receive_d from count =
    let one = once_place streams ok p i e at_e receive_e in
    let two = once_place streams ok a b d at_d receive_d in
    let same : (let x : Pid × ℕ = (a, b) in x) ≡ (let y : Pid × ℕ = (p, i) in y) =
    same_Some _ _ (sym two ∙ rw (from, count) one) in
    (ap (λ (x : Pid × ℕ). x.0) same, ap (λ (x : Pid × ℕ). x.1) same)

-- NO MOVE TOOK IT

takes_as : (x : Item) (e : Event) → (let b : Bool = elim x [
  | item.Reported p i ↦ not (is_stamp e)
  | item.Hidden p i ↦ false
] in b) ≡ true → (p : Pid) × (i : ℕ) × (x ≡ item.Reported p i) × (is_stamp e ≡ false)
takes_as (item.Hidden p i) e h = absurd (false≢true h)
takes_as (item.Reported p i) e h = (p, i, refl, not_true (is_stamp e) h)

no_self : (streams : List Stream) (x : Item) (e : Event)
    → IsKeyBelow (key_by streams x e) (key_by streams x e) → ⊥
no_self streams x e below = let place = below.place refl refl refl in omega arith

untaken_one : (streams : List Stream) → IsPaired streams → (p : Pid) (i : ℕ) (e : Event) (y : Move)
    → event_at streams p i ≡ Some e → is_stamp e ≡ false → HasCome streams y
    → IsKeyBelow (key_by streams y.item y.event) (key_by streams (item.Reported p i) e)
    → is_taking y ≡ true
    → (pid_eq e.from y.event.from && e.serial.this == y.event.serial.this) ≡ false
untaken_one streams ok p i e y at receive came below takes =
    let same_key = pid_eq e.from y.event.from && e.serial.this == y.event.serial.this in
    elim same_key as (λ b. same_key ≡ b → b ≡ false) [
      | false ↦ λ h. refl
      | true ↦ λ h.
          let parts = and_parts (pid_eq e.from y.event.from)
          (e.serial.this == y.event.serial.this) h in
          let from = sym (pid_same e.from y.event.from parts.0) in
          let count = sym (eqb-true e.serial.this y.event.serial.this parts.1) in
          let as_is = takes_as y.item y.event takes in
          let at_y : event_at streams as_is.0 as_is.1 ≡ Some y.event =
          subst (λ x. IsAt streams x y.event) as_is.2 came.at in
          let same = same_place streams ok p i e as_is.0 as_is.1 y.event at receive at_y as_is.3
          from count in
          let item_is : y.item ≡ item.Reported p i =
          as_is.2 ∙ ap (λ q. item.Reported q as_is.1) same.0 ∙ ap (item.Reported p) same.1 in
          let there : event_at streams as_is.0 as_is.1 ≡ event_at streams p i =
          ap (λ q. event_at streams q as_is.1) same.0 ∙ ap (event_at streams p) same.1 in
          let event_is : y.event ≡ e = same_Some y.event e (sym at_y ∙ there ∙ at) in
          let key = key_by streams (item.Reported p i) e in
          absurd (no_self streams (item.Reported p i) e
          (subst (λ x. IsKeyBelow (key_by streams x e) key) item_is
          (subst (λ d. IsKeyBelow (key_by streams y.item d) key) event_is below)))
    ] refl

pub untaken : (streams : List Stream) → IsPaired streams
    → (p : Pid) (i : ℕ) (e : Event) (earlier : List Move)
    → event_at streams p i ≡ Some e → is_stamp e ≡ false → AllByRecursion (HasCome streams) earlier
    → AllByRecursion (IsBelow streams (move_by (item.Reported p i) e)) earlier
    → (who : Pid) → Untaken who e.from e.serial.this earlier
untaken streams ok p i e [] at receive came below who = tt
untaken streams ok p i e (y ∷ earlier) at receive came below who = (
  λ takes _. untaken_one streams ok p i e y at receive came.0 below.0 takes,
  untaken streams ok p i e earlier at receive came.1 below.1 who,
)

-- EACH SEND WITH ITS FROM AND COUNT GIVES ITS EVENT

-- the sender's stamp with a receive's count is the receive's send
pub matched_send : (streams : List Stream) → IsPaired streams
    → (p : Pid) (i : ℕ) (e : Event) (q : Pid) (j : ℕ) (f : Event) → event_at streams p i ≡ Some e
    → is_stamp e ≡ false
    → event_at streams q j ≡ Some f → is_stamp f ≡ true → q ≡ e.from → f.serial.this ≡ e.serial.this
    → IsAgreed f e
matched_send streams ok p i e q j f at receive at_f stamps who count =
    let found = stamp_once streams ok q j f at_f stamps in
    let sought : stamp_of streams e.from e.serial.this ≡ Some (j, f) =
    ap (λ r. stamp_of streams r e.serial.this) (sym who) ∙ ap (stamp_of streams q) (sym count)
    ∙ found in
    let given = event_none (mismatch streams) streams ok.matched p i e at in
    let rule = λ (g : ℕ × Event). if is_stamp e || agrees g.1 e then None else Some
    (fault.Mismatch p i e.from g.0) in
    let none = ap (option_and_then rule) (sym sought) ∙ given in
    let test = cond_none (is_stamp e || agrees f e) (fault.Mismatch p i e.from j) none in
    agreed f e (ap (λ b. b || agrees f e) (sym receive) ∙ test)
