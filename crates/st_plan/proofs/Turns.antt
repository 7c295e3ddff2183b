-- Along the order of full streams each process's moves are its events in turn, so after any of them
-- its clock is the greatest count of its events so far, and its last count what the nearest of them
-- leaves.
use Rattle.std.proofs.Common.{◌≡◌, ℕ, suc, ◌+◌, max, Bool, true, false, not, cond, List, [], ◌∷◌}
use Rattle.std.proofs.Common.{◌++◌, take, drop, length, filter, reverse, Some, None}
use Rattle.std.proofs.Common.{slice_get, refl, sym, ◌∙◌, ap, subst, arith}
use Rattle.std.specs.List.{AllByRecursion}
use Rattle.std.proofs.lemmas.Bool.{eq-eqb, false≢true}
use Rattle.std.proofs.lemmas.Option.{none-some, same_Some}
use Rattle.st_core.specs.declared.types.Pid.{Pid}
use Rattle.st_core.specs.declared.types.Kind.TheVariants as kind
use Rattle.st_core.specs.declared.types.Event.{Event}
use Rattle.st_core.specs.Pid.{pid_eq, IsRising}
use Rattle.st_core.specs.Run.{Stream, pids_of}
use Rattle.st_core.specs.Streams.{events_of}
use Rattle.st_core.specs.Laws.{greatest_count, prev_after}
use Rattle.st_core.proofs.ForCallers.{greatest_push, pid_eq-refl, pid_same, prev_push}
use Rattle.st_pair.specs.Places.{event_at, is_stamp}
use Rattle.st_order.specs.declared.item.Item.{Item}
use Rattle.st_order.specs.declared.item.Item.TheVariants as item
use Rattle.st_order.specs.Items.{event_of, is_hidden}
use Rattle.st_order.specs.Order.{IsOrder}
use Rattle.st_order.specs.Turn.{in_turn, is_event_of, StampsLead}
use Rattle.st_order.proofs.ForCallers.{all_right, drop_front, index_of, keeps_turn}
use Rattle.st_plan.specs.Moves.{Move, clock, last, move_by, moves}
use Rattle.st_plan.specs.Plain.{event_count, out_of_turn}
use Rattle.st_plan.proofs.EarlierMoves.{take_more, IsThere, moves_by, one_move, order_there}
use Rattle.st_plan.proofs.FreeMoves.{reverse_more}
use Rattle.st_plan.proofs.OrderedMoves.{item_is}

-- MOVES IN TURN

-- the move of event i of p
abbrev pub event_move : Pid → ℕ → Event → Move
event_move p i e = record { item = item.Reported p i; who = p; event = e }

-- the moves of these events of p, from index i on
abbrev pub turned : Pid → ℕ → List Event → List Move
turned p i [] = []
turned p i (e ∷ es) = event_move p i e ∷ turned p (i + 1) es

-- the move is one of p's events
abbrev pub is_move_of : Pid → Move → Bool
is_move_of p m = is_event_of p m.item

module _ (streams : List Stream) where
  -- the moves of what is kept
  moves_kept : (p : Pid) (xs : List Item)
      → filter (is_move_of p) (moves streams xs) ≡ moves streams (filter (is_event_of p) xs)
  moves_kept p [] = refl
  moves_kept p (x ∷ xs) =
      let kept = filter (is_event_of p) xs in
      let rest = moves_kept p xs in
      elim (event_of streams x) as (λ o. event_of streams x ≡ o
      → filter (is_move_of p) (moves_by streams x xs o)
      ≡ moves streams (cond (is_event_of p x) (x ∷ kept) kept)) [
        | None ↦ λ none. rest ∙ elim (is_event_of p x) as
            (λ b. moves streams kept ≡ moves streams (cond b (x ∷ kept) kept)) [
              | true ↦ sym (ap (moves_by streams x kept) none)
              | false ↦ refl
            ]
        | Some e ↦ λ at.
            let ms = filter (is_move_of p) (moves streams xs) in
            ap (λ y. cond (is_event_of p y) (move_by x e ∷ ms) ms) (item_is x e)
            ∙ elim (is_event_of p x) as
            (λ b. cond b (move_by x e ∷ ms) ms ≡ moves streams (cond b (x ∷ kept) kept)) [
              | true ↦ ap (λ ys. move_by x e ∷ ys) rest ∙ sym (one_move streams x e kept at)
              | false ↦ rest
            ]
      ] refl

  moves_turned : (p : Pid) (i : ℕ) (es : List Event) → drop i (events_of streams p) ≡ es
      → moves streams (in_turn p i (length es)) ≡ turned p i es
  moves_turned p i [] left = refl
  moves_turned p i (e ∷ es) left =
      let front = drop_front (events_of streams p) i e es left in
      let next : suc i ≡ i + 1 = omega arith in
      one_move streams (item.Reported p i) e (in_turn p (i + 1) (length es)) front.0
      ∙ ap (λ ms. event_move p i e ∷ ms) (moves_turned p (i + 1) es
      (ap (λ (n : ℕ). drop n (events_of streams p)) (sym next) ∙ front.1))

-- the move is one of an event
abbrev IsEventMove : Move → Type 0
IsEventMove m = (i : ℕ) × (m ≡ event_move m.who i m.event)

-- no item of the streams is hidden
abbrev IsOpen : List Stream → Type 0
IsOpen streams = (p : Pid) (i : ℕ) (e : Event) → event_at streams p i ≡ Some e
    → is_hidden streams e ≡ false

event_moves : (streams : List Stream) → IsOpen streams → (xs : List Item)
    → AllByRecursion (IsThere streams) xs → AllByRecursion IsEventMove (moves streams xs)
event_moves streams shown [] there = tt
event_moves streams shown (item.Reported p i ∷ xs) there =
    subst (AllByRecursion IsEventMove) (sym (one_move streams
    (item.Reported p i) there.0.0 xs there.0.1))
    ((i, refl), event_moves streams shown xs there.1)
event_moves streams shown (item.Hidden p i ∷ xs) there =
    absurd (false≢true (sym (shown p i there.0.0 there.0.1.0) ∙ there.0.1.1))

-- THE COUNTS OF ONE PROCESS

-- with n moves of p after, its clock c, its last count l, and these moves to come
pub record IsAfter (events : List Event) (p : Pid) (n c l : ℕ) (later : List Move) : Type 0 where
  pub clocked : c ≡ greatest_count (take n events)
  pub counted : l ≡ prev_after (take n events)
  pub left : filter (is_move_of p) later ≡ turned p n (drop n events)

-- what comes first of the events to come
record IsFront (p : Pid) (n : ℕ) (es : List Event) (m : Move) (ms : List Move) : Type 0 where
  event : Event
  rest : List Event
  is : es ≡ event ∷ rest
  move : m ≡ event_move p n event
  others : ms ≡ turned p (n + 1) rest

front : (p : Pid) (n : ℕ) (es : List Event) (m : Move) (ms : List Move) → m ∷ ms ≡ turned p n es
    → IsFront p n es m ms
front p n [] m ms h = absurd (none-some m (sym (ap (λ xs. slice_get xs 0) h)))
front p n (e ∷ es) m ms h = record {
  event = e;
  rest = es;
  is = refl;
  move = same_Some m (event_move p n e) (ap (λ xs. slice_get xs 0) h);
  others = ap (drop 1) h;
}

pub leaves : (e : Event) → cond (not (is_stamp e)) e.serial.this e.serial.prev ≡ prev_after (e ∷ [])
leaves e = elim e.kind as (λ k. let d : Event = record e { kind = k } in
    cond (not (is_stamp d)) e.serial.this e.serial.prev ≡ prev_after (d ∷ [])) [
      | kind.Send ↦ refl
      | kind.Receive ↦ refl
      | kind.Print ↦ refl
    ]

-- p's own next move
pub own_step : (events : List Event) (p : Pid) (n c l j : ℕ) (e : Event) (later : List Move)
    → c ≡ greatest_count (take n events) → event_move p j e ∷ filter (is_move_of p) later
    ≡ turned p n (drop n events)
    → (j ≡ n) × (slice_get events n ≡ Some e) × IsAfter events p (n + 1) (max c e.serial.this)
    (cond (not (is_stamp e)) e.serial.this e.serial.prev) later
own_step events p n c l j e later clocked left =
    let f = front p n (drop n events) (event_move p j e) (filter (is_move_of p) later) left in
    let here = drop_front events n f.event f.rest f.is in
    let event : f.event ≡ e = ap (λ (m : Move). m.event) (sym f.move) in
    let at : slice_get events n ≡ Some e = here.0 ∙ ap (λ x. Some x) event in
    let next : n + 1 ≡ suc n = omega arith in
    let more : take (n + 1) events ≡ take n events ++ e ∷ [] =
    ap (λ k. take k events) next ∙ take_more events n e at in (
      ap (λ (m : Move). index_of m.item) f.move,
      at,
      record {
        clocked = ap (λ k. max k e.serial.this) clocked ∙ sym (greatest_push (take n events) e)
            ∙ ap greatest_count (sym more);
        counted = leaves e ∙ sym (prev_push (take n events) e) ∙ ap prev_after (sym more);
        left = f.others ∙ ap (turned p (n + 1)) (sym here.1 ∙ ap (λ k. drop k events) (sym next));
      },
    )

-- p's counts after these moves, before the later ones
abbrev pub After : List Event → Pid → List Move → List Move → Type 0
After events p earlier later =
    IsAfter events p (event_count p earlier) (clock p earlier) (last p earlier) later

-- p's next move is in turn, and of its next event
pub next_event : (events : List Event) (p : Pid) (i : ℕ) (e : Event) (earlier later : List Move)
    → After events p earlier (event_move p i e ∷ later)
    → (out_of_turn earlier (event_move p i e) ≡ false)
    × (slice_get events (event_count p earlier) ≡ Some e)
next_event events p i e earlier later before =
    let n = event_count p earlier in
    let ms = filter (is_move_of p) later in
    let left : event_move p i e ∷ ms ≡ turned p n (drop n events) =
    ap (λ (b : Bool). cond b (event_move p i e ∷ ms) ms) (sym (pid_eq-refl p)) ∙ before.left in
    let own = own_step events p n (clock p earlier) (last p earlier) i e later before.clocked
    left in
    (ap not (eq-eqb n i (sym own.0)), own.1)

step : (events : List Event) (p q : Pid) (j : ℕ) (e : Event) (earlier later : List Move)
    → After events p earlier (event_move q j e ∷ later)
    → After events p (event_move q j e ∷ earlier) later
step events p q j e earlier later before =
    let n = event_count p earlier in
    let c = clock p earlier in
    let l = last p earlier in
    let ms = filter (is_move_of p) later in
    elim (pid_eq q p) as (λ b. pid_eq q p ≡ b → cond b (event_move q j e ∷ ms) ms
    ≡ turned p n (drop n events)
    → IsAfter events p (n + cond b 1 0) (cond b (max c e.serial.this) c)
    (cond b (cond (not (is_stamp e)) e.serial.this e.serial.prev) l) later) [
      | true ↦ λ own left.
          let same = pid_same q p own in
          let here = subst (λ x. event_move x j e ∷ ms ≡ turned p n (drop n events)) same left in
          (own_step events p n c l j e later before.clocked here).2
      | false ↦ λ other left.
          let none : n ≡ n + 0 = omega arith in
          subst (λ k. IsAfter events p k c l later) none
          (let same : IsAfter events p n c l later =
          record { clocked = before.clocked; counted = before.counted; left = left } in same)
    ] refl before.left

-- ALONG THE ORDER

module _ (streams : List Stream) (rising : IsRising (pids_of streams)) (shown : IsOpen streams)
    (lead : (p : Pid) → StampsLead streams p) (xs : List Item) (order : IsOrder streams xs) where
  own_moves : (p : Pid) → filter (is_move_of p) (moves streams xs)
      ≡ turned p 0 (events_of streams p)
  own_moves p = moves_kept streams p xs ∙ ap (moves streams)
      (keeps_turn streams xs p rising order (lead p))
      ∙ moves_turned streams p 0 (events_of streams p) refl

  -- a move of the order is one of an event
  pub event_move_there : (earlier : List Move) (m : Move) (later : List Move)
      → moves streams xs ≡ reverse earlier ++ m ∷ later → IsEventMove m
  event_move_there earlier m later split =
      let all = event_moves streams shown xs (order_there streams rising xs order) in
      (all_right IsEventMove (reverse earlier) (m ∷ later)
      (subst (AllByRecursion IsEventMove) split all)).0

  pub after : (p : Pid) (earlier later : List Move) → moves streams xs ≡ reverse earlier ++ later
      → After (events_of streams p) p earlier later
  after p [] later split =
      record {
        clocked = refl;
        counted = refl;
        left = ap (filter (is_move_of p)) (sym split) ∙ own_moves p;
      }
  after p (m ∷ earlier) later split =
      let before = split ∙ reverse_more m earlier later in
      let own = event_move_there earlier m later before in
      let events = events_of streams p in
      subst (λ x. After events p (x ∷ earlier) later) (sym own.1)
      (step events p m.who own.0 m.event earlier later
      (subst (λ x. After events p earlier (x ∷ later)) own.1 (after p earlier (m ∷ later) before)))

  -- what holds of each event that comes next holds of each move of the order
  pub at_each : (P : List Move → Move → Type 0)
      → ((p : Pid) (i : ℕ) (e : Event) (earlier later : List Move)
      → After (events_of streams p) p earlier (event_move p i e ∷ later)
      → P earlier (event_move p i e))
      → (earlier : List Move) (m : Move) (later : List Move)
      → moves streams xs ≡ reverse earlier ++ m ∷ later → P earlier m
  at_each P each earlier m later split =
      let own = event_move_there earlier m later split in
      let p = m.who in
      let before = after p earlier (m ∷ later) split in
      subst (P earlier) (sym own.1) (each p own.0 m.event earlier later
      (subst (λ x. After (events_of streams p) p earlier (x ∷ later)) own.1 before))
