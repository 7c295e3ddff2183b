-- Along an order of all that is there, in turn, the moves tell each process's told events: each is
-- the next, told where it is told, and there is none that no move is of.
use Rattle.std.proofs.Common.{◌≡◌, ℕ, zero, suc, ◌+◌, ◌<◌, ◌≤◌, Bool, true, false, cond, List, []}
use Rattle.std.proofs.Common.{◌∷◌, ◌++◌, length, take, Some, append_assoc, inl, inr, refl, sym, ◌∙◌}
use Rattle.std.proofs.Common.{ap, subst, arith, if◌then◌else◌}
use Rattle.std.specs.List.{slice_get}
use Rattle.std.proofs.lemmas.Bool.{cases_lt}
use Rattle.std.proofs.lemmas.List.{append-nil, take_all}
use Rattle.std.proofs.lemmas.Option.{same_Some, none-some, slice_get-get_or}
use Rattle.st_core.specs.declared.types.Pid.{Pid}
use Rattle.st_core.specs.declared.types.Event.{Event}
use Rattle.st_core.specs.Pid.{pid_eq}
use Rattle.st_core.specs.Run.{Stream}
use Rattle.st_core.specs.Streams.{events_of}
use Rattle.st_core.proofs.ForCallers.{pid_same, pid_eq-refl}
use Rattle.st_pair.specs.Places.{event_at}
use Rattle.st_pair.proofs.ForCallers.{blank}
use Rattle.st_order.specs.declared.item.Item.{Item}
use Rattle.st_order.specs.declared.item.Item.TheVariants as item
use Rattle.st_plan.specs.Marks.{told_events_from, Marks}
use Rattle.st_plan.specs.Moves.{Move, move_by}
use Rattle.st_plan.specs.Plain.{event_count, told_of_moves, told_of_move}
use Rattle.st_plan.proofs.EarlierMoves.{IsAt}
use Rattle.st_plan.proofs.FreeMoves.{AllAlong, IsInTurn}
use Rattle.st_plan.proofs.Clocks.{one_by, IsNext}

-- the told events with one event more
told_more : (told : ℕ → Bool) (i : ℕ) (es : List Event) (n : ℕ) (e : Event)
    → slice_get es n ≡ Some e → told_events_from told i (take (suc n) es)
    ≡ told_events_from told i (take n es) ++ (if told (i + n) then e ∷ [] else [])
told_more told i [] n e at = absurd (none-some e at)
told_more told i (d ∷ es) zero e at =
    let here : i ≡ i + 0 = omega arith in
    ap (λ (x : Event). let xs : List Event = cond (told i) (x ∷ []) [] in xs) (same_Some d e at)
    ∙ ap (λ k. let xs : List Event = cond (told k) (e ∷ []) [] in xs) here
told_more told i (d ∷ es) (suc n) e at =
    let next : i + 1 + n ≡ i + suc n = omega arith in
    let one = λ (k : ℕ). let xs : List Event = if told k then e ∷ [] else [] in xs in
    let before = told_events_from told (i + 1) (take n es) in
    let rest : told_events_from told (i + 1) (take (suc n) es) ≡ before ++ one (i + suc n) =
    told_more told (i + 1) es n e at ∙ ap (λ k. before ++ one k) next in
    let after = told_events_from told (i + 1) (take (suc n) es) in
    elim (told i) as (λ b. cond b (d ∷ after) after ≡ cond b (d ∷ before) before
    ++ one (i + suc n)) [
      | true ↦ ap (λ xs. d ∷ xs) rest
      | false ↦ rest
    ]

-- what p tells of its first n events
abbrev told_first : List Stream → Marks → Pid → ℕ → List Event
told_first streams marks p n = told_events_from (marks p) 0 (take n (events_of streams p))

tell_by : (streams : List Stream) (marks : Marks) (earlier : List Move) (p : Pid) (x : Item)
    (e : Event) → IsAt streams x e → IsInTurn earlier x → told_first streams marks p
    (event_count p earlier + one_by p x)
    ≡ told_first streams marks p (event_count p earlier) ++ told_of_move marks p (move_by x e)
tell_by streams marks earlier p (item.Hidden q i) e at turn =
    let same : event_count p earlier + 0 ≡ event_count p earlier = omega arith in
    ap (told_first streams marks p) same
    ∙ sym (append-nil (told_first streams marks p (event_count p earlier)))
tell_by streams marks earlier p (item.Reported q i) e at turn =
    let es = events_of streams p in
    let n = event_count p earlier in
    let whole = told_first streams marks p in
    elim (pid_eq q p) as (λ b. pid_eq q p ≡ b
    → whole (n + cond b 1 0) ≡ whole n ++ cond b (cond (marks q i) (e ∷ []) []) []) [
      | true ↦ λ same.
          let who = pid_same q p same in
          let count = turn in
          let index : i ≡ n = sym count ∙ ap (λ r. event_count r earlier) who in
          let here : slice_get es n ≡ Some e =
          ap (slice_get es) (sym index) ∙ ap (λ r. event_at streams r i) (sym who) ∙ at in
          let more : n + 1 ≡ suc n = omega arith in
          let number : 0 + n ≡ n = omega arith in
          let place : marks p (0 + n) ≡ marks q i =
          ap (marks p) (number ∙ sym index) ∙ ap (λ r. marks r i) (sym who) in
          ap whole more ∙ told_more (marks p) 0 es n e here
          ∙ ap (λ b. whole n ++ cond b (e ∷ []) []) place
      | false ↦ λ other.
          let same : n + 0 ≡ n = omega arith in
          ap whole same ∙ sym (append-nil (whole n))
    ] refl

tell_along : (streams : List Stream) (marks : Marks) (p : Pid) (earlier ms : List Move)
    → AllAlong (IsNext streams) earlier ms → told_first streams marks p
    (event_count p earlier + event_count p ms)
    ≡ told_first streams marks p (event_count p earlier) ++ told_of_moves marks p ms
tell_along streams marks p earlier [] all =
    let same : event_count p earlier + 0 ≡ event_count p earlier = omega arith in
    ap (told_first streams marks p) same
    ∙ sym (append-nil (told_first streams marks p (event_count p earlier)))
tell_along streams marks p earlier (m ∷ ms) all =
    let whole = told_first streams marks p in
    let next = all.0 in
    let rest = tell_along streams marks p (m ∷ earlier) ms all.1 in
    let one = tell_by streams marks earlier p m.item m.event next.at next.turn in
    let step : whole (event_count p earlier + one_by p m.item)
    ≡ whole (event_count p earlier) ++ told_of_move marks p m =
    one ∙ ap (λ y. whole (event_count p earlier) ++ told_of_move marks p y) next.is in
    let sum : event_count p earlier + (event_count p ms + one_by p m.item)
    ≡ event_count p earlier + one_by p m.item + event_count p ms =
    omega arith in
    ap whole sum
    ∙ rest
    ∙ ap (λ xs. xs ++ told_of_moves marks p ms) step
    ∙ append_assoc (whole (event_count p earlier)) (told_of_move marks p m)
    (told_of_moves marks p ms)

-- a reported item that comes later has an index below the count at the end
index_low : (streams : List Stream) (p : Pid) (i : ℕ) (earlier ms : List Move)
    → AllAlong (IsNext streams) earlier ms
    → (n : ℕ) (m : Move) → slice_get ms n ≡ Some m → m.item ≡ item.Reported p i
    → i < event_count p earlier + event_count p ms
index_low streams p i earlier [] all n m at is = absurd (none-some m at)
index_low streams p i earlier (y ∷ ms) all zero m at is =
    let same : y ≡ m = same_Some y m at in
    let item_is : y.item ≡ item.Reported p i = ap (λ (z : Move). z.item) same ∙ is in
    let count : event_count p earlier ≡ i = subst (IsInTurn earlier) item_is all.0.turn in
    let one : one_by p y.item ≡ 1 =
    ap (one_by p) item_is ∙ ap (λ b. let k : ℕ = if b then 1 else 0 in k) (pid_eq-refl p) in
    let total : event_count p (y ∷ ms) ≡ event_count p ms + one_by p y.item = refl in
    omega arith
index_low streams p i earlier (y ∷ ms) all (suc n) m at is =
    let rest = index_low streams p i (y ∷ earlier) ms all.1 n m at is in
    let grown : event_count p (y ∷ earlier) ≡ event_count p earlier + one_by p y.item = refl in
    let total : event_count p (y ∷ ms) ≡ event_count p ms + one_by p y.item = refl in
    omega arith

-- each event of p is that of one of these moves
abbrev pub AreMoved : List Stream → Pid → List Move → Type 0
AreMoved streams p ms = (i : ℕ) (e : Event) → event_at streams p i ≡ Some e
    → (n : ℕ) × (m : Move) × (slice_get ms n ≡ Some m) × (m.item ≡ item.Reported p i)

no_more : (streams : List Stream) (p : Pid) (ms : List Move) → AllAlong (IsNext streams) [] ms
    → AreMoved streams p ms → event_count p ms < length (events_of streams p) → ⊥
no_more streams p ms all whole less =
    let at = slice_get-get_or (events_of streams p) (event_count p ms) blank less in
    let place = whole (event_count p ms) _ at in
    let low = index_low streams p (event_count p ms) [] ms all place.0 place.1 place.2 place.3 in
    omega arith

-- if each event of p is among the moves, the moves tell all its told events
pub tells_all : (streams : List Stream) (marks : Marks) (p : Pid) (ms : List Move)
    → AllAlong (IsNext streams) [] ms → AreMoved streams p ms → told_of_moves marks p ms
    ≡ told_events_from (marks p) 0 (events_of streams p)
tells_all streams marks p ms all whole =
    let es = events_of streams p in
    let tell = tell_along streams marks p [] ms all in
    let enough : length es ≤ event_count p ms = elim (cases_lt (event_count p ms) (length es)) [
      | inr least ↦ least
      | inl less ↦ absurd (no_more streams p ms all whole less)
    ] in
    let same : 0 + event_count p ms ≡ event_count p ms = omega arith in
    sym tell ∙ ap (told_first streams marks p) same
    ∙ ap (told_events_from (marks p) 0) (take_all (event_count p ms) es enough)
