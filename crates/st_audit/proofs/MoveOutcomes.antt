-- The outcome of a stamp, of a report and of an item is that of its move: the state's counts give
-- the same reasons as the moves do, and a report is the event exactly if it is shown.
use Rattle.std.proofs.Common.{◌≡◌, ℕ, ◌+◌, ◌-◌, ◌≤◌, ◌==◌, ◌&&◌, ◌||◌, nat_lt, suc, Bool}
use Rattle.std.proofs.Common.{true, false, not, cond}
use Rattle.std.proofs.Common.{List, [], ◌∷◌, ◌++◌, take, length, Option, Some, None, option_map}
use Rattle.std.proofs.Common.{Result, Ok, Err, refl, sym, ◌∙◌, ap, subst, arith}
use Rattle.std.specs.Option.{option_eq, option_map_or}
use Rattle.std.specs.Result.{IsErrAnd}
use Rattle.std.proofs.lemmas.Bool.{eq-eqb, ne_eqb}
use Rattle.std.proofs.lemmas.List.{append-nil, length-reverse, length-take}
use Rattle.std.proofs.lemmas.Option.{none-some, same_Some}
use Rattle.st_core.specs.declared.types.Pid.{Pid}
use Rattle.st_core.specs.declared.types.Event.{Event}
use Rattle.st_core.specs.declared.types.Flags.{Flags}
use Rattle.st_core.specs.declared.types.Kind.TheVariants as kind
use Rattle.st_core.specs.declared.types.Act.{Act}
use Rattle.st_core.specs.Pid.{pid_eq}
use Rattle.st_core.specs.Event.{event_eq}
use Rattle.st_core.specs.State.{Process, State, process}
use Rattle.st_core.specs.Step.{Outcome}
use Rattle.st_core.specs.Run.{Stream}
use Rattle.st_core.proofs.ForCallers.{mapped, event_eq-true, event_eq-same}
use Rattle.st_mail.specs.declared.outcome.Outcome.{Outcome as Told}
use Rattle.st_pair.specs.Places.{is_stamp}
use Rattle.st_order.specs.declared.item.Item.{Item}
use Rattle.st_order.specs.declared.item.Item.TheVariants as item
use Rattle.st_order.specs.Items.{event_of}
use Rattle.st_plan.specs.declared.plan.Start.{Start}
use Rattle.st_plan.specs.Marks.{all_told, Marks}
use Rattle.st_plan.specs.Moves.{Move, clock, earlier_of, is_taking, move_by, moves, skips}
use Rattle.st_plan.specs.Plain.{event_count, out_of_turn}
use Rattle.st_plan.specs.Reasons.{most_skipped, most_skipped_in_all, too_wide, uncaused}
use Rattle.st_plan.specs.Build.{ready, start_of}
use Rattle.st_plan.proofs.ForCallers.{moves_by}
use Rattle.st_audit.specs.declared.construction.Construction.{Construction}
use Rattle.st_audit.specs.declared.construction.Halt.{Halt}
use Rattle.st_audit.specs.declared.construction.Halt.TheVariants as halt
use Rattle.st_audit.specs.Construction.{acts_from, attempt, compared_turn, is_shown, last_report}
use Rattle.st_audit.specs.Construction.{turn, Turn, Through, Stopped}
use Rattle.st_audit.specs.Progress.{if_told, is_below, is_high, is_marked, is_too_wide, is_uncaused}
use Rattle.st_audit.specs.Progress.{item_turn, marked_turn, missing_count, move_turn, report_turn}
use Rattle.st_audit.specs.Progress.{stamp_skip, stamp_turn, test_at, IsSoFar, Meets, SaysNothing}
use Rattle.st_audit.specs.Progress.{TellsLast, TriesAct, WentThrough}

-- what holds of the error holds of the result at the exit of a `?`
pub on_err : {T E : Type 0} (r : Result T E) (h : E) (P : Result T E → Type 0)
    → IsErrAnd r (λ y. y ≡ h) → P (Err h)
    → P r
on_err (Ok x) h P is fact = absurd is
on_err (Err y) h P is fact = subst (λ z. P (Err z)) (sym is) fact

-- A STAMP

pub within_bounds : (b : Bool) (k now : ℕ) → Some now ≡ cond b None (Some k) → b ≡ false
within_bounds true k now h = absurd (none-some now (sym h))
within_bounds false k now h = refl

pub within_count : (b : Bool) (k now : ℕ) → Some now ≡ cond b None (Some k) → now ≡ k
within_count true k now h = absurd (none-some now (sym h))
within_count false k now h = same_Some now k h

stamp_turn_of : {top : ℕ} (c : Construction top) (p : Pid) (e : Event) (f : Flags) (a : Act)
    (r : Process)
    → process c.world p ≡ Some r → stamp_turn c p e f a
    ≡ attempt top c.world (is_uncaused (start_of r.local) e.serial)
    (is_too_wide c.skipped (missing_count (start_of r.local) e.serial))
    (Some (ready p (start_of r.local) e.label e.serial f ++ a ∷ []))
stamp_turn_of c p e f a r is = rw is refl

-- the turn of a stamp, by the token, clock and last count that the code found
pub stamp_turn_is : {top : ℕ} (c : Construction top) (p : Pid) (e : Event) (f : Flags) (a : Act)
    (start : Start)
    → option_map (λ (r : Process). start_of r.local) (process c.world p) ≡ Some start
    → stamp_turn c p e f a
    ≡ attempt top c.world (is_uncaused start e.serial)
    (is_too_wide c.skipped (missing_count start e.serial))
    (Some (ready p start e.label e.serial f ++ a ∷ []))
stamp_turn_is {top} c p e f a start is =
    let parts = mapped (λ (r : Process). start_of r.local) (process c.world p) start is in
    stamp_turn_of c p e f a parts.0 parts.1
    ∙ ap (λ (x : Start). attempt top c.world (is_uncaused x e.serial)
    (is_too_wide c.skipped (missing_count x e.serial))
    (Some (ready p x e.label e.serial f ++ a ∷ []))) parts.2

-- the skip of a stamp, by the clock that the code found
pub stamp_skip_is : (s : State) (p : Pid) (e : Event) (start : Start)
    → option_map (λ (r : Process). start_of r.local) (process s p) ≡ Some start
    → stamp_skip s p e ≡ missing_count start e.serial
stamp_skip_is s p e start is =
    let parts = mapped (λ (r : Process). start_of r.local) (process s p) start is in
    ap (λ o. option_map_or (λ (r : Process). missing_count (start_of r.local) e.serial) o 0) parts.1
    ∙ ap (λ (x : Start). missing_count x e.serial) parts.2

-- A REPORT

pub report_same : (r o : Option Event) → option_eq event_eq r o ≡ true → r ≡ o
report_same None None h = refl
report_same None (Some e) h = absurd (cc)
report_same (Some d) None h = absurd (cc)
report_same (Some d) (Some e) h = ap (λ (x : Event). Some x) (event_eq-true d e h)

pub same_report : (r o : Option Event) → r ≡ o → option_eq event_eq r o ≡ true
same_report r o is = subst (λ x. option_eq event_eq r x ≡ true) is (self r)
  where
    self : (r : Option Event) → option_eq event_eq r r ≡ true
    self None = refl
    self (Some e) = event_eq-same e

other_report : (r o : Option Event) → (r ≡ o → ⊥) → option_eq event_eq r o ≡ false
other_report r o other =
    elim (option_eq event_eq r o) as (λ b. option_eq event_eq r o ≡ b → b ≡ false) [
      | true ↦ λ h. absurd (other (report_same r o h))
      | false ↦ λ h. refl
    ] refl

tries_marked : (marks : Marks) (m : Move) (t : Turn) → TriesAct t → TriesAct (marked_turn marks m t)
tries_marked marks m (Through (a ∷ acts) os) h = elim (is_marked marks m os) as
    (λ b. TriesAct (cond b (Through (a ∷ acts) os) (Stopped (a ∷ acts)))) [ true ↦ tt | false ↦ tt ]
tries_marked marks m (Stopped (a ∷ acts)) h = tt
tries_marked marks m t h = absurd h

-- marking a turn that doesn't go through changes nothing
marked_err : {top : ℕ} {T U : Type 0} (one : T → List Outcome → Type 0)
    (two : U → List Outcome → Type 0)
    (marks : Marks) (m : Move) (t : Turn) (old : Construction top) (h : Halt)
    (new : Construction top)
    → Meets one t old (Err h) new → Meets two (marked_turn marks m t) old (Err h) new
marked_err one two marks m t old halt.Memory new meets = tries_marked marks m t meets
marked_err one two marks m t old halt.Stopped new meets =
    record { acts = meets.acts; stopped = ap (marked_turn marks m) meets.stopped; put = meets.put }
marked_err one two marks m t old h new meets = ap (marked_turn marks m) meets

module _ {top : ℕ} (streams : List Stream) (marks : Marks) (old : Construction top) (n : ℕ)
    (p : Pid) (i : ℕ)
    (e : Event) (new : Construction top) where
  abbrev move : Move
  move = move_by (item.Reported p i) e

  abbrev whole : Turn
  whole = report_turn streams marks old n move

  abbrev tried : Turn
  tried = marked_turn marks move (move_turn streams marks old move)

  -- the event isn't the next of its process
  pub late_meets : (n ≡ i → ⊥) → new.acts ≡ old.acts
      → Meets {T = Unit {0}} SaysNothing whole old (Err halt.Stopped) new
  late_meets apart same = record {
    acts = [];
    stopped =
        ap (λ b. cond (not b) (Stopped []) (cond (is_high marks old.world move) (Stopped []) tried))
        (ne_eqb n i apart);
    put = same ∙ sym (append-nil old.acts);
  }

  module _ (same : n ≡ i) where
    in_time : whole ≡ cond (is_high marks old.world move) (Stopped []) tried
    in_time =
        ap (λ b. cond (not b) (Stopped []) (cond (is_high marks old.world move) (Stopped []) tried))
        (eq-eqb n i same)

    -- the event's stamp isn't told, and the clock is too high
    pub high_meets : is_high marks old.world move ≡ true → new.acts ≡ old.acts
        → Meets {T = Unit {0}} SaysNothing whole old (Err halt.Stopped) new
    high_meets high kept = record {
      acts = [];
      stopped = in_time ∙ ap (λ b. cond b (Stopped []) tried) high;
      put = kept ∙ sym (append-nil old.acts);
    }

    module _ (low : is_high marks old.world move ≡ false) where
      in_order : whole ≡ tried
      in_order = in_time ∙ ap (λ b. cond b (Stopped []) tried) low

      pub err_meets : (h : Halt)
          → Meets TellsLast (move_turn streams marks old move) old (Err h) new
          → Meets {T = Unit {0}} SaysNothing whole old (Err h) new
      err_meets h meets = subst (λ t. Meets {T = Unit {0}} SaysNothing t old (Err h) new)
          (sym in_order)
          (marked_err {U = Unit {0}} TellsLast SaysNothing marks move
          (move_turn streams marks old move) old h new
          meets)

      module _ (told : Told) (went : WentThrough TellsLast (move_turn streams marks old move) old
          told new) where
        chosen : (b : Bool) → is_marked marks move went.outcomes ≡ b
            → whole ≡ cond b (Through went.acts went.outcomes) (Stopped went.acts)
        chosen b is = in_order ∙ ap (marked_turn marks move) went.through
            ∙ ap (λ c. cond c (Through went.acts went.outcomes) (Stopped went.acts)) is

        pub other_meets : (told.report ≡ if_told (marks p i) e → ⊥)
            → Meets {T = Unit {0}} SaysNothing whole old (Err halt.Stopped) new
        other_meets other = record {
          acts = went.acts;
          stopped = chosen false (other_report (last_report None went.outcomes)
              (if_told (marks p i) e)
              (λ is. other (sym went.said ∙ is)));
          put = went.put;
        }

        pub through_meets : told.report ≡ if_told (marks p i) e
            → WentThrough {T = Unit {0}} SaysNothing whole old tt new
        through_meets is = record {
          acts = went.acts;
          outcomes = went.outcomes;
          through = chosen true (same_report (last_report None went.outcomes)
              (if_told (marks p i) e)
              (went.said ∙ is));
          said = tt;
          after = went.after;
          put = went.put;
        }

-- AN ITEM

-- a process has at most as many events as there are moves
told_most : (p : Pid) (ms : List Move) → event_count p ms ≤ length ms
told_most p [] = omega arith
told_most p (m ∷ ms) =
    let rest = told_most p ms in
    elim m.item as (λ x. event_count p ms + (elim x [
      | item.Reported q i ↦ cond (pid_eq q p) 1 0
      | item.Hidden q i ↦ 0
    ]) ≤ suc (length ms)) [
      | item.Reported q i ↦ elim (pid_eq q p) as (λ b. event_count p ms + cond b 1 0
          ≤ suc (length ms))
          [ true ↦ omega arith | false ↦ omega arith ]
      | item.Hidden q i ↦ omega arith
    ]

moves_most : (streams : List Stream) (xs : List Item) → length (moves streams xs) ≤ length xs
moves_most streams [] = omega arith
moves_most streams (x ∷ xs) =
    let rest = moves_most streams xs in
    elim (event_of streams x) as (λ o. length (moves_by streams x xs o) ≤ suc (length xs)) [
      | None ↦ omega arith
      | Some e ↦ omega arith
    ]

pub told_below : (streams : List Stream) (p : Pid) (xs : List Item) (n : ℕ)
    → event_count p (earlier_of streams (take n xs)) ≤ n
told_below streams p xs n =
    let one = told_most p (earlier_of streams (take n xs)) in
    let two = length-reverse (moves streams (take n xs)) in
    let three = moves_most streams (take n xs) in
    let four = length-take n xs in
    omega arith

module _ {top : ℕ} (streams : List Stream) (marks : Marks) (earlier : List Move)
    (c : Construction top)
    (so : IsSoFar streams earlier c) (m : Move) where
  same_uncaused : (r : Process) → process c.world m.who ≡ Some r
      → (not (is_taking m) && test_at (λ x. is_uncaused x m.event.serial) c.world m.who)
      ≡ uncaused earlier m
  same_uncaused r at =
      let was = so.counted m.who r at in
      let prev = m.event.serial.prev in
      rw (at, was.lasted, was.clocked) refl

  same_too_wide : (r : Process) → process c.world m.who ≡ Some r
      → (not (is_taking m) && test_at (λ x. is_too_wide c.skipped (missing_count x m.event.serial))
      c.world m.who)
      ≡ too_wide earlier m
  same_too_wide r at =
      let was = so.counted m.who r at in
      let this = m.event.serial.this in
      ap (λ o. not (is_taking m)
      && option_map_or (λ (r : Process). is_too_wide c.skipped
      (missing_count (start_of r.local) m.event.serial)) o false) at
      ∙ elim (is_taking m) as (λ b. (not b && is_too_wide c.skipped (this - 1 - r.local.clock))
      ≡ (not b && (nat_lt most_skipped (cond b 0 (this - 1 - clock m.who earlier))
      || nat_lt most_skipped_in_all (cond b 0 (this - 1 - clock m.who earlier) + skips earlier)))) [
        | true ↦ refl
        | false ↦ ap (λ k. is_too_wide c.skipped (this - 1 - k)) was.clocked
            ∙ ap (λ k. is_too_wide k (this - 1 - clock m.who earlier)) so.missed
      ]

  abbrev by_moves : Turn
  by_moves = attempt top c.world (uncaused earlier m) (too_wide earlier m)
      (acts_from streams marks c.world m)

  move_turn_is : move_turn streams marks c m ≡ by_moves
  move_turn_is = elim (process c.world m.who) as (λ o. process c.world m.who ≡ o
      → move_turn streams marks c m ≡ by_moves) [
        | None ↦ λ at. nowhere at
        | Some r ↦ λ at.
            rw (same_uncaused r at, same_too_wide r at) refl
      ] refl where
        nowhere : process c.world m.who ≡ None → move_turn streams marks c m ≡ by_moves
        nowhere at = rw at refl

-- the outcome of a report is that of its item
pub report_turn_is : {top : ℕ} (streams : List Stream) (marks : Marks) (earlier : List Move)
    (c : Construction top)
    → IsSoFar streams earlier c → (p : Pid) (i : ℕ) (e : Event)
    → report_turn streams marks c (event_count p earlier) (move_by (item.Reported p i) e)
    ≡ item_turn streams marks c earlier (move_by (item.Reported p i) e)
report_turn_is streams marks earlier c so p i e =
    let m = move_by (item.Reported p i) e in
    ap (λ t. cond (not (event_count p earlier == i)) (Stopped [])
    (cond (is_high marks c.world m) (Stopped [])
    (marked_turn marks m t))) (move_turn_is streams marks earlier c so m)

marked_hidden : (marks : Marks) (p : Pid) (i : ℕ) (e : Event) (t : Turn)
    → t ≡ marked_turn marks (move_by (item.Hidden p i) e) t
marked_hidden marks p i e (Through acts os) = refl
marked_hidden marks p i e t = refl

-- the outcome of a hidden send is that of its item
pub hidden_turn_is : {top : ℕ} (streams : List Stream) (marks : Marks) (earlier : List Move)
    (c : Construction top)
    → IsSoFar streams earlier c → (p : Pid) (i : ℕ) (e : Event)
    → move_turn streams marks c (move_by (item.Hidden p i) e)
    ≡ item_turn streams marks c earlier (move_by (item.Hidden p i) e)
hidden_turn_is streams marks earlier c so p i e =
    let m = move_by (item.Hidden p i) e in
    move_turn_is streams marks earlier c so m ∙ marked_hidden marks p i e _

shown_as : (r : Option Event) (e : Event)
    → option_eq event_eq r (Some e) ≡ option_map_or (λ d. event_eq d e) r false
shown_as None e = refl
shown_as (Some d) e = refl

-- if every event is told, reporting as the marks say is showing
pub marked_shown : (m : Move) (os : List Outcome) → is_marked all_told m os ≡ is_shown m os
marked_shown m os = elim m.item as (λ x. elim x [
  | item.Reported p i ↦ option_eq event_eq (last_report None os) (Some m.event)
  | item.Hidden p i ↦ true
] ≡ elim x [
  | item.Reported p i ↦ option_map_or (λ e. event_eq e m.event) (last_report None os) false
  | item.Hidden p i ↦ true
]) [ item.Reported p i ↦ shown_as (last_report None os) m.event | item.Hidden p i ↦ refl ]

-- if every event is told, the item's turn is that of the construction
pub all_told_turn : {top : ℕ} (streams : List Stream) (c : Construction top) (earlier : List Move)
    (m : Move)
    → item_turn streams all_told c earlier m ≡ turn top streams all_told c.world earlier m
all_told_turn {top} streams c earlier m =
    let tried = attempt top c.world (uncaused earlier m) (too_wide earlier m)
    (acts_from streams all_told c.world m) in
    ap (λ b. cond (out_of_turn earlier m) (Stopped [])
    (cond b (Stopped []) (marked_turn all_told m tried)))
    (never_high m) ∙ ap (λ t. cond (out_of_turn earlier m) (Stopped []) t) (marked_as tried)
  where
    never_high : (m : Move) → is_high all_told c.world m ≡ false
    never_high m = elim m.item as (λ x. elim x [
      | item.Reported p i ↦ not true && (is_stamp m.event && not (is_below c.world p m.event))
      | item.Hidden p i ↦ false
    ] ≡ false) [ item.Reported p i ↦ refl | item.Hidden p i ↦ refl ]

    marked_as : (t : Turn) → marked_turn all_told m t ≡ compared_turn m t
    marked_as (Through acts os) =
        ap (λ b. cond b (Through acts os) (Stopped acts)) (marked_shown m os)
    marked_as t = refl
