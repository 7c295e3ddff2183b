-- Full streams are plain: each stamp counts one more than its process's clock, so nothing is
-- missing, and its prev is the last count or the clock.
use Rattle.std.proofs.Common.{◌≡◌, ℕ, zero, suc, ◌+◌, ◌-◌, ◌<◌, ◌≤◌, ◌==◌, ◌&&◌, ◌||◌, nat_lt, Bool}
use Rattle.std.proofs.Common.{true, false, not, cond, List, [], ◌∷◌, ◌++◌, take, reverse}
use Rattle.std.proofs.Common.{Some, inl, inr, slice_get, refl, sym, ◌∙◌, ap, arith}
use Rattle.std.proofs.lemmas.Bool.{eq-eqb, false≢true}
use Rattle.std.proofs.lemmas.Bool.Decides.{nat_tests}
use Rattle.std.proofs.lemmas.Option.{none-some, same_Some}
use Rattle.st_core.specs.declared.types.Pid.{Pid}
use Rattle.st_core.specs.declared.types.Event.{Event}
use Rattle.st_core.specs.declared.types.Act.{Act}
use Rattle.st_core.specs.Pid.{IsRising}
use Rattle.st_core.specs.State.{zero_state}
use Rattle.st_core.specs.Run.{Stream, Shows, pids_of}
use Rattle.st_core.specs.Streams.{events_of}
use Rattle.st_core.specs.Laws.{GoesOnFrom, greatest_count, NoReset, ReportsEverything}
use Rattle.st_core.proofs.ForCallers.{and_false}
use Rattle.st_pair.specs.Places.{event_at, is_stamp}
use Rattle.st_order.specs.declared.item.Item.{Item}
use Rattle.st_order.specs.Order.{IsOrder}
use Rattle.st_order.specs.Turn.{StampsLead}
use Rattle.st_plan.specs.Moves.{Move, clock, is_taking, last, moves, skip, skips}
use Rattle.st_plan.specs.Reasons.{most_skipped, most_skipped_in_all, too_wide, uncaused}
use Rattle.st_plan.specs.Plain.{IsPlain, out_of_turn, event_count}
use Rattle.st_plan.specs.Full.{IsFull}
use Rattle.st_plan.proofs.FullRuns.{run_full}
use Rattle.st_plan.proofs.FreeMoves.{reverse_more}
use Rattle.st_plan.proofs.Turns.{After, at_each, event_move, next_event}

-- HEIGHTS

pub greatest_has : (es : List Event) (n j : ℕ) (e : Event) → slice_get es j ≡ Some e → j < n
    → e.serial.this ≤ greatest_count (take n es)
greatest_has es zero j e at less = absurd (omega arith)
greatest_has [] (suc n) j e at less = absurd (none-some e at)
greatest_has (d ∷ es) (suc n) zero e at less =
    let same = ap (λ (x : Event). x.serial.this) (same_Some d e at) in
    omega arith
greatest_has (d ∷ es) (suc n) (suc j) e at less =
    let rest = greatest_has es n j e at (omega arith) in
    omega arith

stamps_lead : (top : ℕ) (streams : List Stream) → IsFull top streams → (p : Pid)
    → StampsLead streams p
stamps_lead top streams full p j i d e less at_d at_e stamp =
    let count = (full.goes_on p i e at_e stamp).count in
    let low = greatest_has (events_of streams p) i j d at_d less in
    omega arith

-- AT EACH MOVE

-- what is known of a move after the earlier ones
record IsNext (earlier : List Move) (m : Move) : Type 0 where
  turn : out_of_turn earlier m ≡ false
  caused : uncaused earlier m ≡ false
  skipped : skip earlier m ≡ 0

not_below : (m n : ℕ) → m ≡ n → nat_lt m n ≡ false
not_below m n h = grind (arith, nat_tests)

at_move : (streams : List Stream) (p : Pid) (i : ℕ) (e : Event) (earlier later : List Move)
    → ((i : ℕ) (e : Event) → event_at streams p i ≡ Some e → is_stamp e ≡ true
    → GoesOnFrom (take i (events_of streams p)) e)
    → After (events_of streams p) p earlier (event_move p i e ∷ later)
    → IsNext earlier (event_move p i e)
at_move streams p i e earlier later goes_on before =
    let c = clock p earlier in
    let l = last p earlier in
    let prev = e.serial.prev in
    let own = next_event (events_of streams p) p i e earlier later before in
    record {
      turn = own.0;
      caused = elim (is_stamp e) as (λ b. is_stamp e ≡ b
          → (not (not b) && (not (prev == l) && nat_lt prev c)) ≡ false) [
            | true ↦ λ stamp. elim (goes_on (event_count p earlier) e own.1 stamp).prev [
              | inl same ↦ ap (λ b. not b && nat_lt prev c)
                  (eq-eqb prev l (same ∙ sym before.counted))
              | inr same ↦ and_false (not (prev == l)) (nat_lt prev c)
                  (not_below prev c (same ∙ sym before.clocked))
            ]
            | false ↦ λ receive. refl
          ] refl;
      skipped = elim (is_stamp e) as (λ b. is_stamp e ≡ b
          → cond (not b) 0 (e.serial.this - 1 - c) ≡ 0) [
            | true ↦ λ stamp.
                let count = (goes_on (event_count p earlier) e own.1 stamp).count in
                let clocked = before.clocked in
                omega arith
            | false ↦ λ receive. refl
          ] refl;
    }

-- if no count is skipped at a move nor before it, the move isn't too wide
narrow_by : (taking : Bool) (here before : ℕ) → here ≡ 0 → before ≡ 0
    → (not taking && (nat_lt most_skipped here || nat_lt most_skipped_in_all (here + before)))
    ≡ false
narrow_by true here before none nothing = refl
narrow_by false here before none nothing =
    rw (none, nothing) refl

module _ (top : ℕ) (streams : List Stream) (rising : IsRising (pids_of streams))
    (full : IsFull top streams) (xs : List Item) (order : IsOrder streams xs) where
  along : (earlier : List Move) (m : Move) (later : List Move)
      → moves streams xs ≡ reverse earlier ++ m ∷ later → IsNext earlier m
  along earlier m later split =
      at_each streams rising full.reported (stamps_lead top streams full) xs order IsNext
      (λ p i e before after. at_move streams p i e before after (full.goes_on p)) earlier m later
      split

  no_skips : (earlier later : List Move) → moves streams xs ≡ reverse earlier ++ later
      → skips earlier ≡ 0
  no_skips [] later split = refl
  no_skips (m ∷ earlier) later split =
      let before = split ∙ reverse_more m earlier later in
      let here = (along earlier m later before).skipped in
      let rest = no_skips earlier (m ∷ later) before in
      omega arith

  narrow : (earlier : List Move) (m : Move) (later : List Move)
      → moves streams xs ≡ reverse earlier ++ m ∷ later → too_wide earlier m ≡ false
  narrow earlier m later split =
      narrow_by (is_taking m) (skip earlier m) (skips earlier) (along earlier m later split).skipped
      (no_skips earlier (m ∷ later) split)

-- THE LAWS

pub full_streams_plain : (top : ℕ) (streams : List Stream) → IsRising (pids_of streams)
    → IsFull top streams → IsPlain top streams
full_streams_plain top streams rising full = record {
  settled = record {
    accepted = full.accepted;
    in_turn = λ p i h. false≢true
        (sym (along top streams rising full h.order h.is_order h.earlier h.move h.later
        h.split).turn ∙ h.holds);
    caused = λ p i h. false≢true
        (sym (along top streams rising full h.order h.is_order h.earlier h.move h.later
        h.split).caused ∙ h.holds);
    within = full.within;
  };
  narrow = λ p i h. false≢true
      (sym (narrow top streams rising full h.order h.is_order h.earlier h.move h.later h.split)
      ∙ h.holds);
}

pub full_plain : (top : ℕ) (streams : List Stream) (acts : List Act)
    (shows : Shows top streams acts) → IsRising (pids_of streams) → NoReset acts → ReportsEverything
    (zero_state (pids_of streams)) acts shows.0 → IsPlain top streams
full_plain top streams acts shows rising none all =
    full_streams_plain top streams rising (run_full top streams acts shows none all)
