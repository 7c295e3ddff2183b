-- Streams in which nothing is needed are settled: each stamp is above the events of its process
-- before it, so the order keeps them in turn, and the counts at each move are those of the events
-- before it.
use Rattle.std.proofs.Common.{[], ◌≡◌, ◌↔◌, ℕ, ◌<◌, ◌⊎◌, ◌==◌, inl, inr, ◌&&◌, nat_lt, Bool, true}
use Rattle.std.proofs.Common.{false, not, List, ◌∷◌, ◌++◌, take, map, reverse, refl, sym, ◌∙◌, ap}
use Rattle.std.proofs.Common.{subst, arith}
use Rattle.std.proofs.lemmas.Bool.{eq-eqb, false≢true, ltb-true}
use Rattle.std.proofs.lemmas.Bool.Decides.{nat_tests}
use Rattle.st_core.specs.declared.types.Pid.{Pid}
use Rattle.st_core.specs.declared.types.Event.{Event}
use Rattle.st_core.specs.Pid.{IsRising}
use Rattle.st_core.specs.Run.{Stream, pids_of}
use Rattle.st_core.specs.Streams.{events_of, IsStreams}
use Rattle.st_core.specs.Laws.{greatest_count, prev_after}
use Rattle.st_core.proofs.ForCallers.{and_false}
use Rattle.st_pair.specs.Places.{is_stamp}
use Rattle.st_order.specs.declared.item.Item.{Item}
use Rattle.st_order.specs.Order.{IsOrder}
use Rattle.st_order.specs.Turn.{StampsLead}
use Rattle.st_plan.specs.Marks.{all_streams, told_streams, Marked, told_events, Whole}
use Rattle.st_plan.specs.Moves.{Move, clock, last, moves}
use Rattle.st_plan.specs.Reasons.{uncaused}
use Rattle.st_plan.specs.Plain.{IsSettled, out_of_turn, event_count}
use Rattle.st_plan.specs.Full.{IsFull}
use Rattle.st_plan.proofs.ForCallers.{After, at_each, event_move, greatest_has, next_event}
use Rattle.lack_laws.specs.Completed.{IsCompleted, IsShownInOneTrace}
use Rattle.lack_laws.specs.Local.{IsNeedless}
use Rattle.lack_laws.specs.Needs.{HoldsOfNone, is_late, is_need}
use Rattle.lack_laws.proofs.RunCompletions.{settled_shown, shown_full}
use Rattle.lack_laws.proofs.ToldEvents.{events, streams_by}

-- a stamp that isn't late is above the greatest count before it
pub above_if : (stamp less : Bool) → stamp ≡ true → (stamp && not less) ≡ false → less ≡ true
above_if true true is h = refl
above_if true false is h = absurd (false≢true (sym h))
above_if false less is h = absurd (false≢true is)

pub leads : (streams : List Stream) → HoldsOfNone is_late streams → (p : Pid) → StampsLead streams p
leads streams timely p j i d e less at_d at_e stamp =
    let before = take i (events_of streams p) in
    let above = ltb-true (greatest_count before) e.serial.this
    (above_if (is_stamp e) (nat_lt (greatest_count before) e.serial.this) stamp
    (timely p i e at_e)) in
    omega (arith, greatest_has (events_of streams p) i j d at_d less)

record IsSettledNext (earlier : List Move) (m : Move) : Type 0 where
  turn : out_of_turn earlier m ≡ false
  caused : uncaused earlier m ≡ false

double : (b c : Bool) → (b && c) ≡ false → (not (not b) && c) ≡ false
double true c h = h
double false c h = refl

at_move : (streams : List Stream) (p : Pid) (i : ℕ) (e : Event) (earlier later : List Move)
    → HoldsOfNone is_need streams → After (events_of streams p) p earlier (event_move p i e ∷ later)
    → IsSettledNext earlier (event_move p i e)
at_move streams p i e earlier later needless before =
    let events = events_of streams p in
    let n = event_count p earlier in
    let c = clock p earlier in
    let l = last p earlier in
    let prev = e.serial.prev in
    let own = next_event events p i e earlier later before in
    record {
      turn = own.0;
      caused = double (is_stamp e) (not (prev == l) && nat_lt prev c)
          (ap (λ k. is_stamp e && (not (prev == k) && nat_lt prev c)) before.counted
          ∙ ap (λ k. is_stamp e && (not (prev == prev_after (take n events)) && nat_lt prev k))
          before.clocked
          ∙ needless p n e own.1);
    }

module _ (top : ℕ) (streams : List Stream) (rising : IsRising (pids_of streams))
    (is : IsNeedless top streams)
    (xs : List Item) (order : IsOrder streams xs) where
  along : (earlier : List Move) (m : Move) (later : List Move)
      → moves streams xs ≡ reverse earlier ++ m ∷ later → IsSettledNext earlier m
  along earlier m later split =
      at_each streams rising is.reported (leads streams is.timely) xs order IsSettledNext
      (λ p i e before after. at_move streams p i e before after is.caused) earlier m later split

pub needless_settled : (top : ℕ) (streams : List Stream) → IsRising (pids_of streams)
    → IsNeedless top streams → IsSettled top streams
needless_settled top streams rising is = record {
  accepted = is.accepted;
  in_turn = λ p i h. false≢true
      (sym (along top streams rising is h.order h.is_order h.earlier h.move h.later h.split).turn
      ∙ h.holds);
  caused = λ p i h. false≢true
      (sym (along top streams rising is h.order h.is_order h.earlier h.move h.later h.split).caused
      ∙ h.holds);
  within = is.within;
}

pub needless_shown : (top : ℕ) (streams : List Stream) → IsCompleted IsNeedless top streams
    → IsShownInOneTrace top streams
needless_shown top streams done = settled_shown top streams (record {
  wholes = done.wholes;
  told = done.told;
  sound = done.sound;
  is = needless_settled top (all_streams done.wholes) done.sound.draft.rising done.is;
})

-- FULL STREAMS HAVE NONE

pub on_time : (stamp : Bool) (low this : ℕ) → (stamp ≡ true → low < this)
    → (stamp && not (nat_lt low this)) ≡ false
on_time true low this above = let less = above refl in grind (arith, nat_tests)
on_time false low this above = refl

has_cause : (stamp : Bool) (prev left low : ℕ) → (stamp ≡ true → (prev ≡ left) ⊎ (prev ≡ low))
    → (stamp && (not (prev == left) && nat_lt prev low)) ≡ false
has_cause false prev left low cause = refl
has_cause true prev left low cause = elim (cause refl) [
  | inl same ↦ ap (λ b. not b && nat_lt prev low) (eq-eqb prev left same)
  | inr new ↦ and_false (not (prev == left)) (nat_lt prev low) (grind (arith, nat_tests, new))
]

pub full_needless : (top : ℕ) (streams : List Stream) → IsFull top streams → IsNeedless top streams
full_needless top streams full = record {
  accepted = full.accepted;
  reported = full.reported;
  timely = λ p i e at. on_time (is_stamp e) (greatest_count (take i (events_of streams p)))
      e.serial.this
      (λ stamps. let count = (full.goes_on p i e at stamps).count in omega arith);
  caused = λ p i e at. has_cause (is_stamp e) e.serial.prev
      (prev_after (take i (events_of streams p)))
      (greatest_count (take i (events_of streams p)))
      (λ stamps. (full.goes_on p i e at stamps).prev);
  within = full.within;
}

-- streams have a run without a reset exactly if they have a completion in which nothing is needed
pub exactly_needless : (top : ℕ) (streams : List Stream) → IsRising (pids_of streams)
    → IsShownInOneTrace top streams ↔ IsCompleted IsNeedless top streams
exactly_needless top streams rising = (
  λ shown.
      let done = shown_full top streams rising shown in
      record {
        wholes = done.wholes;
        told = done.told;
        sound = done.sound;
        is = full_needless top (all_streams done.wholes) done.is;
      },
  needless_shown top streams,
)

-- STREAMS THAT ARE THEIR OWN COMPLETION

abbrev pub marks_all : Stream → Whole
marks_all x = record { pid = x.pid; marked = map (λ e. record { event = e; told = true }) x.events }

all_told : (es : List Event) → told_events (map (λ e. let m : Marked =
    record { event = e; told = true } in m) es) ≡ es
all_told [] = refl
all_told (e ∷ es) = ap (λ xs. e ∷ xs) (all_told es)

all_there : (es : List Event) → map (λ (m : Marked). m.event)
    (map (λ e. record { event = e; told = true }) es) ≡ es
all_there [] = refl
all_there (e ∷ es) = ap (λ xs. e ∷ xs) (all_there es)

marks_same : (g : List Marked → List Event)
    → ((es : List Event) → g (map (λ e. record { event = e; told = true }) es) ≡ es)
    → (streams : List Stream) → streams_by g (map marks_all streams) ≡ streams
marks_same g same [] = refl
marks_same g same (x ∷ streams) =
    ap (λ es. let y : Stream = record { pid = x.pid; events = es } in
    y ∷ streams_by g (map marks_all streams))
    (same x.events)
    ∙ ap (λ ys. x ∷ ys) (marks_same g same streams)

pub told_same : (streams : List Stream) → told_streams (map marks_all streams) ≡ streams
told_same = marks_same told_events all_told

pub all_same : (streams : List Stream) → all_streams (map marks_all streams) ≡ streams
all_same = marks_same events all_there

-- streams with a property are their own completion with it
pub own_completion : (Is : ℕ → List Stream → Type 0) (top : ℕ) (streams : List Stream)
    → IsStreams streams → Is top streams → IsCompleted Is top streams
own_completion Is top streams sound is = record {
  wholes = map marks_all streams;
  told = told_same streams;
  sound = subst IsStreams (sym (all_same streams)) sound;
  is = subst (Is top) (sym (all_same streams)) is;
}

pub needless_streams_shown : (top : ℕ) (streams : List Stream) → IsStreams streams
    → IsNeedless top streams → IsShownInOneTrace top streams
needless_streams_shown top streams sound is =
    needless_shown top streams (own_completion IsNeedless top streams sound is)
