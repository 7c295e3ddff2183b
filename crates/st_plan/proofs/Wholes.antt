-- The marks of whole streams, whose pids rise, are those of their events, place by place. So the
-- events told by places are the told events.
use Rattle.std.proofs.Common.{◌≡◌, ℕ, suc, ◌+◌, Bool, List, [], ◌∷◌, map, slice_get}
use Rattle.std.proofs.Common.{Some, refl, ◌∙◌, ap, subst, arith}
use Rattle.std.specs.List.{AllByRecursion}
use Rattle.st_core.specs.declared.types.Act.{Act}
use Rattle.st_core.specs.Laws.{NoReset}
use Rattle.st_core.specs.Pid.{IsBelow, IsRising}
use Rattle.st_core.specs.Run.{Shows, pids_of}
use Rattle.st_core.specs.Streams.{IsStreams}
use Rattle.st_core.proofs.ForCallers.{pid_eq-refl, IsBelow-apart}
use Rattle.st_order.specs.Order.{order}
use Rattle.st_plan.specs.Marks.{all_streams, marks_of, told_events, told_events_from, told_parts}
use Rattle.st_plan.specs.Marks.{told_streams, Marked, Whole}
use Rattle.st_plan.specs.Moves.{moves}
use Rattle.st_plan.specs.Plain.{IsSettled}
use Rattle.st_plan.specs.Build.{construction}
use Rattle.st_plan.proofs.SettledStreams.{settled_is_shown}

-- ONE PROCESS

told_marked : (told : ℕ → Bool) (i : ℕ) (ms : List Marked)
    → ((k : ℕ) (m : Marked) → slice_get ms k ≡ Some m → told (i + k) ≡ m.told)
    → told_events_from told i (map (λ (m : Marked). m.event) ms) ≡ told_events ms
told_marked told i [] all = refl
told_marked told i (m ∷ ms) all =
    let here : i ≡ i + 0 = omega arith in
    let first : told i ≡ m.told = ap told here ∙ all 0 m refl in
    let rest = told_marked told (i + 1) ms (λ k x at.
    let next : i + 1 + k ≡ i + suc k = omega arith in
    ap told next ∙ all (suc k) x at) in
    rw (first, rest) refl

-- ALL

-- the marks of some processes, looked up among all, are their own
abbrev AreMarked : List Whole → List Whole → Type 0
AreMarked all some = AllByRecursion (λ (w : Whole). (k : ℕ) (m : Marked)
    → slice_get w.marked k ≡ Some m
    → marks_of all w.pid k ≡ m.told) some

marked_later : (x : Whole) (all some : List Whole)
    → AllByRecursion (IsBelow x.pid) (pids_of (all_streams some))
    → AreMarked all some → AreMarked (x ∷ all) some
marked_later x all [] above marked = tt
marked_later x all (w ∷ some) above marked = (
  λ k m at. rw (marks_of, IsBelow-apart x.pid w.pid above.0) (marked.0 k m at),
  marked_later x all some above.1 marked.1,
)

are_marked : (wholes : List Whole) → IsRising (pids_of (all_streams wholes))
    → AreMarked wholes wholes
are_marked [] rising = tt
are_marked (w ∷ wholes) rising = (
  λ k m at. rw (marks_of, pid_eq-refl w.pid, at) refl,
  marked_later w wholes wholes rising.0 (are_marked wholes rising.1),
)

told_some : (all some : List Whole) → AreMarked all some
    → told_parts (marks_of all) (all_streams some) ≡ told_streams some
told_some all [] marked = refl
told_some all (w ∷ some) marked =
    let one = told_marked (marks_of all w.pid) 0 w.marked (λ k m at.
    let same : 0 + k ≡ k = omega arith in
    ap (marks_of all w.pid) same ∙ marked.0 k m at) in
    rw (one, told_some all some marked.1) refl

-- the events told by places are those told by marks
pub told_of_whole : (wholes : List Whole) → IsRising (pids_of (all_streams wholes))
    → told_parts (marks_of wholes) (all_streams wholes) ≡ told_streams wholes
told_of_whole wholes rising = told_some wholes wholes (are_marked wholes rising)

pub completion_is_shown : (top : ℕ) (wholes : List Whole) → IsStreams (all_streams wholes)
    → IsSettled top (all_streams wholes)
    → (acts : List Act) × (construction top (all_streams wholes) (marks_of wholes)
    (moves (all_streams wholes) (order (all_streams wholes))) ≡ Some acts)
    × Shows top (told_streams wholes) acts × NoReset acts
completion_is_shown top wholes sound settled =
    let shown = settled_is_shown top (all_streams wholes) (marks_of wholes) sound settled in (
      shown.0,
      shown.1,
      subst (λ ss. Shows top ss shown.0) (told_of_whole wholes sound.draft.rising) shown.2,
      shown.3,
    )
