-- The state while acts pass, in the checker or in a caller that steps a world itself.
use Rattle.std.specs.Prelude.{◌≡◌, ℕ, ◌+◌, ◌<◌, ◌≤◌, IsSome, slice_get, List, [], ◌∷◌, length, map}
use Rattle.std.specs.Prelude.{slice_set, slice_index, slice_index_or, remove, Option, Some, None}
use Rattle.st_core.specs.declared.types.Pid.{Pid}
use Rattle.st_core.specs.declared.types.Act.{Act}
use Rattle.st_core.specs.declared.types.Event.{Event}
use Rattle.st_core.specs.State.{State, zero_state}
use Rattle.st_core.specs.Step.{Outcome}
use Rattle.st_core.specs.Run.{Stream, pids_of, run, stream}
use Rattle.st_core.specs.Pairs.{Tags, tags_after, pairs}
use Rattle.st_core.specs.Streams.{events_of}
use Rattle.st_core.specs.Verdict.{IsPassing, Passes}
use Rattle.st_world.specs.declared.outcome.StepFault.{StepFault}
use Rattle.st_world.specs.declared.outcome.StepFault.TheVariants as fault
use Rattle.st_check.specs.declared.comparison.Comparison.{Comparison}
use Rattle.st_check.specs.declared.progress.Stop.{Stop}
use Rattle.st_check.specs.declared.progress.Stop.TheVariants as stop

-- the state after these outcomes in a row, from s on
abbrev pub state_from : State → List Outcome → State
state_from s [] = s
state_from s (o ∷ os) = state_from o.after os

-- the tags after acts with these outcomes, from act number n on
abbrev pub tags_from : Tags → ℕ → List Act → List Outcome → Tags
tags_from tags n [] os = tags
tags_from tags n (a ∷ rest) [] = tags
tags_from tags n (a ∷ rest) (o ∷ os) = tags_from (tags_after tags n a o.place) (n + 1) rest os

-- the numbers of the sends whose messages lie in each queue after these acts
abbrev pub tags_of : List Act → List Outcome → Tags
tags_of acts os = tags_from (λ p. []) 0 acts os

-- how many events p reported
abbrev pub reported_count : List Act → List Outcome → Pid → ℕ
reported_count acts os p = length (stream acts os p)

-- the counts after an act of the process at this place: one more for it if it reported an event
abbrev pub counts_with : List ℕ → ℕ → Option Event → List ℕ
counts_with counts place None = counts
counts_with counts place (Some e) = slice_set counts place (slice_index counts place + 1)

-- the lists after the number at this place of one list was taken out
abbrev pub without_tag : List (List ℕ) → ℕ → Option ℕ → List (List ℕ)
without_tag lists list None = lists
without_tag lists list (Some place) =
    slice_set lists list (remove (slice_index_or lists list []) place)

-- the pair of receive n and the send whose number it took out, if it took one out
abbrev pub pair_to : ℕ → Option ℕ → List (ℕ × ℕ)
pair_to n None = []
pair_to n (Some s) = (n, s) ∷ []

-- the acts pass, and these are the state after them, the number of events that each process
-- reported, the tags of each queue, and the pairs
pub record IsPassed (top : ℕ) (streams : List Stream) (acts : List Act) (s : State)
    (counts : List ℕ)
    (tags : List (List ℕ)) (ps : List (ℕ × ℕ)) : Type 0 where
  pub outcomes : List Outcome
  pub passing : IsPassing top streams acts outcomes
  pub is_state : s ≡ state_from (zero_state (pids_of streams)) outcomes
  pub are_counts : counts ≡ map (reported_count acts outcomes) (pids_of streams)
  pub are_tags : tags ≡ map (tags_of acts outcomes) (pids_of streams)
  pub are_pairs : ps ≡ pairs acts outcomes

-- the acts pass and lead to s, and the comparison has their counts, tags and pairs
abbrev pub IsPassedBy : ℕ → List Stream → List Act → State → Comparison → Type 0
IsPassedBy top streams acts s c = IsPassed top streams acts s c.counts.items c.tags.lists c.pairs

-- the acts pass and lead to some state, and the comparison has their counts, tags and pairs
abbrev pub HasPassed : ℕ → List Stream → List Act → Comparison → Type 0
HasPassed top streams acts c = (s : State) × IsPassedBy top streams acts s c

-- a comparison keeps a count and tags for each process
pub record IsEven (streams : List Stream) (c : Comparison) : Type 0 where
  pub counts : length c.counts.items ≡ length (pids_of streams)
  pub tags : length c.tags.lists ≡ length (pids_of streams)

-- the acts have a run, in which a process reports another event than its next
abbrev pub Differ : ℕ → List Stream → List Act → Type 0
Differ top streams acts = IsSome (run top (pids_of streams) acts) × ¬ Passes top streams acts

-- why the check stops at an act: memory ran out, or the act has no step
abbrev pub stop_of : StepFault → Stop
stop_of fault.Memory = stop.Memory
stop_of fault.Unknown = stop.Stuck
stop_of fault.ClockFull = stop.Stuck

-- the check stops at the last of the acts for this reason; if memory ran out nothing is known
abbrev pub IsStop : ℕ → List Stream → List Act → Stop → Type 0
IsStop top streams acts stop.Memory = Unit {0}
IsStop top streams acts stop.Stuck = run top (pids_of streams) acts ≡ None
IsStop top streams acts stop.Differs = Differ top streams acts

-- each of the first n processes reported all its events
abbrev pub NoneLeftBefore : List Stream → List ℕ → ℕ → Type 0
NoneLeftBefore streams counts n =
    (k : ℕ) (p : Pid) → k < n → slice_get (pids_of streams) k ≡ Some p
    → length (events_of streams p) ≤ slice_index counts k

-- p is the first process that has events left
pub record IsLeft (streams : List Stream) (counts : List ℕ) (p : Pid) : Type 0 where
  pub place : ℕ
  pub is_there : slice_get (pids_of streams) place ≡ Some p
  pub left : slice_index counts place < length (events_of streams p)
  pub before : NoneLeftBefore streams counts place
