-- The facts that are known of a run after n of its acts are known after the next act too, so a
-- fact about all acts is proved from what each act adds.
use Rattle.std.proofs.Common.{◌≡◌, ℕ, ◌+◌, List, ◌∷◌, drop, Some, All, refl, ◌∙◌}
use Rattle.std.specs.List.{slice_get}
use Rattle.st_core.specs.declared.types.Pid.{Pid}
use Rattle.st_core.specs.declared.types.Act.{Act}
use Rattle.st_core.specs.State.{State, zero_state}
use Rattle.st_core.specs.Step.{Outcome, step}
use Rattle.st_core.specs.Run.{run, run_from}
use Rattle.st_core.specs.Pairs.{Tags, tags_after}
use Rattle.st_core.specs.Laws.{IsSound}
use Rattle.st_core.proofs.Others.{Began, run_parts}
use Rattle.st_core.proofs.Sound.{step_sound, zero_sound}
use Rattle.st_core.proofs.Zips.{drop_first, drop_rest}
use Rattle.st_core.proofs.Tags.{AreKnown, no_tags, no_tags_known, known_step}
use Rattle.st_core.proofs.Queues.{AreTags, no_tags_are, tags_step}

-- the run of the acts with the outcomes os, after n of them: the state is s, the tags are those of
-- its queues, and the acts that are left have the outcomes that are left
pub record Underway (top : ℕ) (acts : List Act) (os : List Outcome)
    (n : ℕ) (s : State) (tags : Tags) (rest : List Act) (outs : List Outcome) : Type 0 where
  pub acts_left : drop n acts ≡ rest
  pub outs_left : drop n os ≡ outs
  pub runs : run_from top s rest ≡ Some outs
  pub sound : All (IsSound top) s
  pub known : AreKnown acts n tags
  pub are : AreTags acts os s tags

-- the facts that are known before the first act
pub starts : (top : ℕ) (pids : List Pid) (acts : List Act) (os : List Outcome)
    → run top pids acts ≡ Some os
    → Underway top acts os 0 (zero_state pids) no_tags acts os
starts top pids acts os h = record {
  acts_left = refl;
  outs_left = refl;
  runs = h;
  sound = zero_sound top pids;
  known = no_tags_known acts;
  are = no_tags_are acts os pids;
}

-- the next act, its outcome, and the run after it
pub record Next (top : ℕ) (acts : List Act) (os : List Outcome)
    (n : ℕ) (s : State) (tags : Tags) (a : Act) (rest : List Act) (outs : List Outcome) : Type 0
  where
    pub outcome : Outcome
    pub others : List Outcome
    pub is_whole : outs ≡ outcome ∷ others
    pub act_at : slice_get acts n ≡ Some a
    pub outcome_at : slice_get os n ≡ Some outcome
    pub is_step : step top s a ≡ Some outcome
    pub later : Underway top acts os (n + 1) outcome.after (tags_after tags n a outcome.place) rest
        others

pub next : (top : ℕ) (acts : List Act) (os : List Outcome)
    (n : ℕ) (s : State) (tags : Tags) (a : Act) (rest : List Act) (outs : List Outcome)
    → Underway top acts os n s tags (a ∷ rest) outs → Next top acts os n s tags a rest outs
next top acts os n s tags a rest outs u =
    let t : Began top s a rest outs = run_parts top s a rest outs u.runs in
    let left : drop n os ≡ t.first ∷ t.others = u.outs_left ∙ t.is_whole in
    let at = drop_first n acts a rest u.acts_left in
    let out = drop_first n os t.first t.others left in
    record {
      outcome = t.first;
      others = t.others;
      is_whole = t.is_whole;
      act_at = at;
      outcome_at = out;
      is_step = t.is_first;
      later = record {
        acts_left = drop_rest n acts a rest u.acts_left;
        outs_left = drop_rest n os t.first t.others left;
        runs = t.is_rest;
        sound = (step_sound top s a t.first t.is_first u.sound).processes;
        known = known_step acts n tags a t.first.place at u.known;
        are = tags_step top acts os n s tags a t.first at out t.is_first u.sound u.are;
      };
    }
