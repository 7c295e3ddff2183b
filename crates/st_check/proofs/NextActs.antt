-- One more act changes the counts, the tags and the pairs as the definitions say, and act n comes
-- right after the first n acts.
use Rattle.std.proofs.Common.{◌≡◌, ℕ, ◌+◌, ◌<◌, ◌⊎◌, false, List, [], ◌∷◌, ◌++◌, length, map, take}
use Rattle.std.proofs.Common.{get_or, Option, Some, None, is_some, refl, sym, ◌∙◌}
use Rattle.std.proofs.Common.{ap, subst, arith, inl, inr, length-take-le, if◌then◌else◌}
use Rattle.std.specs.Option.{ForSome, option_and}
use Rattle.std.specs.List.{AllByRecursion, slice_get}
use Rattle.std.proofs.lemmas.List.{take_more, length-map}
use Rattle.std.proofs.lemmas.Option.{none-some}
use Rattle.st_core.specs.declared.types.Pid.{Pid}
use Rattle.st_core.specs.declared.types.Event.{Event}
use Rattle.st_core.specs.declared.types.Act.{Act}
use Rattle.st_core.specs.Pid.{pid_eq, IsRising}
use Rattle.st_core.specs.State.{State}
use Rattle.st_core.specs.Step.{Outcome, actor, step}
use Rattle.st_core.specs.Run.{Stream, pids_of, run}
use Rattle.st_core.specs.Streams.{events_of}
use Rattle.st_core.specs.Pairs.{Tags, tags_after, pair_at}
use Rattle.st_world.specs.declared.outcome.StepFault.{StepFault}
use Rattle.st_world.specs.declared.outcome.StepFault.TheVariants as fault
use Rattle.st_world.specs.World.{IsFault}
use Rattle.st_core.proofs.ForCallers.{step_no_actor, step_no_receiver}
use Rattle.st_check.specs.Progress.{tags_of, reported_count, counts_with, pair_to, stop_of, Differ}
use Rattle.st_check.specs.Progress.{IsEven, IsPassed, IsPassedBy, IsStop}
use Rattle.st_check.specs.declared.comparison.Comparison.{Comparison}
use Rattle.st_check.proofs.OneMoreAct.{pair_of}
use Rattle.st_check.proofs.PassedActs.{unlisted_stuck, run_more, passed_more, differs_more}

-- there are as many counts as streams
pub length-counts : (top : ℕ) (streams : List Stream) (acts : List Act) (s : State)
    (counts : List ℕ)
    (tags : List (List ℕ)) (ps : List (ℕ × ℕ)) → IsPassed top streams acts s counts tags ps
    → length counts ≡ length (pids_of streams)
length-counts top streams acts s counts tags ps p =
    ap length p.are_counts ∙ length-map (pids_of streams) (reported_count acts p.outcomes)

pub length-tags : (top : ℕ) (streams : List Stream) (acts : List Act) (s : State) (counts : List ℕ)
    (tags : List (List ℕ)) (ps : List (ℕ × ℕ)) → IsPassed top streams acts s counts tags ps
    → length tags ≡ length (pids_of streams)
length-tags top streams acts s counts tags ps p =
    ap length p.are_tags ∙ length-map (pids_of streams) (tags_of acts p.outcomes)

-- an act that the world refuses has no step, unless memory ran out
pub fault_stuck : (top : ℕ) (s : State) (a : Act) (f : StepFault) → IsFault top s a f
    → (f ≡ fault.Memory) ⊎ (step top s a ≡ None)
fault_stuck top s a fault.Memory is = inl refl
fault_stuck top s a fault.Unknown (inl missing) = inr (step_no_actor top s a missing)
fault_stuck top s a fault.Unknown (inr missing) = inr (step_no_receiver top s a missing)
fault_stuck top s a fault.ClockFull is = inr is.2

-- a comparison of acts that pass keeps a count and tags for each process
pub passed_even : (top : ℕ) (streams : List Stream) (acts : List Act) (s : State) (c : Comparison)
    → IsPassedBy top streams acts s c → IsEven streams c
passed_even top streams acts s c p = record {
  counts = length-counts top streams acts s c.counts.items c.tags.lists c.pairs p;
  tags = length-tags top streams acts s c.counts.items c.tags.lists c.pairs p;
}

-- THE ACT OF A NUMBER

pub many : (acts : List Act) (n : ℕ) → n < length acts → length (take n acts) ≡ n
many acts n within = length-take-le n acts (omega arith)

module _ (top : ℕ) (streams : List Stream) (acts : List Act) (n : ℕ) (d : Act) (s : State)
    (c : Comparison)
    (within : n < length acts) (p : IsPassedBy top streams (take n acts) s c) where
  more : take n acts ++ get_or acts n d ∷ [] ≡ take (n + 1) acts
  more = sym (take_more acts n d within)

  stuck_at : step top s (get_or acts n d) ≡ None → run top (pids_of streams) (take (n + 1) acts)
      ≡ None
  stuck_at h =
      subst (λ xs. run top (pids_of streams) xs ≡ None) more
      (run_more top streams (take n acts) s c.counts.items c.tags.lists c.pairs (get_or acts n d)
      None p h)

  stop_at : (f : StepFault) → (f ≡ fault.Memory) ⊎ (step top s (get_or acts n d) ≡ None)
      → IsStop top streams (take (n + 1) acts) (stop_of f)
  stop_at fault.Memory why = tt
  stop_at fault.Unknown (inl memory) = absurd (cc)
  stop_at fault.Unknown (inr none) = stuck_at none
  stop_at fault.ClockFull (inl memory) = absurd (cc)
  stop_at fault.ClockFull (inr none) = stuck_at none

  -- the world refuses the act
  pub refused_at : (f : StepFault) → IsFault top s (get_or acts n d) f
      → IsStop top streams (take (n + 1) acts) (stop_of f)
  refused_at f is = stop_at f (fault_stuck top s (get_or acts n d) f is)

  -- it passes
  pub passes_next : (o : Outcome) (new : Comparison) → step top s (get_or acts n d) ≡ Some o
      → IsPassedBy top streams (take n acts ++ get_or acts n d ∷ []) o.after new
      → IsPassedBy top streams (take (n + 1) acts) o.after new
  passes_next o new h passed = subst (λ xs. IsPassedBy top streams xs o.after new) more passed

  -- it reports another event
  pub differs_next : (o : Outcome) → step top s (get_or acts n d) ≡ Some o
      → Differ top streams (take n acts ++ get_or acts n d ∷ [])
      → Differ top streams (take (n + 1) acts)
  differs_next o h differs = subst (Differ top streams) more differs

-- ONE MORE ACT

module _ (top : ℕ) (streams : List Stream) (acts : List Act) (n : ℕ) (a : Act) (s : State)
    (counts : List ℕ)
    (tags : List (List ℕ)) (ps : List (ℕ × ℕ)) (number : length acts ≡ n)
    (p : IsPassed top streams acts s counts tags ps) (o : Outcome) (h : step top s a ≡ Some o) where
  -- the actor is listed, since the act has a step
  pub listed_at : (me : Pid) → me ≡ actor a
      → AllByRecursion (λ q. pid_eq q me ≡ false) (pids_of streams) → ⊥
  listed_at me is apart =
      none-some o (sym (unlisted_stuck top streams acts s counts tags ps a p
      (subst (λ who. AllByRecursion (λ q. pid_eq q who ≡ false) (pids_of streams)) is apart)) ∙ h)

  module _ (me : Pid) (place : ℕ) (events : List Event) (rising : IsRising (pids_of streams))
      (is : me ≡ actor a)
      (at : slice_get (pids_of streams) place ≡ Some me) (of : events ≡ events_of streams me) where
    here : slice_get (pids_of streams) place ≡ Some (actor a)
    here = at ∙ ap (λ (q : Pid). Some q) is

    theirs : events_of streams (actor a) ≡ events
    theirs = ap (events_of streams) (sym is) ∙ sym of

    differs_by : (report : Option Event) → o.report ≡ report
        → (ForSome report (λ e. slice_get events (get_or counts place 0) ≡ Some e) → ⊥)
        → Differ top streams (acts ++ a ∷ [])
    differs_by None reports other = absurd (other (λ e none. absurd (none-some e none)))
    differs_by (Some e) reports other =
        differs_more top streams acts s counts tags ps a o place e rising here p h reports
        (λ next. other (λ x some. ap (λ es. slice_get es (get_or counts place 0)) (sym theirs)
        ∙ next ∙ some))

    -- it reports another event
    pub differs_at : (ForSome o.report (λ e. slice_get events (get_or counts place 0) ≡ Some e) → ⊥)
        → Differ top streams (acts ++ a ∷ [])
    differs_at other = differs_by o.report refl other

    pair_same : (t : Tags) (sent : Option ℕ) (report : Option Event)
        → pair_at t n a o.place ≡ pair_to n sent
        → pair_to n (option_and report sent)
        ≡ (if is_some report then pair_at t n a o.place else [])
    pair_same t sent None same = refl
    pair_same t sent (Some e) same = sym same

    -- it passes
    pub passed_at : (counts' : List ℕ) (tags' : List (List ℕ)) (ps' : List (ℕ × ℕ))
        (sent : Option ℕ)
        → ForSome o.report (λ e. slice_get events (get_or counts place 0) ≡ Some e)
        → counts' ≡ counts_with counts place o.report
        → ((t : Tags) → tags ≡ map t (pids_of streams)
        → tags' ≡ map (tags_after t n a o.place) (pids_of streams))
        → ((t : Tags) → tags ≡ map t (pids_of streams) → pair_at t n a o.place ≡ pair_to n sent)
        → ps' ≡ ps ++ pair_to n (option_and o.report sent)
        → IsPassed top streams (acts ++ a ∷ []) o.after counts' tags' ps'
    passed_at counts' tags' ps' sent next counting tagging pairing pairs =
        let t : Tags = tags_of acts p.outcomes in
        let had : tags ≡ map t (pids_of streams) = p.are_tags in
        let passed = passed_more top streams acts s counts tags ps a o place n tags' rising here
        (sym number) p h
        (λ e some. ap (λ es. slice_get es (get_or counts place 0)) theirs ∙ next e some)
        (tagging t had) in
        let paired : ps ++ pair_of t n a o ≡ ps' =
        ap (λ xs. ps ++ xs) (sym (pair_same t sent o.report (pairing t had)))
        ∙ sym pairs in
        subst (λ xs. IsPassed top streams (acts ++ a ∷ []) o.after counts' tags' xs) paired
        (subst (λ xs. IsPassed top streams (acts ++ a ∷ []) o.after xs tags'
        (ps ++ pair_of t n a o))
        (sym counting) passed)
