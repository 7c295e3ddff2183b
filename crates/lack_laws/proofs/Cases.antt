-- Worked cases of this crate's definitions, computed: all that a run did, the reasons, and
-- renumbered counts. No proof cites them; they show that the definitions say what is meant.
use Rattle.std.specs.Prelude.{[], ◌≡◌, Bool, true, false, List, ◌∷◌, ◌++◌, Option, Some}
use Rattle.std.specs.Prelude.{None}
use Rattle.std.proofs.Common.{inl, refl, arith}
use Rattle.std.proofs.lemmas.List.Elements.{All-from_recursion}
use Rattle.st_core.specs.declared.types.Pid.{Pid}
use Rattle.st_core.specs.declared.types.Event.{Event}
use Rattle.st_core.specs.declared.types.Act.{Act}
use Rattle.st_core.specs.Step.{Outcome}
use Rattle.st_core.specs.Run.{Shows, Stream, pids_of, run, stream}
use Rattle.st_core.specs.declared.types.Act.TheVariants as act
use Rattle.st_core.specs.declared.types.Component.TheVariants as component
use Rattle.st_core.specs.declared.types.Want.TheVariants as want
use Rattle.st_core.proofs.Samples.{a, b, sent, got, printed, of}
use Rattle.st_plan.specs.Marks.{Marked}
use Rattle.lack_laws.specs.OpenReasons.{Late, StandsAgainstOpen, TooHigh, Unfounded}
use Rattle.lack_laws.specs.Renumbering.{count_of_rank, counts_of, renumbered_streams, with_counts}
use Rattle.lack_laws.specs.Wholes.{wholes_of}

-- ALL THAT A RUN DID

-- Two processes send before they receive, and report neither the sends nor a print before one of
-- them.
abbrev crossing : List Stream
crossing =
    of a (got 1 0 1 b a 4 ∷ [])
    ∷ of b (got 1 0 2 a b 5 ∷ [])
    ∷ []

abbrev outcomes_in : Option (List Outcome) → List Outcome
outcomes_in None = []
outcomes_in (Some os) = os

abbrev quiet : Pid → List Act
quiet p = act.Set p (component.Label (record { 0 = 1 })) ∷ act.Set p (component.Receive true) ∷ []

abbrev crossing_acts : List Act
crossing_acts = (act.Tracer a true ∷ quiet a) ++ quiet b ++ (
    act.Print a 0
    ∷ act.Send a b 5
    ∷ act.Send b a 4
    ∷ act.Receive a want.First
    ∷ act.Receive b want.First
    ∷ []
    )

abbrev crossing_outcomes : List Outcome
crossing_outcomes = outcomes_in (run 9 (pids_of crossing) crossing_acts)

crossing_shown : Shows 9 crossing crossing_acts
crossing_shown = (
  crossing_outcomes,
  refl,
  All-from_recursion (λ (x : Stream). stream crossing_acts crossing_outcomes x.pid ≡ x.events)
      crossing
      (refl, (refl, tt)),
)

marked : Bool → Event → Marked
marked told e = record { event = e; told = told }

crossing_wholes : wholes_of 9 crossing crossing_acts crossing_outcomes
    ≡ record {
      pid = a;
      marked = marked false (printed 1 0 1 a 0)
          ∷ marked false (sent 1 0 2 a b 5)
          ∷ marked true (got 1 0 1 b a 4)
          ∷ [];
    }
    ∷ record {
      pid = b;
      marked = marked false (sent 1 0 1 b a 4)
          ∷ marked true (got 1 0 2 a b 5)
          ∷ [];
    }
    ∷ []
unfolding marked
crossing_wholes = refl

-- REASONS

-- A stamp with prev 0 after a receive, a stamp below a count that was received, and a count above
-- TOP.
abbrev after_receive : Event → List Stream
after_receive e =
    of a (got 1 0 3 b a 4 ∷ e ∷ [])
    ∷ of b (sent 1 0 3 b a 4 ∷ [])
    ∷ []

unfounded : StandsAgainstOpen 9 (after_receive (printed 1 0 5 a 5)) (Unfounded a 1)
unfounded = inl (record {
  event = printed 1 0 5 a 5;
  at = refl;
  stamps = refl;
  is_zero = refl;
  index = 0;
  received = got 1 0 3 b a 4;
  received_at = refl;
  receives = refl;
  behind = omega arith;
})

late : StandsAgainstOpen 9 (after_receive (printed 1 0 2 a 5)) (Late a 1)
late = record { event = printed 1 0 2 a 5; at = refl; holds = refl }

too_high : StandsAgainstOpen 2 (after_receive (printed 1 3 5 a 5)) (TooHigh a 0)
too_high = record { event = got 1 0 3 b a 4; at = refl; holds = refl }

-- RENUMBERING

-- Large counts, and a process without events.
abbrev high : List Stream
high =
    of a (
    printed 1 0 3000 a 1
    ∷ printed 1 0 50000 a 2
    ∷ printed 1 3000 60001 a 3
    ∷ [])
    ∷ of b []
    ∷ []

high_counts : counts_of high ≡ 0 ∷ 3000 ∷ 50000 ∷ 60001 ∷ []
high_counts = refl

high_renumbered : renumbered_streams high
    ≡ of a (
    printed 1 0 1 a 1
    ∷ printed 1 0 2 a 2
    ∷ printed 1 1 3 a 3
    ∷ [])
    ∷ of b []
    ∷ []
high_renumbered = refl

put_back : with_counts (count_of_rank (counts_of high)) (renumbered_streams high) ≡ high
put_back = refl
