-- The construction computed on worked cases, which show that the definitions say what is meant.
-- Nothing cites this file.
use Rattle.std.specs.Prelude.{◌≡◌, true, false, List, [], ◌∷◌, Some, None, refl}
use Rattle.st_core.specs.declared.types.Pid.{Pid}
use Rattle.st_core.specs.declared.types.Flags.{Flags}
use Rattle.st_core.specs.declared.types.Act.{Act}
use Rattle.st_core.specs.declared.types.Act.TheVariants as act
use Rattle.st_core.specs.declared.types.Want.TheVariants as want
use Rattle.st_core.specs.Run.{Stream}
use Rattle.st_order.specs.Order.{order}
use Rattle.st_plan.specs.Build.{unstamped_token}
use Rattle.st_audit.specs.declared.finding.Reason.TheVariants as reason
use Rattle.st_audit.specs.Construction.{end_of, End, Judged, Unfounded}
use Rattle.st_core.proofs.Samples.{top, a, b, c, sent, got, printed, of}

abbrev dressed : Pid → Flags → Act
dressed p f = act.Restore p (unstamped_token p (record { 0 = 1 }) f)

abbrev ends : List Stream → End
ends streams = end_of top streams (order streams)

-- without items there are no acts
of_nothing : ends (of a [] ∷ of b [] ∷ []) ≡ Judged [] None
of_nothing = refl

-- a hidden send goes through
one_hidden : ends (of a [] ∷ of b (got 1 0 1 a b 7 ∷ []) ∷ []) ≡ Judged (
    act.Tracer a true ∷ dressed a (record { send = false; receive = true; print = false })
    ∷ act.Send a b 7
    ∷ act.Receive b (want.Place 0) ∷ []) (Some (b, 0))
one_hidden = refl

-- a print whose prev is below the clock and isn't the last count: uncaused, though it is too wide
-- as well
uncaused_first : ends (of a [] ∷ of b (got 1 0 5 a b 7 ∷ printed 1 2 2006 b 8 ∷ []) ∷ [])
    ≡ Unfounded (b, 1) reason.Uncaused
uncaused_first = refl

-- too many counts are missing before a hidden send; the finding names its receive
hidden_too_wide : ends (of a [] ∷ of b (got 1 0 1002 a b 7 ∷ []) ∷ [])
    ≡ Unfounded (b, 0) reason.TooWide
hidden_too_wide = refl

-- a receive comes before its send in the order, since its sender received a greater count first:
-- its message isn't there, and no act is tried for it
not_there : ends (of a (got 1 0 9 c a 4 ∷ sent 1 1 3 a b 5 ∷ []) ∷ of b (got 1 1 3 a b 5 ∷ [])
    ∷ of c [] ∷ [])
    ≡ Judged (act.Tracer a true ∷ []) (Some (b, 0))
not_there = refl
