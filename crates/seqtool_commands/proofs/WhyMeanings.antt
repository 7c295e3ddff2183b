-- Only an event that is there has status 0. Status 1 says that the event isn't there, or that the
-- events have no order.
use Rattle.std.proofs.Common.{◌≡◌, ℕ, List, Some, refl, arith}
use Rattle.st_core.specs.declared.types.Pid.{Pid}
use Rattle.st_core.specs.declared.types.Event.{Event}
use Rattle.st_core.specs.Run.{Stream}
use Rattle.st_core.specs.Step.{Outcome}
use Rattle.st_core.specs.Streams.{IsStreams}
use Rattle.st_pair.specs.Places.{event_at}
use Rattle.st_commands.specs.Output.{Output}
use Rattle.st_commands.proofs.ForCallers.{fault_status_high}
use Rattle.node_machine.specs.Node.{NodeAct}
use Rattle.node_streams.specs.Order.{HaveOrder}
use Rattle.node_streams.specs.Runs.{AreStreamsOf}
use Rattle.node_hops.specs.Claims.{IsTrueOnNode}
use Rattle.node_hops.specs.Hops.{node_hop_of}
use Rattle.seqtool_commands.specs.declared.question.Question.{Question}
use Rattle.seqtool_commands.specs.Why.{IsWhy}
use Rattle.seqtool_commands.specs.Why as why
use Rattle.seqtool_commands.specs.WhyMeaning.{MeansTold, MeansUntold, NoEvent, NoOrder}

-- the law that the claims of hops are true
abbrev HopsAreTrue : Type 0
HopsAreTrue = (streams : List Stream) (p : Pid) (i : ℕ) (e : Event) → IsStreams streams
    → event_at streams p i ≡ Some e → IsTrueOnNode streams p i e (node_hop_of streams p i e)

-- the law that a run has an order
abbrev RunsHaveOrder : Type 0
RunsHaveOrder = (streams : List Stream) (pids : List Pid) (acts : List NodeAct) (os : List Outcome)
    → AreStreamsOf streams pids acts os → HaveOrder streams

pub told_means : HopsAreTrue → (q : Question) (bytes : List ℕ) (out : Output) → IsWhy q bytes out
    → out.status ≡ 0
    → MeansTold q bytes out
told_means law q bytes out (why.Found b streams h there order) e =
    record {
      streams = streams;
      given = h.given;
      spelled = h.spelled;
      there = there;
      ordered = order;
      claims = λ p i f at. law streams p i f h.spelled.text.bundle.streams at;
      text = refl;
    }
told_means law q bytes out (why.Unordered b streams h there none) e = absurd (omega (arith, e))
told_means law q bytes out (why.Lacking b streams h none) e = absurd (omega (arith, e))
told_means law q bytes out (why.Faulty b f is) e =
    let high = fault_status_high f in absurd (omega arith)

pub untold_means : RunsHaveOrder → (q : Question) (bytes : List ℕ) (out : Output)
    → IsWhy q bytes out → out.status ≡ 1
    → MeansUntold q bytes out
untold_means law q bytes out (why.Found b streams h there order) e = absurd (omega (arith, e))
untold_means law q bytes out (why.Unordered b streams h there none) e =
    NoOrder (record {
      streams = streams;
      given = h.given;
      spelled = h.spelled;
      there = there;
      unordered = none;
      none = λ pids acts os run. none (law streams pids acts os run);
      text = refl;
    })
untold_means law q bytes out (why.Lacking b streams h none) e =
    NoEvent (record {
      streams = streams;
      given = h.given;
      spelled = h.spelled;
      missing = none;
      text = refl;
    })
untold_means law q bytes out (why.Faulty b f is) e =
    let high = fault_status_high f in absurd (omega arith)
