-- The run `sends_twice` keeps to the premises of the laws. In `sends_unreported` each of two
-- processes would have to go first.
use Rattle.std.proofs.Common.{◌≡◌, ℕ, ◌||◌, true, false, List, [], ◌∷◌, take, Some, None, refl}
use Rattle.std.proofs.Common.{arith, sym, ◌∙◌, ap, subst}
use Rattle.std.specs.List.{slice_get}
use Rattle.std.proofs.lemmas.Option.{same_Some, none-some}
use Rattle.st_core.specs.declared.types.Pid.{Pid}
use Rattle.st_core.specs.declared.types.Kind.TheVariants as kind
use Rattle.st_core.specs.declared.types.Event.{Event}
use Rattle.st_core.specs.Pid.{pid_eq}
use Rattle.st_core.specs.Report.{token_event}
use Rattle.st_core.specs.Run.{pids_of}
use Rattle.st_core.specs.State.{zero_state}
use Rattle.st_core.specs.Step.{Outcome}
use Rattle.st_core.specs.Streams.{events_of}
use Rattle.st_core.proofs.ForCallers.{pid_eq-true}
use Rattle.node_machine.specs.Counts.{counter_value, serial_count}
use Rattle.node_machine.specs.Node.{node_run}
use Rattle.node_streams.specs.Example.{client, first_stamp, reply_stamp, sends_twice}
use Rattle.node_streams.specs.Example.{sends_unreported, server, twice_streams, unreported_streams}
use Rattle.node_streams.specs.Messages.{send_of, takes_message, unsent_among}
use Rattle.node_streams.specs.Order.{CanGo, HaveOrder, next_event, turns}
use Rattle.node_streams.specs.Runs.{AreReported, AreStreamsOf, ReportSends}
use Rattle.node_streams.proofs.Orders.{no_order}
use Rattle.node_streams.proofs.Turns.{unlisted_events}

-- ALL SENDS REPORTED

abbrev pub twice_outcomes : List Outcome
twice_outcomes = elim (node_run (client ∷ server ∷ []) sends_twice) as (λ _. List Outcome) [
  | None ↦ []
  | Some os ↦ os
]

twice_runs : node_run (client ∷ server ∷ []) sends_twice ≡ Some twice_outcomes
unfolding serial_count counter_value
twice_runs = refl

twice_sends : ReportSends twice_streams (zero_state (client ∷ server ∷ [])) sends_twice
    twice_outcomes
unfolding serial_count counter_value
twice_sends = (
  λ r _ q is. absurd (none-some q is),
  (
    λ r _ q is. absurd (none-some q is),
    (
      λ r _ q _ _. (refl, refl),
      (
        λ r _ q is. absurd (none-some q is),
        (
          λ r _ q _ _. (refl, refl),
          (
            λ r _ q is. absurd (none-some q is),
            (λ r _ q is. absurd (none-some q is), (λ r _ q is. absurd (none-some q is), tt)),
          ),
        ),
      ),
    ),
  ),
)

twice_reported : AreReported twice_streams sends_twice twice_outcomes
unfolding serial_count counter_value
twice_reported = (refl, (refl, tt))

pub twice_run : AreStreamsOf twice_streams (client ∷ server ∷ []) sends_twice twice_outcomes
twice_run = record { runs = twice_runs; sends = twice_sends; reported = twice_reported }

-- A SEND UNREPORTED

abbrev pub unreported_outcomes : List Outcome
unreported_outcomes = elim (node_run (client ∷ server ∷ []) sends_unreported) as
    (λ _. List Outcome) [
      | None ↦ []
      | Some os ↦ os
    ]

pub unreported_runs : node_run (client ∷ server ∷ []) sends_unreported
    ≡ Some unreported_outcomes
unfolding serial_count counter_value
unreported_runs = refl

pub unreported_shown : AreReported unreported_streams sends_unreported unreported_outcomes
unfolding serial_count counter_value
unreported_shown = (refl, (refl, tt))

pub nothing_unsent : unsent_among unreported_streams (pids_of unreported_streams) ≡ []
nothing_unsent = refl

-- a process can't go on if its next event is a receive whose send hasn't come
waits : (p : Pid) (e : Event) (j : ℕ) → next_event unreported_streams [] p ≡ Some e
    → takes_message e ≡ true
    → send_of unreported_streams (take (turns p []) (events_of unreported_streams p)) e
    ≡ Some j
    → CanGo unreported_streams [] p → ⊥
waits p e j next takes sent can =
    let before = take (turns p []) (events_of unreported_streams p) in
    let event = same_Some can.event e (sym can.next ∙ next) in
    let came = can.sent (ap takes_message event ∙ takes) j
    (ap (send_of unreported_streams before) event ∙ sent) in
    absurd (omega arith)

no_others : (p : Pid) → pid_eq client p ≡ false → pid_eq server p ≡ false
    → next_event unreported_streams [] p ≡ None
no_others p apart other = ap (λ es. slice_get es (turns p []))
    (unlisted_events unreported_streams p
    (ap (λ b. b || (pid_eq server p || false)) apart ∙ ap (λ b. b || false) other))

-- no process can go first: each begins with a receive whose send is the other's second event
stuck : (p : Pid) → CanGo unreported_streams [] p → ⊥
stuck p can = (elim (pid_eq client p) as (λ b. pid_eq client p ≡ b → ⊥) [
  | true ↦ λ same.
      waits client (token_event kind.Receive reply_stamp (Some client) 7) 1 refl refl refl
      (subst (CanGo unreported_streams []) (sym (pid_eq-true client p same)) can)
  | false ↦ λ apart. (elim (pid_eq server p) as (λ b. pid_eq server p ≡ b → ⊥) [
    | true ↦ λ same.
        waits server (token_event kind.Receive first_stamp (Some server) 5) 1 refl refl refl
        (subst (CanGo unreported_streams []) (sym (pid_eq-true server p same)) can)
    | false ↦ λ other. none-some can.event (sym (no_others p apart other) ∙ can.next)
  ]) refl
]) refl

pub no_order_there : HaveOrder unreported_streams → ⊥
no_order_there = no_order unreported_streams [] stuck client
    (token_event kind.Receive reply_stamp (Some client) 7) refl
