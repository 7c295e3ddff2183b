-- Worked cases: the definitions computed. Nothing cites this file; it shows that the definitions
-- say what is meant.
use Rattle.std.specs.Prelude.{◌≡◌, ℕ, Bool, true, false, List, [], ◌∷◌, map, take, Option, Some}
use Rattle.std.specs.Prelude.{None, option_map, refl}
use Rattle.std.proofs.Common.{inl, inr, ap, arith}
use Rattle.std.proofs.lemmas.Option.{same_Some}
use Rattle.st_core.specs.declared.types.Pid.{Pid}
use Rattle.st_core.specs.declared.types.Label.{Label}
use Rattle.st_core.specs.declared.types.Token.{Token}
use Rattle.st_core.specs.declared.types.Event.{Event}
use Rattle.st_core.specs.declared.types.Message.{Message}
use Rattle.st_core.specs.declared.types.Want.{Want}
use Rattle.st_core.specs.declared.types.Want.TheVariants as want
use Rattle.st_core.specs.declared.types.Reply.{Reply}
use Rattle.st_core.specs.declared.types.Reply.TheVariants as reply
use Rattle.st_core.specs.declared.types.Component.TheVariants as component
use Rattle.st_core.specs.declared.types.Act.{Act}
use Rattle.st_core.specs.declared.types.Act.TheVariants as act
use Rattle.st_core.specs.Pid.{pid_on}
use Rattle.st_core.specs.State.{process, zero_state}
use Rattle.st_core.specs.Pick.{pick}
use Rattle.st_core.specs.Step.{Outcome}
use Rattle.st_core.specs.Run.{Stream, run, stream}
use Rattle.st_core.specs.Laws.{AreAllApart, clock_in, GoesOnFrom, ReportsEverything}
use Rattle.st_core.specs.Verdict.{Stuck, Differs, Left, Yes, IsVerdict}
use Rattle.st_core.proofs.Verdicts.{computed}
use Rattle.st_core.proofs.Samples.{top, a, b, c, sent, got, printed, hidden_sends}

abbrev label_of : ℕ → Label
label_of n = record { 0 = n }

abbrev token_of : ℕ → Bool → Bool → Bool → Pid → Token
token_of n s r p from =
    record {
      label = label_of n;
      flags = record { send = s; receive = r; print = p };
      serial = record { prev = 0; this = 0 };
      from = from;
    }

-- a message with a low serial after one with a high one
abbrev low_acts : List Act
low_acts =
    act.Tracer a true ∷ act.Set a (component.Label (label_of 1)) ∷ act.Print a 0 ∷ act.Print a 0
    ∷ act.Print a 0 ∷
    act.Print a 0
    ∷ act.Send a b 5 ∷ act.Set c (component.Send true) ∷ act.Print c 0 ∷ act.Print c 0
    ∷ act.Send c b 3
    ∷ act.Receive b want.First ∷ act.Receive b want.First ∷ act.Send b a 9 ∷ []

abbrev streams_of : List Pid → List Act → Option (List (List Event))
streams_of pids acts = option_map (λ os. map (stream acts os) pids) (run top pids acts)

low_serial_receive :
    streams_of (a ∷ b ∷ c ∷ []) low_acts
    ≡ Some ([] ∷ (sent 0 3 6 b a 9 ∷ []) ∷ (sent 0 0 3 c b 3 ∷ []) ∷ [])
low_serial_receive = refl

-- the clock and last of p after each act
abbrev counts_of : Pid → Outcome → ℕ × ℕ
counts_of p o = elim (process o.after p) [ None ↦ (0, 0) | Some r ↦ (r.local.clock, r.local.last) ]

low_serial_counts : option_map (map (counts_of b)) (run top (a ∷ b ∷ c ∷ []) low_acts)
    ≡ Some
    ((0, 0) ∷ (0, 0) ∷ (0, 0) ∷ (0, 0) ∷ (0, 0) ∷ (0, 0) ∷ (0, 0) ∷ (0, 0) ∷ (0, 0) ∷ (0, 0)
    ∷ (0, 0) ∷ (5, 5) ∷
    (5, 3) ∷ (6, 3) ∷ [])
low_serial_counts = refl

-- a certificate of 11 acts, two of them sends that nobody reports
abbrev certificate_acts : List Act
certificate_acts =
    act.Tracer a true ∷ act.Restore a (token_of 17 false false true a) ∷ act.Print a 7
    ∷ act.Restore a
    (token_of 17 false true false a) ∷ act.Send a b 5
    ∷ act.Receive b (want.Place 0) ∷ act.Restore b (token_of 17 false false true b) ∷ act.Print b 8
    ∷ act.Restore b
    (token_of 17 false true false b) ∷ act.Send b a 6
    ∷ act.Receive a (want.Place 0) ∷ []

certificate_checked : IsVerdict top hidden_sends certificate_acts (Yes ((5, 4) ∷ (10, 9) ∷ []))
certificate_checked = computed top hidden_sends certificate_acts (Yes ((5, 4) ∷ (10, 9) ∷ [])) refl

-- without its last act, <0.30.0> has an event left
certificate_cut : IsVerdict top hidden_sends (take 10 certificate_acts) (Left a)
certificate_cut = computed top hidden_sends (take 10 certificate_acts) (Left a) refl

-- acts that stop before process b reports its events
abbrev unfit_streams : List Stream
unfit_streams =
    record { pid = a; events = [] } ∷ record
    { pid = b; events = got 1 0 2 a b 5 ∷ got 1 0 1 c b 4 ∷ printed 1 1 2 b 9 ∷ [] }
    ∷ record { pid = c; events = [] }
    ∷ []

abbrev unfit_acts : List Act
unfit_acts =
    act.Tracer a true ∷ act.Restore c (token_of 1 false true false c) ∷ act.Send c b 4
    ∷ act.Restore a
    (token_of 1 false false false a) ∷ act.Print a 0
    ∷ act.Restore a (token_of 1 false true false a) ∷ act.Send a b 5 ∷ []

unfit_verdict : IsVerdict top unfit_streams unfit_acts (Left b)
unfit_verdict = computed top unfit_streams unfit_acts (Left b) refl

-- two nodes, and a reset of the sender's node that leaves the token queued on the other one
abbrev d : Pid
d = pid_on 1 30

abbrev e : Pid
e = pid_on 2 31

abbrev nodes_streams : List Stream
nodes_streams =
    record { pid = d; events = [] }
    ∷ record { pid = e; events = got 17 0 1 d e 5 ∷ got 17 0 1 d e 5 ∷ [] } ∷ []

abbrev nodes_acts : Pid → List Act
nodes_acts x =
    act.Tracer d true ∷ act.Tracer e true ∷ act.Set d (component.Label (label_of 17)) ∷ act.Set d
    (component.Receive true) ∷ act.Send d e 5
    ∷ act.Reset x ∷ act.Set d (component.Label (label_of 17)) ∷ act.Set d (component.Receive true)
    ∷ act.Send d e 5
    ∷ act.Receive e want.First ∷ act.Receive e want.First ∷ []

node_reset_leaves_other_node : IsVerdict top nodes_streams (nodes_acts d)
    (Yes ((9, 4) ∷ (10, 8) ∷ []))
node_reset_leaves_other_node =
    computed top nodes_streams (nodes_acts d) (Yes ((9, 4) ∷ (10, 8) ∷ [])) refl

-- a reset of the receiver's node empties the queued token, so the next message is the first that is
-- reported, and one event stays
reset_there : IsVerdict top nodes_streams (nodes_acts e) (Differs 10)
reset_there = computed top nodes_streams (nodes_acts e) (Differs 10) refl

-- a report whose label isn't the stream's, an act of a process that isn't there, and a stamp at
-- clock TOP
other_label :
    IsVerdict top (record { pid = a; events = printed 18 0 1 a 7 ∷ [] } ∷ [])
    (take 3 certificate_acts) (Differs 2)
other_label =
    computed top (record { pid = a; events = printed 18 0 1 a 7 ∷ [] } ∷ [])
    (take 3 certificate_acts) (Differs 2) refl

not_there : IsVerdict top hidden_sends (act.Look a ∷ act.Look c ∷ []) (Stuck 1)
not_there = computed top hidden_sends (act.Look a ∷ act.Look c ∷ []) (Stuck 1) refl

full :
    IsVerdict 1 (record { pid = a; events = [] } ∷ [])
    (act.Set a (component.Send true) ∷ act.Print a 0 ∷ act.Print a 0 ∷ []) (Stuck 2)
full =
    computed 1 (record { pid = a; events = [] } ∷ [])
    (act.Set a (component.Send true) ∷ act.Print a 0 ∷ act.Print a 0 ∷ []) (Stuck 2) refl

-- the stream of a run of process a alone, which begins by setting the tracer
abbrev alone : List Act → Option (List Event)
alone acts = option_map (λ os. stream (act.Tracer a true ∷ acts) os a)
    (run top (a ∷ []) (act.Tracer a true ∷ acts))

-- a set on no token begins a new trace: last becomes the clock, so the second print's prev is 1
new_trace_after_clear : alone
    (act.Set a (component.Label (label_of 17)) ∷ act.Set a (component.Print true)
    ∷ act.Print a 7 ∷ act.Clear a ∷ act.Set a (component.Label (label_of 18))
    ∷ act.Set a (component.Print true)
    ∷ act.Print a 8 ∷ [])
    ≡ Some (printed 17 0 1 a 7 ∷ printed 18 1 2 a 8 ∷ [])
new_trace_after_clear = refl

-- a print whose flag is off isn't reported, and moves the clock all the same
silent_print_stamps :
    alone
    (act.Set a (component.Label (label_of 17)) ∷ act.Print a 5 ∷ act.Set a (component.Print true)
    ∷ act.Print a 6 ∷
    [])
    ≡ Some (printed 17 0 2 a 6 ∷ [])
silent_print_stamps = refl

-- a printat at another label than the token's does nothing
printat_other_label :
    alone
    (act.Set a (component.Label (label_of 17)) ∷ act.Set a (component.Print true)
    ∷ act.PrintAt a (label_of 18) 5 ∷
    act.Print a 6 ∷ [])
    ≡ Some (printed 17 0 1 a 6 ∷ [])
printat_other_label = refl

-- a printat at the token's label is a print
printat_own_label :
    alone
    (act.Set a (component.Label (label_of 17)) ∷ act.Set a (component.Print true)
    ∷ act.PrintAt a (label_of 17) 5 ∷
    [])
    ≡ Some (printed 17 0 1 a 5 ∷ [])
printat_own_label = refl

-- a process that sends to itself takes its own message with its stamped token, and goes on
abbrev self_acts : List Act
self_acts =
    act.Tracer a true ∷ act.Set a (component.Label (label_of 17))
    ∷ act.Set a (component.Receive true) ∷ act.Send a a 5
    ∷ act.Receive a want.First
    ∷ act.Set a (component.Send true) ∷ act.Send a a 6 ∷ []

self_send :
    IsVerdict top (record { pid = a; events = got 17 0 1 a a 5 ∷ sent 17 1 2 a a 6 ∷ [] } ∷ [])
    self_acts
    (Yes ((4, 3) ∷ []))
self_send =
    computed top (record { pid = a; events = got 17 0 1 a a 5 ∷ sent 17 1 2 a a 6 ∷ [] } ∷ [])
    self_acts
    (Yes ((4, 3) ∷ [])) refl

-- a tracer change reaches only its own node: without a tracer on the second node its receive isn't
-- reported
tracer_of_one_node :
    IsVerdict top (record { pid = d; events = [] }
    ∷ record { pid = e; events = got 17 0 1 d e 5 ∷ [] } ∷ [])
    (act.Tracer d true ∷ act.Set d (component.Label (label_of 17))
    ∷ act.Set d (component.Receive true) ∷ act.Send d e
    5 ∷ act.Receive e want.First ∷ []) (Left e)
tracer_of_one_node =
    computed top (record { pid = d; events = [] }
    ∷ record { pid = e; events = got 17 0 1 d e 5 ∷ [] } ∷ [])
    (act.Tracer d true ∷ act.Set d (component.Label (label_of 17))
    ∷ act.Set d (component.Receive true) ∷ act.Send d e
    5 ∷ act.Receive e want.First ∷ []) (Left e) refl

-- a tracer change replies whether its actor was traced before
abbrev replies_of : List Act → Option (List Reply)
replies_of acts = option_map (map (λ (o : Outcome). o.reply)) (run top (d ∷ e ∷ []) acts)

tracer_replies :
    replies_of (act.Tracer d true ∷ act.Tracer e true ∷ act.Tracer d false ∷ [])
    ≡ Some (reply.Was false ∷ reply.Was false ∷ reply.Was true ∷ [])
tracer_replies = refl

-- a reset empties the token that is queued on its node: the receive takes the message, and isn't
-- reported
reset_empties_queued_tokens : IsVerdict top
    (record { pid = a; events = [] } ∷ record { pid = b; events = [] } ∷ [])
    (act.Tracer a true ∷ act.Set a (component.Label (label_of 17))
    ∷ act.Set a (component.Receive true) ∷ act.Send a b
    5 ∷ act.Reset a ∷ act.Receive b want.First ∷ []) (Yes [])
reset_empties_queued_tokens =
    computed top (record { pid = a; events = [] } ∷ record { pid = b; events = [] } ∷ [])
    (act.Tracer a true ∷ act.Set a (component.Label (label_of 17))
    ∷ act.Set a (component.Receive true) ∷ act.Send a b
    5 ∷ act.Reset a ∷ act.Receive b want.First ∷ []) (Yes []) refl

-- a clock at TOP 3: the fourth print has no step; a clear does, and then a send without a token
small_clock : option_map (map (λ (o : Outcome). o.reply)) (run 3 (a ∷ [])
    (act.Set a (component.Label (label_of 1)) ∷ act.Print a 0 ∷ act.Print a 0 ∷ act.Print a 0
    ∷ act.Clear a ∷ act.Send a a 5 ∷ []))
    ≡ Some
    (reply.Old None ∷ reply.Done ∷ reply.Done ∷ reply.Done ∷ reply.Previous
    (Some (record (token_of 1 false false false a) { serial = record { prev = 0; this = 3 } }))
    ∷ reply.Done ∷
    [])
small_clock = refl

full_clock :
    run 3 (a ∷ [])
    (act.Set a (component.Label (label_of 1)) ∷ act.Print a 0 ∷ act.Print a 0 ∷ act.Print a 0
    ∷ act.Print a 0 ∷ [])
    ≡ None
full_clock = refl

-- the five wants, on messages 8, 9, 8 of <0.30.0> and 9 of <0.32.0>
abbrev message_of : Pid → ℕ → Message
message_of p v = record { from = p; value = v; token = None }

abbrev four : List Message
four = message_of a 8 ∷ message_of a 9 ∷ message_of a 8 ∷ message_of c 9 ∷ []

abbrev place : Want → Option ℕ
place w = option_map (λ found. found.0) (pick w four)

picks :
    map place
    (want.First ∷ want.From c ∷ want.Value 9 ∷ want.Both c 9 ∷ want.Place 2 ∷ want.Place 4
    ∷ want.Both c 8 ∷ [])
    ≡ Some 0 ∷ Some 3 ∷ Some 1 ∷ Some 3 ∷ Some 2 ∷ None ∷ None ∷ []
picks = refl

-- a reset sets the clock back, and the next stamp lifts it to the first count again
reset_lowers_clock :
    option_map (map (λ (o : Outcome). clock_in o.after a)) (run top (a ∷ [])
    (act.Set a (component.Print true) ∷ act.Print a 7 ∷ act.Reset a
    ∷ act.Set a (component.Print true) ∷ act.Print a 7
    ∷ []))
    ≡ Some (0 ∷ 1 ∷ 0 ∷ 0 ∷ 1 ∷ [])
reset_lowers_clock = refl

-- after a receive of a low serial a send has the next count after the greatest, and the low one as
-- its prev
low_goes_on : GoesOnFrom (got 0 0 5 a b 5 ∷ got 0 0 3 c b 3 ∷ []) (sent 0 3 6 b a 9)
low_goes_on = record { count = refl; prev = inl refl }

-- in a new trace a print's prev is the greatest count before it
new_trace_goes_on : GoesOnFrom (printed 17 0 1 a 7 ∷ []) (printed 18 1 2 a 8)
new_trace_goes_on = record { count = refl; prev = inr refl }

-- a run that reports its send and its receive reports everything
abbrev full_acts : List Act
full_acts =
    act.Tracer a true ∷ act.Set a (component.Send true) ∷ act.Set a (component.Receive true)
    ∷ act.Send a b 5
    ∷ act.Receive b want.First ∷ []

abbrev full_outcomes : List Outcome
full_outcomes = elim (run top (a ∷ b ∷ []) full_acts) [ None ↦ [] | Some os ↦ os ]

everything_reported : ReportsEverything (zero_state (a ∷ b ∷ [])) full_acts full_outcomes
everything_reported =
    (λ r is h. h, (λ r is h. h, (λ r is h. h, (λ r is h. refl, (λ r is h. refl, tt)))))

-- a message that a stamped with this count
abbrev waiting : ℕ → Message
waiting n =
    record {
      from = a;
      value = 5;
      token =
          Some (record (token_of 7 true true true a) { serial = record { prev = 0; this = n } });
    }

-- two queues with stamps of one process share none if all the counts differ
queues_apart : AreAllApart (waiting 1 ∷ []) (waiting 2 ∷ [])
queues_apart = (
  (
    λ t u has_t has_u from same.
        let one = ap (λ (x : Token). x.serial.this) (same_Some _ t has_t) in
        let two = ap (λ (x : Token). x.serial.this) (same_Some _ u has_u) in
        omega (arith, one, two, same),
    tt,
  ),
  tt,
)

-- two queues share a stamp if one count of a process is in both
queues_share : ¬ AreAllApart (waiting 1 ∷ []) (waiting 2 ∷ waiting 1 ∷ [])
queues_share apart = apart.0.1.0 _ _ refl refl refl refl
