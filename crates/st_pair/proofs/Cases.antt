-- The definitions computed on worked cases, which show that they say what is meant. Nothing cites
-- this file.
use Rattle.std.specs.Prelude.{◌≡◌, true, List, [], ◌∷◌, ◌++◌, Some, None, refl}
use Rattle.std.specs.List.{AllByRecursion}
use Rattle.std.proofs.lemmas.List.Elements.{All-from_recursion}
use Rattle.st_core.specs.declared.types.Pid.{Pid}
use Rattle.st_core.specs.declared.types.Event.{Event}
use Rattle.st_core.specs.declared.types.Want.TheVariants as want
use Rattle.st_core.specs.declared.types.Component.{Component}
use Rattle.st_core.specs.declared.types.Component.TheVariants as component
use Rattle.st_core.specs.declared.types.Act.{Act}
use Rattle.st_core.specs.declared.types.Act.TheVariants as act
use Rattle.st_core.specs.Pid.{pid_on}
use Rattle.st_core.specs.Step.{Outcome}
use Rattle.st_core.specs.Run.{Stream, Shows, pids_of, run, stream}
use Rattle.st_pair.specs.declared.answer.PairFault.{PairFault}
use Rattle.st_pair.specs.declared.answer.PairFault.TheVariants as fault
use Rattle.st_pair.specs.declared.answer.Source.TheVariants as source
use Rattle.st_pair.specs.Pairing.{refusal, source_at, receiver_at}
use Rattle.st_pair.specs.Final.{NeverShown}
use Rattle.st_pair.proofs.FinalReasons.{prev_never_shown}
use Rattle.st_core.proofs.Samples.{top, a, b, c, sent, got, printed, of, hidden_sends}

hidden_paired : refusal hidden_sends ≡ None
hidden_paired = refl

hidden_source : source_at hidden_sends a 1 ≡ Some source.Hidden
hidden_source = refl

-- the vector 'Not replayed'
abbrev pub not_replayed : List Stream
not_replayed = of a [] ∷ of b (got 1 0 2 a b 5 ∷ got 1 0 1 c b 4 ∷ printed 1 1 2 b 9 ∷ []) ∷ of c []
    ∷ []

not_replayed_paired : refusal not_replayed ≡ None
not_replayed_paired = refl

-- each reason, and the order of the reasons
prev_first : refusal (of a (printed 1 0 5 a 1 ∷ printed 1 0 5 a 1 ∷ printed 1 5 5 a 1 ∷ []) ∷ [])
    ≡ Some (fault.PrevNotBefore a 2)
prev_first = refl

abbrev pub falling : List Stream
falling = of a (printed 1 0 5 a 1 ∷ printed 1 0 6 a 1 ∷ got 1 0 3 b a 1 ∷ printed 1 0 6 a 1 ∷ [])
    ∷ of b [] ∷ []

rising_last : refusal falling ≡ Some (fault.NotRising a 3 1)
rising_last = refl

repeated_twice : refusal
    (of a (got 1 0 3 b a 1 ∷ []) ∷ of b (got 1 0 3 b b 2 ∷ got 1 0 3 b b 2 ∷ []) ∷ [])
    ≡ Some (fault.Repeated b 0 a 0)
repeated_twice = refl

mismatched : refusal (of a (got 1 0 3 b a 1 ∷ []) ∷ of b (printed 1 0 2 b 1 ∷ sent 1 2 3 b a 1 ∷ [])
    ∷ [])
    ≡ Some (fault.Mismatch a 0 b 1)
mismatched = refl

reset_repeats : refusal (of a [] ∷ of b (got 17 0 1 a b 5 ∷ got 17 0 1 a b 5 ∷ []) ∷ [])
    ≡ Some (fault.Repeated b 1 b 0)
reset_repeats = refl

-- a paired send
abbrev matched : List Stream
matched = of a (got 1 2 3 b a 1 ∷ []) ∷ of b (printed 1 0 2 b 1 ∷ sent 1 2 3 b a 1 ∷ []) ∷ []

matched_source : source_at matched a 0 ≡ Some (source.Event b 1)
matched_source = refl

matched_receiver : receiver_at matched b 1 ≡ Some (a, 0)
matched_receiver = refl

-- a send has no source, and a receive no receiver
matched_no_source : source_at matched b 1 ≡ None
matched_no_source = refl

matched_no_receiver : receiver_at matched a 0 ≡ None
matched_no_receiver = refl

-- a print with its count is not the send of a receive, whatever else is equal
printed_count : refusal (of a (printed 17 0 1 a 5 ∷ []) ∷ of b (got 17 0 1 a b 5 ∷ []) ∷ [])
    ≡ Some (fault.Mismatch b 0 a 0)
printed_count = refl

-- nor is a send with another label, prev, receiver or value
abbrev pub beside : Event → List Stream
beside f = of a (f ∷ []) ∷ of b (got 17 0 1 a b 5 ∷ []) ∷ of c [] ∷ []

other_label : refusal (beside (sent 18 0 1 a b 5)) ≡ Some (fault.Mismatch b 0 a 0)
other_label = refl

other_prev : refusal (of a (sent 17 1 2 a b 5 ∷ []) ∷ of b (got 17 0 2 a b 5 ∷ []) ∷ [])
    ≡ Some (fault.Mismatch b 0 a 0)
other_prev = refl

other_receiver : refusal (beside (sent 17 0 1 a c 5)) ≡ Some (fault.Mismatch b 0 a 0)
other_receiver = refl

other_value : refusal (beside (sent 17 0 1 a b 6)) ≡ Some (fault.Mismatch b 0 a 0)
other_value = refl

no_other : refusal (beside (sent 17 0 1 a b 5)) ≡ None
no_other = refl

-- two processes receive one stamp: the second is named, with the first
repeated_elsewhere : refusal
    (of a [] ∷ of b (got 17 0 1 a b 5 ∷ []) ∷ of c (got 17 0 1 a c 5 ∷ []) ∷ [])
    ≡ Some (fault.Repeated c 0 b 0)
repeated_elsewhere = refl

-- two processes that receive the same count from themselves repeat nothing, and both sends are
-- hidden
abbrev pub self_sends : List Stream
self_sends = of a (got 17 0 1 a a 5 ∷ []) ∷ of b (got 17 0 1 b b 5 ∷ []) ∷ []

self_sends_paired : refusal self_sends ≡ None
self_sends_paired = refl

self_sends_hidden : source_at self_sends b 0 ≡ Some source.Hidden
self_sends_hidden = refl

-- a low count of a receive is no reason
low_receive : refusal (of a (printed 17 0 5 a 1 ∷ got 17 0 3 b a 1 ∷ printed 17 3 6 a 1 ∷ [])
    ∷ of b [] ∷ []) ≡ None
low_receive = refl

-- PrevNotBefore at a later place comes before NotRising
prev_before_rising : refusal
    (of a (printed 17 0 2 a 1 ∷ printed 17 0 1 a 1 ∷ printed 17 3 3 a 1 ∷ []) ∷ [])
    ≡ Some (fault.PrevNotBefore a 2)
prev_before_rising = refl

-- WHICH REFUSALS ARE FINAL

-- no acts show a serial that doesn't rise
abbrev pub level : List Stream
level = of a (printed 17 1 1 a 7 ∷ []) ∷ []

level_refused : refusal level ≡ Some (fault.PrevNotBefore a 0)
level_refused = refl

level_never : NeverShown level
level_never = prev_never_shown level (fault.PrevNotBefore a 0) refl tt

abbrev outcomes : List Stream → List Act → List Outcome
outcomes streams acts = elim (run top (pids_of streams) acts) [ None ↦ [] | Some os ↦ os ]

shows : (streams : List Stream) (acts : List Act)
    → run top (pids_of streams) acts ≡ Some (outcomes streams acts)
    → AllByRecursion (λ x. stream acts (outcomes streams acts) x.pid ≡ x.events) streams
    → Shows top streams acts
shows streams acts runs shown = (outcomes streams acts, runs, All-from_recursion _ streams shown)

-- a token of label 17 with one flag
abbrev begun : Pid → Component → List Act
begun p flag = act.Set p (component.Label (record { 0 = 17 })) ∷ act.Set p flag ∷ []

-- a print on each side of a reset, both with the first count
abbrev printed_twice : List Stream
printed_twice = of a (printed 17 0 1 a 7 ∷ printed 17 0 1 a 7 ∷ []) ∷ []

abbrev print_twice : List Act
print_twice = (act.Tracer a true ∷ begun a (component.Print true))
    ++ (act.Print a 7 ∷ act.Reset a ∷ [])
    ++ begun a (component.Print true) ++ (act.Print a 7 ∷ [])

printed_twice_refused : refusal printed_twice ≡ Some (fault.NotRising a 1 0)
printed_twice_refused = refl

printed_twice_shown : Shows top printed_twice print_twice
printed_twice_shown = shows printed_twice print_twice refl (refl, tt)

-- two messages with one count, the first queued on another node than the reset's
abbrev d : Pid
d = pid_on 1 30

abbrev e : Pid
e = pid_on 2 31

abbrev received_twice : List Stream
received_twice = of d [] ∷ of e (got 17 0 1 d e 5 ∷ got 17 0 1 d e 5 ∷ []) ∷ []

abbrev send_twice : List Act
send_twice = (act.Tracer d true ∷ act.Tracer e true ∷ begun d (component.Receive true))
    ++ (act.Send d e 5 ∷ act.Reset d ∷ begun d (component.Receive true))
    ++ (act.Send d e 5 ∷ act.Receive e want.First ∷ act.Receive e want.First ∷ [])

received_twice_refused : refusal received_twice ≡ Some (fault.Repeated e 1 e 0)
received_twice_refused = refl

received_twice_shown : Shows top received_twice send_twice
received_twice_shown = shows received_twice send_twice refl (refl, (refl, tt))

-- a print before a reset, and a hidden send after it with the print's count
abbrev print_not_send : List Stream
print_not_send = of a (printed 17 0 1 a 7 ∷ []) ∷ of b (got 17 0 1 a b 5 ∷ []) ∷ []

abbrev print_then_send : List Act
print_then_send = (act.Tracer a true ∷ begun a (component.Print true))
    ++ (act.Print a 7 ∷ act.Reset a ∷ [])
    ++ begun a (component.Receive true) ++ (act.Send a b 5 ∷ act.Receive b want.First ∷ [])

print_not_send_refused : refusal print_not_send ≡ Some (fault.Mismatch b 0 a 0)
print_not_send_refused = refl

print_not_send_shown : Shows top print_not_send print_then_send
print_not_send_shown = shows print_not_send print_then_send refl (refl, (refl, tt))

-- so the refusals without PrevNotBefore aren't final for all acts
not_final : ¬ ((streams : List Stream) (f : PairFault) → refusal streams ≡ Some f
    → NeverShown streams)
not_final final = final printed_twice (fault.NotRising a 1 0) refl top print_twice
    printed_twice_shown
