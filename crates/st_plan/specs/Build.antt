-- The acts that are built for an item, from the state that its process has before it.
use Rattle.std.specs.Prelude.{◌≡◌, ℕ, ◌-◌, ◌==◌, ◌&&◌, zero, suc, max, nat_lt, Bool, true, false}
use Rattle.std.specs.Prelude.{not, List, [], ◌∷◌, ◌++◌, Option, Some, None, if◌then◌else◌}
use Rattle.std.specs.Prelude.{option_map, option_and_then, position}
use Rattle.std.specs.Option.{option_map_or}
use Rattle.st_core.specs.declared.types.Pid.{Pid}
use Rattle.st_core.specs.declared.types.Label.{Label}
use Rattle.st_core.specs.declared.types.Flags.{Flags}
use Rattle.st_core.specs.declared.types.Serial.{Serial}
use Rattle.st_core.specs.declared.types.Token.{Token}
use Rattle.st_core.specs.declared.types.Kind.TheVariants as kind
use Rattle.st_core.specs.declared.types.Want.TheVariants as want
use Rattle.st_core.specs.declared.types.Component.TheVariants as component
use Rattle.st_core.specs.declared.types.Act.{Act}
use Rattle.st_core.specs.declared.types.Act.TheVariants as act
use Rattle.st_core.specs.State.{LocalState, Process, State, process, zero_state}
use Rattle.st_core.specs.Step.{Outcome}
use Rattle.st_core.specs.Run.{Stream, pids_of, run_from, stream}
use Rattle.st_mail.specs.Mail.{bears_stamp}
use Rattle.st_pair.specs.Pairing.{receiver_at}
use Rattle.st_order.specs.declared.item.Item.TheVariants as item
use Rattle.st_plan.specs.declared.plan.Start.{Start}
use Rattle.st_plan.specs.Marks.{Marks}
use Rattle.st_plan.specs.Moves.{Move, is_taking}
use Rattle.st_plan.specs.Plain.{told_of_move}

-- the part of a process's state from which the acts are built
abbrev pub start_of : LocalState → Start
start_of l = record { token = l.token; clock = l.clock; last = l.last }

abbrev pub quiet : Flags
quiet = record { send = false; receive = false; print = false }

abbrev pub bool_eq : Bool → Bool → Bool
bool_eq a b = if a then b else not b

abbrev pub flags_eq : Flags → Flags → Bool
flags_eq f g = bool_eq f.send g.send && (bool_eq f.receive g.receive && bool_eq f.print g.print)

-- the token has the label n and the flags f
abbrev pub is_dressed : Label → Flags → Option Token → Bool
is_dressed n f None = false
is_dressed n f (Some t) = t.label.0 == n.0 && flags_eq t.flags f

-- the token with the label and the flags that is restored before a stamp
abbrev pub unstamped_token : Pid → Label → Flags → Token
unstamped_token p n f = record {
  label = n;
  flags = f;
  serial = record { prev = 0; this = 0 };
  from = p;
}

-- the act that gives p a token with the label and the flags; none if it has one
abbrev pub dress : Pid → Option Token → Label → Flags → List Act
dress p token n f = if is_dressed n f token then [] else act.Restore p (unstamped_token p n f) ∷ []

-- n prints of p that nobody sees
abbrev pub silent_prints : Pid → ℕ → List Act
silent_prints p zero = []
silent_prints p (suc n) = act.Print p 0 ∷ silent_prints p n

-- the acts that raise the clock to prev, if it is below, and begin a new trace there
abbrev pub renew : Pid → Start → Label → ℕ → List Act
renew p x n prev =
    (if nat_lt x.clock prev then dress p x.token n quiet ++ silent_prints p (prev - x.clock) else
    [])
    ++ act.Clear p ∷ act.Set p (component.Label n) ∷ []

-- the acts that raise the clock to the count, if it is below, and then set the flags
abbrev pub raise : Pid → Start → Label → ℕ → Flags → List Act
raise p x n count f = if nat_lt x.clock count
    then dress p x.token n quiet
    ++ (silent_prints p (count - x.clock) ++ dress p (Some (unstamped_token p n quiet)) n f)
    else dress p x.token n f

-- p's token, clock and last count after a new trace began at prev
abbrev pub renewed_start : Pid → Start → Label → ℕ → Start
renewed_start p x n prev =
    record { token = Some (unstamped_token p n quiet); clock = max x.clock prev; last = prev }

-- the acts after which p is ready to stamp the serial under the label and the flags: they begin a
-- new trace if the prev isn't the last count
abbrev pub ready : Pid → Start → Label → Serial → Flags → List Act
ready p x n s f = if s.prev == x.last
    then raise p x n (s.this - 1) f
    else renew p x n s.prev ++ raise p (renewed_start p x n s.prev) n (s.this - 1) f

-- the flags of the token with which an item stamps: a told event has its own flag, and a send has
-- `receive` if the receive that is paired with it is told
abbrev pub flags_of : List Stream → Marks → Move → Flags
flags_of streams marks m = elim m.item [
  | item.Hidden p i ↦ record { send = false; receive = marks p i; print = false }
  | item.Reported p i ↦
      elim m.event.kind [
        | kind.Send ↦
            let seen = option_map_or (λ at. marks at.0 at.1) (receiver_at streams p i) false in
            record { send = marks p i; receive = seen; print = false }
        | kind.Receive ↦ quiet
        | kind.Print ↦ record { send = false; receive = false; print = marks p i }
      ]
]

-- the act of an item; a receive takes the message at its place in the queue
abbrev pub act_of : Process → Move → Option Act
act_of r m = elim m.item [
  | item.Hidden p i ↦ option_map (λ to. act.Send m.who to m.event.value) m.event.to
  | item.Reported p i ↦
      elim m.event.kind [
        | kind.Send ↦ option_map (λ to. act.Send m.who to m.event.value) m.event.to
        | kind.Receive ↦ option_map (λ k. act.Receive m.who (want.Place k))
            (position (λ x. bears_stamp m.event.from m.event.serial.this x.token) r.queue)
        | kind.Print ↦ Some (act.Print m.who m.event.value)
      ]
]

-- the acts of an item, from the record of its process
abbrev pub acts_of : List Stream → Marks → Process → Move → Option (List Act)
acts_of streams marks r m = option_map (λ a. (if is_taking m then []
    else ready m.who (start_of r.local) m.event.label m.event.serial (flags_of streams marks m))
    ++ a ∷ []) (act_of r m)

-- the state after these outcomes, if they begin at s
abbrev pub state_after : State → List Outcome → State
state_after s [] = s
state_after s (o ∷ os) = state_after o.after os

-- the acts of a move run from s, and each process reports what it tells of the move
pub record GoesOn (top : ℕ) (streams : List Stream) (marks : Marks) (s : State)
    (m : Move) : Type 0 where
  pub before : Process
  pub is_before : process s m.who ≡ Some before
  pub acts : List Act
  pub are : acts_of streams marks before m ≡ Some acts
  pub outcomes : List Outcome
  pub runs : run_from top s acts ≡ Some outcomes
  pub tells : (p : Pid) → stream acts outcomes p ≡ told_of_move marks p m

-- the acts of all these moves, each move's from the state to which the acts before it lead
abbrev pub build : ℕ → List Stream → Marks → State → List Move → Option (List Act)
build top streams marks s [] = Some []
build top streams marks s (m ∷ ms) =
    option_and_then (λ r. option_and_then (λ acts. option_and_then (λ os.
    option_map (λ rest. acts ++ rest) (build top streams marks (state_after s os) ms))
    (run_from top s acts)) (acts_of streams marks r m)) (process s m.who)

-- a tracer for each node, by its least pid; none for the node that was seen
abbrev pub tracers_after : Option ℕ → List Pid → List Act
tracers_after seen [] = []
tracers_after seen (p ∷ ps) = if option_map_or (λ n. n == p.node) seen false
    then tracers_after seen ps
    else act.Tracer p true ∷ tracers_after (Some p.node) ps

-- the first acts: a tracer for each node, or none if there are no moves
abbrev pub opening : List Stream → List Move → List Act
opening streams [] = []
opening streams (m ∷ ms) = tracers_after None (pids_of streams)

-- the acts of the whole construction, if it goes through
abbrev pub construction : ℕ → List Stream → Marks → List Move → Option (List Act)
construction top streams marks ms =
    let first = opening streams ms in
    let zero = zero_state (pids_of streams) in
    option_and_then (λ os. option_map (λ rest. first ++ rest)
    (build top streams marks (state_after zero os) ms))
    (run_from top zero first)
