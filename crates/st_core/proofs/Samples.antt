-- Samples for the worked cases of all crates: processes, events and streams. They show what
-- definitions say; no lemma rests on them.
use Rattle.std.specs.Prelude.{ℕ, List, [], ◌∷◌, Some, None}
use Rattle.st_core.specs.declared.types.Pid.{Pid}
use Rattle.st_core.specs.declared.types.Event.{Event}
use Rattle.st_core.specs.declared.types.Kind.TheVariants as kind
use Rattle.st_core.specs.Pid.{pid_on}
use Rattle.st_core.specs.Run.{Stream}

-- the greatest count that a clock of the program can have
abbrev pub top : ℕ
top = 18446744073709551615

-- three processes of the local node
abbrev pub a : Pid
a = pid_on 0 30

abbrev pub b : Pid
b = pid_on 0 31

abbrev pub c : Pid
c = pid_on 0 32

-- p sent v to q under label n
abbrev pub sent : (n prev this : ℕ) (p q : Pid) (v : ℕ) → Event
sent n prev this p q v = record {
  label = record { 0 = n };
  kind = kind.Send;
  serial = record { prev = prev; this = this };
  from = p;
  to = Some q;
  value = v;
}

-- q received what p sent
abbrev pub got : (n prev this : ℕ) (p q : Pid) (v : ℕ) → Event
got n prev this p q v = record (sent n prev this p q v) { kind = kind.Receive }

-- p printed v under label n
abbrev pub printed : (n prev this : ℕ) (p : Pid) (v : ℕ) → Event
printed n prev this p v = record (sent n prev this p p v) { kind = kind.Print; to = None }

-- the stream of p
abbrev pub of : Pid → List Event → Stream
of p es = record { pid = p; events = es }

-- two processes that received messages whose sends nobody reported
abbrev pub hidden_sends : List Stream
hidden_sends = of a (printed 17 0 1 a 7 ∷ got 17 2 4 b a 6 ∷ [])
    ∷ of b (got 17 0 2 a b 5 ∷ printed 17 2 3 b 8 ∷ []) ∷ []
