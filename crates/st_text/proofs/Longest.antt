-- No line is longer than an event with the greatest numbers, since each other form is shorter.
use Rattle.std.proofs.Common.{◌≡◌, ℕ, ◌+◌, ◌<◌, ◌≤◌, Bool, true, false, List, ◌++◌, length, Option}
use Rattle.std.proofs.Common.{Some, None, refl, ap, arith}
use Rattle.std.specs.Prelude.{codes, decimal}
use Rattle.std.proofs.lemmas.List.{length-append}
use Rattle.std.proofs.lemmas.Fmt.{length-decimal-le}
use Rattle.st_core.specs.declared.types.Pid.{Pid}
use Rattle.st_core.specs.declared.types.Serial.{Serial}
use Rattle.st_core.specs.declared.types.Kind.{Kind}
use Rattle.st_core.specs.declared.types.Kind.TheVariants as kinds
use Rattle.st_core.specs.declared.types.Event.{Event}
use Rattle.st_core.specs.declared.types.Component.{Component}
use Rattle.st_core.specs.declared.types.Component.TheVariants as components
use Rattle.st_core.specs.declared.types.Want.{Want}
use Rattle.st_core.specs.declared.types.Want.TheVariants as wants
use Rattle.st_core.specs.declared.types.Flags.{Flags}
use Rattle.st_core.specs.declared.types.Token.{Token}
use Rattle.st_core.specs.declared.types.Act.{Act}
use Rattle.st_core.specs.declared.types.Act.TheVariants as acts
use Rattle.st_text.specs.declared.line.Line.{Line}
use Rattle.st_text.specs.declared.line.Line.TheVariants as lines
use Rattle.st_text.specs.Spelling.{bool, pid, label, serial, kind, place, head, ends, event}
use Rattle.st_text.specs.Spelling.{component, want, flags, token, act, line}
use Rattle.st_text.specs.Range.{FitsPid, FitsSerial, FitsPlace, FitsEvent, FitsComponent, FitsWant}
use Rattle.st_text.specs.Range.{FitsToken, FitsAct, Fits, most_pid, most_label, most_number}
use Rattle.st_text.specs.Parsing.{line_of}
use Rattle.st_text.proofs.LineLemmas.{line_takes}

two : (a b : List ℕ) (m n : ℕ) → length a ≤ m → length b ≤ n → length (a ++ b) ≤ m + n
two a b m n p q = omega (arith, length-append a b)

small : (n : ℕ) → n ≤ most_pid → length (decimal n) ≤ 5
small n le = length-decimal-le 5 n (omega arith) (omega arith) (omega arith)

middle : (n : ℕ) → n ≤ most_label → length (decimal n) ≤ 10
middle n le = length-decimal-le 10 n (omega arith) (omega arith) (omega arith)

large : (n : ℕ) → n ≤ most_number → length (decimal n) ≤ 20
large n le = length-decimal-le 20 n (omega arith) (omega arith) (omega arith)

bool_len : (b : Bool) → length (bool b) ≤ 5
bool_len true = omega arith
bool_len false = omega arith

pid_len : (p : Pid) → FitsPid p → length (pid p) ≤ 15
pid_len p f =
    omega (
      arith,
      small p.node f.node,
      small p.number f.number,
      length-append
          (codes "<" ++ decimal p.node ++ codes "." ++ decimal p.number) (codes ".0>"),
      length-append
          (codes "<" ++ decimal p.node ++ codes ".") (decimal p.number),
      length-append (codes "<" ++ decimal p.node)
          (codes "."),
      length-append (codes "<") (decimal p.node),
    )

serial_len : (s : Serial) → FitsSerial s → length (serial s) ≤ 43
serial_len s f =
    omega (
      arith,
      large s.prev f.prev,
      large s.this f.this,
      length-append
          (codes "{" ++ decimal s.prev ++ codes "," ++ decimal s.this) (codes "}"),
      length-append
          (codes "{" ++ decimal s.prev ++ codes ",") (decimal s.this),
      length-append (codes "{" ++ decimal s.prev)
          (codes ","),
      length-append (codes "{") (decimal s.prev),
    )

kind_len : (k : Kind) → length (kind k) ≤ 9
kind_len kinds.Send = omega arith
kind_len kinds.Receive = omega arith
kind_len kinds.Print = omega arith

place_len : (k : Kind) (o : Option Pid) → FitsPlace k o → length (place o) ≤ 15
place_len kinds.Print None f = omega arith
place_len kinds.Print (Some p) f = absurd f
place_len k None f = absurd f
place_len k (Some p) f = pid_len p f

event_len : (e : Event) → FitsEvent e → length (event e) ≤ 131
event_len e f =
    two (codes "{seq_trace," ++ head e ++ serial e.serial ++ codes "," ++ ends e ++ codes ","
    ++ decimal e.value)
    (codes "}}") 129 2
    (two (codes "{seq_trace," ++ head e ++ serial e.serial ++ codes "," ++ ends e ++ codes ",")
    (decimal e.value) 109
    20
    (two (codes "{seq_trace," ++ head e ++ serial e.serial ++ codes "," ++ ends e) (codes ",") 108 1
    (two (codes "{seq_trace," ++ head e ++ serial e.serial ++ codes ",") (ends e) 77 31
    (two (codes "{seq_trace," ++ head e ++ serial e.serial) (codes ",") 76 1
    (two (codes "{seq_trace," ++ head e) (serial e.serial) 33 43
    (two (codes "{seq_trace,") (head e) 11 22 (omega arith)
    (two (label e.label ++ codes ",{" ++ kind e.kind) (codes ",") 21 1
    (two (label e.label ++ codes ",{") (kind e.kind) 12 9
    (two (label e.label) (codes ",{") 10 2 (middle e.label.0 f.label) (omega arith))
    (kind_len e.kind))
    (omega arith)))
    (serial_len e.serial f.serial)) (omega arith))
    (two (pid e.from ++ codes ",") (place e.to) 16 15
    (two (pid e.from) (codes ",") 15 1 (pid_len e.from f.from) (omega arith))
    (place_len e.kind e.to f.to)))
    (omega arith))
    (large e.value f.value)) (omega arith)

component_len : (c : Component) → FitsComponent c → length (component c) ≤ 26
component_len (components.Label l) f =
    omega (arith, two (codes "label ") (label l) 6 10 (omega arith) (middle l.0 f))
component_len (components.Send b) f =
    omega (arith, two (codes "send ") (bool b) 5 5 (omega arith) (bool_len b))
component_len (components.Receive b) f =
    omega (arith, two (codes "receive ") (bool b) 8 5 (omega arith) (bool_len b))
component_len (components.Print b) f =
    omega (arith, two (codes "print ") (bool b) 6 5 (omega arith) (bool_len b))

want_len : (w : Want) → FitsWant w → length (want w) ≤ 41
want_len wants.First f = omega arith
want_len (wants.From p) f =
    omega (arith, two (codes "from ") (pid p) 5 15 (omega arith) (pid_len p f))
want_len (wants.Value v) f =
    omega (arith, two (codes "value ") (decimal v) 6 20 (omega arith) (large v f))
want_len (wants.Both p v) f =
    two (codes "both " ++ pid p ++ codes " ") (decimal v) 21 20
    (two (codes "both " ++ pid p) (codes " ") 20 1
    (two (codes "both ") (pid p) 5 15 (omega arith) (pid_len p f.0))
    (omega arith)) (large v f.1)
want_len (wants.Place k) f =
    omega (arith, two (codes "place ") (decimal k) 6 20 (omega arith) (large k f))

flags_len : (f : Flags) → length (flags f) ≤ 17
flags_len f =
    two (bool f.send ++ codes " " ++ bool f.receive ++ codes " ") (bool f.print) 12 5
    (two (bool f.send ++ codes " " ++ bool f.receive) (codes " ") 11 1
    (two (bool f.send ++ codes " ") (bool f.receive) 6 5
    (two (bool f.send) (codes " ") 5 1 (bool_len f.send) (omega arith)) (bool_len f.receive))
    (omega arith))
    (bool_len f.print)

token_len : (t : Token) → FitsToken t → length (token t) ≤ 86
token_len t f =
    two (label t.label ++ codes " " ++ flags t.flags ++ codes " " ++ decimal t.serial.prev
    ++ codes " "
    ++ decimal t.serial.this ++ codes " ") (pid t.from) 71 15
    (two (label t.label ++ codes " " ++ flags t.flags ++ codes " " ++ decimal t.serial.prev
    ++ codes " "
    ++ decimal t.serial.this) (codes " ") 70 1
    (two (label t.label ++ codes " " ++ flags t.flags ++ codes " " ++ decimal t.serial.prev
    ++ codes " ")
    (decimal t.serial.this) 50 20
    (two (label t.label ++ codes " " ++ flags t.flags ++ codes " " ++ decimal t.serial.prev)
    (codes " ") 49 1
    (two (label t.label ++ codes " " ++ flags t.flags ++ codes " ") (decimal t.serial.prev) 29 20
    (two (label t.label ++ codes " " ++ flags t.flags) (codes " ") 28 1
    (two (label t.label ++ codes " ") (flags t.flags) 11 17
    (two (label t.label) (codes " ") 10 1 (middle t.label.0 f.label) (omega arith))
    (flags_len t.flags))
    (omega arith))
    (large t.serial.prev f.serial.prev)) (omega arith)) (large t.serial.this f.serial.this))
    (omega arith))
    (pid_len t.from f.from)

-- a word of at most eight bytes, a pid and a space
actor_len : (word : List ℕ) (p : Pid) → length word ≤ 8 → FitsPid p
    → length (word ++ pid p ++ codes " ") ≤ 24
actor_len word p le f = two (word ++ pid p) (codes " ") 23 1
    (two word (pid p) 8 15 le (pid_len p f)) (omega arith)

act_len : (a : Act) → FitsAct a → length (act a) ≤ 131
act_len (acts.Send p q v) f =
    omega (
      arith,
      two (codes "send " ++ pid p ++ codes " " ++ pid q ++ codes " ") (decimal v) 40 20
          (two (codes "send " ++ pid p ++ codes " " ++ pid q) (codes " ") 39 1
          (two (codes "send " ++ pid p ++ codes " ") (pid q) 24 15
          (actor_len (codes "send ") p (omega arith) f.0)
          (pid_len q f.1)) (omega arith)) (large v f.2),
    )
act_len (acts.Receive p w) f =
    omega (
      arith,
      two (codes "receive " ++ pid p ++ codes " ") (want w) 24 41
          (actor_len (codes "receive ") p (omega arith) f.0) (want_len w f.1),
    )
act_len (acts.Print p v) f =
    omega (
      arith,
      two (codes "print " ++ pid p ++ codes " ") (decimal v) 24 20
          (actor_len (codes "print ") p (omega arith) f.0) (large v f.1),
    )
act_len (acts.PrintAt p l v) f =
    omega (
      arith,
      two (codes "printat " ++ pid p ++ codes " " ++ label l ++ codes " ") (decimal v) 35 20
          (two (codes "printat " ++ pid p ++ codes " " ++ label l) (codes " ") 34 1
          (two (codes "printat " ++ pid p ++ codes " ") (label l) 24 10
          (actor_len (codes "printat ") p (omega arith) f.0) (middle l.0 f.1)) (omega arith))
          (large v f.2),
    )
act_len (acts.Set p c) f =
    omega (
      arith,
      two (codes "set " ++ pid p ++ codes " ") (component c) 24 26
          (actor_len (codes "set ") p (omega arith) f.0) (component_len c f.1),
    )
act_len (acts.Clear p) f =
    omega (arith, two (codes "clear ") (pid p) 6 15 (omega arith) (pid_len p f))
act_len (acts.Restore p t) f =
    omega (
      arith,
      two (codes "restore " ++ pid p ++ codes " ") (token t) 24 86
          (actor_len (codes "restore ") p (omega arith) f.0) (token_len t f.1),
    )
act_len (acts.Look p) f =
    omega (arith, two (codes "look ") (pid p) 5 15 (omega arith) (pid_len p f))
act_len (acts.Reset p) f =
    omega (arith, two (codes "reset ") (pid p) 6 15 (omega arith) (pid_len p f))
act_len (acts.Tracer p b) f =
    omega (
      arith,
      two (codes "tracer " ++ pid p ++ codes " ") (bool b) 24 5
          (actor_len (codes "tracer ") p (omega arith) f) (bool_len b),
    )

line_len : (l : Line) → Fits l → length (line l) ≤ 131
line_len (lines.Header false) f = omega arith
line_len (lines.Header true) f = omega arith
line_len (lines.Process p) f =
    omega (arith, two (codes "process ") (pid p) 8 15 (omega arith) (pid_len p f))
line_len (lines.Event e) f = event_len e f
line_len lines.Acts f = omega arith
line_len (lines.Act a) f = act_len a f

pub too_long : (bytes : List ℕ) → 131 < length bytes → line_of bytes ≡ None
too_long bytes long = by (line_of bytes) refl
  where
    by : (o : Option Line) → line_of bytes ≡ o → o ≡ None
    by None e = refl
    by (Some l) e = let t = line_takes bytes l e in
        absurd (omega (arith, line_len l t.1, ap length t.0, long))
