-- The meaning of one line's bytes, read from the front. The law `line_is_read_as_spelled` says
-- that reading a line undoes its spelling, and that no other bytes are read as a line.
use Rattle.std.specs.Prelude.{ℕ, Bool, true, false, ◌&&◌, List, [], ◌∷◌, length, take, drop, Option}
use Rattle.std.specs.Prelude.{Some, None}
use Rattle.std.specs.Prelude.{option_and_then, nat_le, ◌==◌, if◌then◌else◌, codes, decimal}
use Rattle.std.specs.Char.{is_ascii_digit}
use Rattle.std.specs.List.{prefix_len}
use Rattle.std.specs.Str.{bytes_eq}
use Rattle.std.specs.Str.Parse.{digits_value}
use Rattle.st_core.specs.declared.types.Pid.{Pid}
use Rattle.st_core.specs.declared.types.Label.{Label}
use Rattle.st_core.specs.declared.types.Serial.{Serial}
use Rattle.st_core.specs.declared.types.Flags.{Flags}
use Rattle.st_core.specs.declared.types.Token.{Token}
use Rattle.st_core.specs.declared.types.Kind.{Kind}
use Rattle.st_core.specs.declared.types.Kind.TheVariants as kinds
use Rattle.st_core.specs.declared.types.Event.{Event}
use Rattle.st_core.specs.declared.types.Component.{Component}
use Rattle.st_core.specs.declared.types.Component.TheVariants as components
use Rattle.st_core.specs.declared.types.Want.{Want}
use Rattle.st_core.specs.declared.types.Want.TheVariants as wants
use Rattle.st_core.specs.declared.types.Act.{Act}
use Rattle.st_core.specs.declared.types.Act.TheVariants as acts
use Rattle.st_core.specs.Pid.{pid_on}
use Rattle.st_text.specs.declared.line.Line.{Line}
use Rattle.st_text.specs.declared.line.Line.TheVariants as lines
use Rattle.st_text.specs.Range.{most_pid, most_label, most_number}

infixl 10 ◌>>=◌
abbrev pub ◌>>=◌ : {A B : Type 0} → Option A → (A → Option B) → Option B
o >>= f = option_and_then f o

-- the bytes after the word, if they begin with it
abbrev pub after : List ℕ → List ℕ → Option (List ℕ)
after [] bytes = Some bytes
after (c ∷ word) [] = None
after (c ∷ word) (b ∷ bytes) = if b == c then after word bytes else None

-- f of the value if there is one, else other
abbrev pub on_some : {A B : Type 0} → Option A → (A → Option B) → Option B → Option B
on_some (Some x) f other = f x
on_some None f other = other

-- f of the bytes after the word, if the bytes begin with it, else other
abbrev pub begins : {A : Type 0} → List ℕ → List ℕ → (List ℕ → Option A) → Option A → Option A
begins word bytes f other = on_some (after word bytes) f other

-- the value of the digits, and the rest, if the digits are its one spelling and it is at most
-- `most`
abbrev pub number_from : ℕ → List ℕ → List ℕ → Option (ℕ × List ℕ)
number_from most digits rest =
    if bytes_eq (decimal (digits_value 10 digits)) digits
    && nat_le (digits_value 10 digits) most then Some
    (digits_value 10 digits, rest) else None

-- the number of at most `most` whose one spelling the bytes begin with, and the bytes after it
unfoldable pub number : ℕ → List ℕ → Option (ℕ × List ℕ)
number most bytes =
    number_from most (take (prefix_len is_ascii_digit bytes) bytes)
    (drop (prefix_len is_ascii_digit bytes) bytes)

unfoldable pub parse_bool : List ℕ → Option (Bool × List ℕ)
parse_bool bytes =
    begins (codes "true") bytes (λ rest. Some (true, rest))
    (begins (codes "false") bytes (λ rest. Some (false, rest)) None)

unfoldable pub parse_pid : List ℕ → Option (Pid × List ℕ)
parse_pid bytes = do
  a ← after (codes "<") bytes
  node ← number most_pid a
  b ← after (codes ".") node.1
  num ← number most_pid b
  c ← after (codes ".0>") num.1
  Some (pid_on node.0 num.0, c)

unfoldable pub parse_label : List ℕ → Option (Label × List ℕ)
parse_label bytes = do
  n ← number most_label bytes
  Some (record { 0 = n.0 }, n.1)

unfoldable pub parse_serial : List ℕ → Option (Serial × List ℕ)
parse_serial bytes = do
  a ← after (codes "{") bytes
  prev ← number most_number a
  b ← after (codes ",") prev.1
  this ← number most_number b
  c ← after (codes "}") this.1
  Some (record { prev = prev.0; this = this.0 }, c)

-- ---- events

unfoldable pub parse_kind : List ℕ → Option (Kind × List ℕ)
parse_kind bytes =
    begins (codes "send") bytes (λ rest. Some (kinds.Send, rest))
    (begins (codes "'receive'") bytes (λ rest. Some (kinds.Receive, rest))
    (begins (codes "print") bytes (λ rest. Some (kinds.Print, rest)) None))

unfoldable pub parse_head : List ℕ → Option ((Label × Kind) × List ℕ)
parse_head bytes = do
  l ← parse_label bytes
  a ← after (codes ",{") l.1
  k ← parse_kind a
  b ← after (codes ",") k.1
  Some ((l.0, k.0), b)

unfoldable pub parse_some_pid : List ℕ → Option (Option Pid × List ℕ)
parse_some_pid bytes = do
  p ← parse_pid bytes
  Some (Some p.0, p.1)

unfoldable pub parse_place : Kind → List ℕ → Option (Option Pid × List ℕ)
parse_place kinds.Send bytes = parse_some_pid bytes
parse_place kinds.Receive bytes = parse_some_pid bytes
parse_place kinds.Print bytes = begins (codes "[]") bytes (λ rest. Some (None, rest)) None

unfoldable pub parse_ends : Kind → List ℕ → Option ((Pid × Option Pid) × List ℕ)
parse_ends kind bytes = do
  p ← parse_pid bytes
  a ← after (codes ",") p.1
  q ← parse_place kind a
  Some ((p.0, q.0), q.1)

-- an event after `{seq_trace,`
unfoldable pub parse_event : List ℕ → Option (Event × List ℕ)
parse_event bytes = do
  h ← parse_head bytes
  s ← parse_serial h.1
  a ← after (codes ",") s.1
  x ← parse_ends h.0.1 a
  b ← after (codes ",") x.1
  v ← number most_number b
  c ← after (codes "}}") v.1
  Some (
    record {
      label = h.0.0;
      kind = h.0.1;
      serial = s.0;
      from = x.0.0;
      to = x.0.1;
      value = v.0;
    },
    c,
  )

-- ---- acts

-- a pid and the space after it
unfoldable pub parse_actor : List ℕ → Option (Pid × List ℕ)
parse_actor bytes = do
  p ← parse_pid bytes
  a ← after (codes " ") p.1
  Some (p.0, a)

unfoldable pub parse_component : List ℕ → Option (Component × List ℕ)
parse_component bytes =
    begins (codes "label ") bytes
    (λ rest. parse_label rest >>= λ l. Some (components.Label l.0, l.1))
    (begins (codes "send ") bytes (λ rest. parse_bool rest >>= λ b. Some (components.Send b.0, b.1))
    (begins (codes "receive ") bytes
    (λ rest. parse_bool rest >>= λ b. Some (components.Receive b.0, b.1))
    (begins (codes "print ") bytes
    (λ rest. parse_bool rest >>= λ b. Some (components.Print b.0, b.1)) None)))

unfoldable pub parse_both : List ℕ → Option (Want × List ℕ)
parse_both bytes = do
  p ← parse_actor bytes
  v ← number most_number p.1
  Some (wants.Both p.0 v.0, v.1)

unfoldable pub parse_want : List ℕ → Option (Want × List ℕ)
parse_want bytes =
    begins (codes "first") bytes (λ rest. Some (wants.First, rest))
    (begins (codes "from ") bytes (λ rest. parse_pid rest >>= λ p. Some (wants.From p.0, p.1))
    (begins (codes "value ") bytes
    (λ rest. number most_number rest >>= λ v. Some (wants.Value v.0, v.1))
    (begins (codes "both ") bytes parse_both
    (begins (codes "place ") bytes
    (λ rest. number most_number rest >>= λ k. Some (wants.Place k.0, k.1)) None))))

unfoldable pub parse_flags : List ℕ → Option (Flags × List ℕ)
parse_flags bytes = do
  s ← parse_bool bytes
  a ← after (codes " ") s.1
  r ← parse_bool a
  b ← after (codes " ") r.1
  p ← parse_bool b
  Some (record { send = s.0; receive = r.0; print = p.0 }, p.1)

unfoldable pub parse_token : List ℕ → Option (Token × List ℕ)
parse_token bytes = do
  l ← parse_label bytes
  a ← after (codes " ") l.1
  f ← parse_flags a
  b ← after (codes " ") f.1
  prev ← number most_number b
  c ← after (codes " ") prev.1
  this ← number most_number c
  d ← after (codes " ") this.1
  p ← parse_pid d
  Some (
    record {
      label = l.0;
      flags = f.0;
      serial = record { prev = prev.0; this = this.0 };
      from = p.0;
    },
    p.1,
  )

unfoldable pub parse_send : List ℕ → Option (Act × List ℕ)
parse_send bytes = do
  p ← parse_actor bytes
  q ← parse_actor p.1
  v ← number most_number q.1
  Some (acts.Send p.0 q.0 v.0, v.1)

unfoldable pub parse_receive : List ℕ → Option (Act × List ℕ)
parse_receive bytes = do
  p ← parse_actor bytes
  w ← parse_want p.1
  Some (acts.Receive p.0 w.0, w.1)

unfoldable pub parse_print : List ℕ → Option (Act × List ℕ)
parse_print bytes = do
  p ← parse_actor bytes
  v ← number most_number p.1
  Some (acts.Print p.0 v.0, v.1)

unfoldable pub parse_printat : List ℕ → Option (Act × List ℕ)
parse_printat bytes = do
  p ← parse_actor bytes
  l ← parse_label p.1
  a ← after (codes " ") l.1
  v ← number most_number a
  Some (acts.PrintAt p.0 l.0 v.0, v.1)

unfoldable pub parse_set : List ℕ → Option (Act × List ℕ)
parse_set bytes = do
  p ← parse_actor bytes
  c ← parse_component p.1
  Some (acts.Set p.0 c.0, c.1)

unfoldable pub parse_restore : List ℕ → Option (Act × List ℕ)
parse_restore bytes = do
  p ← parse_actor bytes
  t ← parse_token p.1
  Some (acts.Restore p.0 t.0, t.1)

unfoldable pub parse_tracer : List ℕ → Option (Act × List ℕ)
parse_tracer bytes = do
  p ← parse_actor bytes
  b ← parse_bool p.1
  Some (acts.Tracer p.0 b.0, b.1)

-- an act that only names its actor
unfoldable pub parse_alone : List ℕ → Option (Act × List ℕ)
parse_alone bytes =
    begins (codes "clear ") bytes (λ rest. parse_pid rest >>= λ p. Some (acts.Clear p.0, p.1))
    (begins (codes "look ") bytes (λ rest. parse_pid rest >>= λ p. Some (acts.Look p.0, p.1))
    (begins (codes "reset ") bytes (λ rest. parse_pid rest >>= λ p. Some (acts.Reset p.0, p.1))
    None))

unfoldable pub parse_act : List ℕ → Option (Act × List ℕ)
parse_act bytes =
    begins (codes "send ") bytes parse_send
    (begins (codes "receive ") bytes parse_receive
    (begins (codes "print ") bytes parse_print
    (begins (codes "printat ") bytes parse_printat
    (begins (codes "set ") bytes parse_set
    (begins (codes "restore ") bytes parse_restore
    (begins (codes "tracer ") bytes parse_tracer
    (parse_alone bytes)))))))

-- ---- lines

-- a line that occurs once in a text, or once for each process
unfoldable pub parse_rare : List ℕ → Option (Line × List ℕ)
parse_rare bytes =
    begins (codes "process ") bytes (λ rest. parse_pid rest >>= λ p. Some (lines.Process p.0, p.1))
    (begins (codes "acts") bytes (λ rest. Some (lines.Acts, rest))
    (begins (codes "seqtrace 1") bytes (λ rest. Some (lines.Header false, rest))
    (begins (codes "seqtrace 2") bytes (λ rest. Some (lines.Header true, rest)) None)))

-- No two lines begin alike, so the order of the tests is free: the commonest come first.
unfoldable pub parse_line : List ℕ → Option (Line × List ℕ)
parse_line bytes =
    begins (codes "{seq_trace,") bytes
    (λ rest. parse_event rest >>= λ e. Some (lines.Event e.0, e.1))
    (on_some (parse_act bytes) (λ a. Some (lines.Act a.0, a.1)) (parse_rare bytes))

-- the line that all the bytes spell
unfoldable pub line_of : List ℕ → Option Line
line_of bytes = parse_line bytes >>= λ l. if length l.1 == 0 then Some l.0 else None

-- ---- a word by itself

-- a pid without its angle brackets
unfoldable pub parse_bare_pid : List ℕ → Option (Pid × List ℕ)
parse_bare_pid bytes = do
  node ← number most_pid bytes
  a ← after (codes ".") node.1
  num ← number most_pid a
  b ← after (codes ".0") num.1
  Some (pid_on node.0 num.0, b)

-- the pid that all the bytes spell, in angle brackets or without
unfoldable pub pid_in : List ℕ → Option Pid
pid_in bytes =
    on_some (parse_pid bytes) Some (parse_bare_pid bytes)
    >>= λ p. if length p.1 == 0 then Some p.0 else None

-- the number that all the bytes spell
unfoldable pub number_in : List ℕ → Option ℕ
number_in bytes = number most_number bytes >>= λ n. if length n.1 == 0 then Some n.0 else None
