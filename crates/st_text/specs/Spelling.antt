-- The one spelling of each value, as bytes. These are the words of the grammar; nothing here says
-- how they are read.
use Rattle.std.specs.Prelude.{ℕ, Bool, true, false, List, [], ◌∷◌, ◌++◌, Option, Some, None, codes}
use Rattle.std.specs.Prelude.{decimal}
use Rattle.st_core.specs.declared.types.Pid.{Pid}
use Rattle.st_core.specs.declared.types.Label.{Label}
use Rattle.st_core.specs.declared.types.Serial.{Serial}
use Rattle.st_core.specs.declared.types.Flags.{Flags}
use Rattle.st_core.specs.declared.types.Token.{Token}
use Rattle.st_core.specs.declared.types.Kind.{Kind}
use Rattle.st_core.specs.declared.types.Kind.TheVariants as kinds
use Rattle.st_core.specs.declared.types.Event.{Event}
use Rattle.st_core.specs.declared.types.Component.{Component}
use Rattle.st_core.specs.declared.types.Component.TheVariants as components
use Rattle.st_core.specs.declared.types.Want.{Want}
use Rattle.st_core.specs.declared.types.Want.TheVariants as wants
use Rattle.st_core.specs.declared.types.Act.{Act}
use Rattle.st_core.specs.declared.types.Act.TheVariants as acts
use Rattle.st_core.specs.Pid.{node_of, number_of}
use Rattle.st_text.specs.declared.line.Line.{Line}
use Rattle.st_text.specs.declared.line.Line.TheVariants as lines

abbrev pub bool : Bool → List ℕ
bool true = codes "true"
bool false = codes "false"

-- a pid, as `<0.30.0>`
abbrev pub pid : Pid → List ℕ
pid p = codes "<" ++ decimal (node_of p) ++ codes "." ++ decimal (number_of p) ++ codes ".0>"

abbrev pub label : Label → List ℕ
label l = decimal l.0

abbrev pub serial : Serial → List ℕ
serial s = codes "{" ++ decimal s.prev ++ codes "," ++ decimal s.this ++ codes "}"

-- ---- events: the system tracer's tuple without spaces

abbrev pub kind : Kind → List ℕ
kind kinds.Send = codes "send"
kind kinds.Receive = codes "'receive'"
kind kinds.Print = codes "print"

-- the receiver, or the `[]` of a print
abbrev pub place : Option Pid → List ℕ
place None = codes "[]"
place (Some p) = pid p

-- the label and the kind
abbrev pub head : Event → List ℕ
head e = label e.label ++ codes ",{" ++ kind e.kind ++ codes ","

-- the sender and the receiver
abbrev pub ends : Event → List ℕ
ends e = pid e.from ++ codes "," ++ place e.to

abbrev pub event : Event → List ℕ
event e =
    codes "{seq_trace," ++ head e ++ serial e.serial ++ codes "," ++ ends e ++ codes ","
    ++ decimal e.value
    ++ codes "}}"

-- ---- acts

abbrev pub component : Component → List ℕ
component (components.Label l) = codes "label " ++ label l
component (components.Send b) = codes "send " ++ bool b
component (components.Receive b) = codes "receive " ++ bool b
component (components.Print b) = codes "print " ++ bool b

abbrev pub want : Want → List ℕ
want wants.First = codes "first"
want (wants.From p) = codes "from " ++ pid p
want (wants.Value v) = codes "value " ++ decimal v
want (wants.Both p v) = codes "both " ++ pid p ++ codes " " ++ decimal v
want (wants.Place k) = codes "place " ++ decimal k

abbrev pub flags : Flags → List ℕ
flags f = bool f.send ++ codes " " ++ bool f.receive ++ codes " " ++ bool f.print

abbrev pub token : Token → List ℕ
token t =
    label t.label ++ codes " " ++ flags t.flags ++ codes " " ++ decimal t.serial.prev ++ codes " "
    ++ decimal t.serial.this ++ codes " " ++ pid t.from

abbrev pub act : Act → List ℕ
act (acts.Send p q v) = codes "send " ++ pid p ++ codes " " ++ pid q ++ codes " " ++ decimal v
act (acts.Receive p w) = codes "receive " ++ pid p ++ codes " " ++ want w
act (acts.Print p v) = codes "print " ++ pid p ++ codes " " ++ decimal v
act (acts.PrintAt p l v) =
    codes "printat " ++ pid p ++ codes " " ++ label l ++ codes " " ++ decimal v
act (acts.Set p c) = codes "set " ++ pid p ++ codes " " ++ component c
act (acts.Clear p) = codes "clear " ++ pid p
act (acts.Restore p t) = codes "restore " ++ pid p ++ codes " " ++ token t
act (acts.Look p) = codes "look " ++ pid p
act (acts.Reset p) = codes "reset " ++ pid p
act (acts.Tracer p b) = codes "tracer " ++ pid p ++ codes " " ++ bool b

-- ---- lines, each without its newline

abbrev pub line : Line → List ℕ
line (lines.Header false) = codes "seqtrace 1"
line (lines.Header true) = codes "seqtrace 2"
line (lines.Process p) = codes "process " ++ pid p
line (lines.Event e) = event e
line lines.Acts = codes "acts"
line (lines.Act a) = act a

-- the bytes and a newline
abbrev pub ended_line : List ℕ → List ℕ
ended_line bytes = bytes ++ 10 ∷ []
