-- Which values can be spelled in a line: each number is in the range of its place, and an event
-- has a receiver exactly if its kind has one.
use Rattle.std.specs.Prelude.{ℕ, ◌≤◌, Option, Some, None}
use Rattle.st_core.specs.declared.types.Pid.{Pid}
use Rattle.st_core.specs.declared.types.Serial.{Serial}
use Rattle.st_core.specs.declared.types.Token.{Token}
use Rattle.st_core.specs.declared.types.Kind.{Kind}
use Rattle.st_core.specs.declared.types.Kind.TheVariants as kinds
use Rattle.st_core.specs.declared.types.Event.{Event}
use Rattle.st_core.specs.declared.types.Component.{Component}
use Rattle.st_core.specs.declared.types.Component.TheVariants as components
use Rattle.st_core.specs.declared.types.Want.{Want}
use Rattle.st_core.specs.declared.types.Want.TheVariants as wants
use Rattle.st_core.specs.declared.types.Act.{Act}
use Rattle.st_core.specs.declared.types.Act.TheVariants as acts
use Rattle.st_core.specs.Pid.{node_of, number_of}
use Rattle.st_text.specs.declared.line.Line.{Line}
use Rattle.st_text.specs.declared.line.Line.TheVariants as lines

-- the greatest node and the greatest number of a pid
abbrev pub most_pid : ℕ
most_pid = 65535

abbrev pub most_label : ℕ
most_label = 4294967295

abbrev pub most_number : ℕ
most_number = 18446744073709551615

pub record FitsPid (p : Pid) : Type 0 where
  pub node : node_of p ≤ most_pid
  pub number : number_of p ≤ most_pid

pub record FitsSerial (s : Serial) : Type 0 where
  pub prev : s.prev ≤ most_number
  pub this : s.this ≤ most_number

-- a send and a receive have a receiver, a print has none
abbrev pub FitsPlace : Kind → Option Pid → Type 0
FitsPlace kinds.Send (Some p) = FitsPid p
FitsPlace kinds.Send None = ⊥
FitsPlace kinds.Receive (Some p) = FitsPid p
FitsPlace kinds.Receive None = ⊥
FitsPlace kinds.Print (Some p) = ⊥
FitsPlace kinds.Print None = Unit {0}

pub record FitsEvent (e : Event) : Type 0 where
  pub label : e.label.0 ≤ most_label
  pub serial : FitsSerial e.serial
  pub from : FitsPid e.from
  pub to : FitsPlace e.kind e.to
  pub value : e.value ≤ most_number

abbrev pub FitsComponent : Component → Type 0
FitsComponent (components.Label l) = l.0 ≤ most_label
FitsComponent (components.Send b) = Unit {0}
FitsComponent (components.Receive b) = Unit {0}
FitsComponent (components.Print b) = Unit {0}

abbrev pub FitsWant : Want → Type 0
FitsWant wants.First = Unit {0}
FitsWant (wants.From p) = FitsPid p
FitsWant (wants.Value v) = v ≤ most_number
FitsWant (wants.Both p v) = FitsPid p × (v ≤ most_number)
FitsWant (wants.Place k) = k ≤ most_number

pub record FitsToken (t : Token) : Type 0 where
  pub label : t.label.0 ≤ most_label
  pub serial : FitsSerial t.serial
  pub from : FitsPid t.from

abbrev pub FitsAct : Act → Type 0
FitsAct (acts.Send p q v) = FitsPid p × FitsPid q × (v ≤ most_number)
FitsAct (acts.Receive p w) = FitsPid p × FitsWant w
FitsAct (acts.Print p v) = FitsPid p × (v ≤ most_number)
FitsAct (acts.PrintAt p l v) = FitsPid p × (l.0 ≤ most_label) × (v ≤ most_number)
FitsAct (acts.Set p c) = FitsPid p × FitsComponent c
FitsAct (acts.Clear p) = FitsPid p
FitsAct (acts.Restore p t) = FitsPid p × FitsToken t
FitsAct (acts.Look p) = FitsPid p
FitsAct (acts.Reset p) = FitsPid p
FitsAct (acts.Tracer p b) = FitsPid p

abbrev pub Fits : Line → Type 0
Fits (lines.Header b) = Unit {0}
Fits (lines.Process p) = FitsPid p
Fits (lines.Event e) = FitsEvent e
Fits lines.Acts = Unit {0}
Fits (lines.Act a) = FitsAct a
