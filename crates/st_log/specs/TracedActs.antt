-- Entries without their ranks, and the short form of a frequent act under a token, from which the
-- report and the carried token follow.
use Rattle.std.specs.Prelude.{ℕ, Option, Some, None}
use Rattle.st_core.specs.declared.types.Act.TheVariants as act
use Rattle.st_core.specs.declared.types.Event.{Event}
use Rattle.st_core.specs.declared.types.Flags.{Flags}
use Rattle.st_core.specs.declared.types.Kind.{Kind}
use Rattle.st_core.specs.declared.types.Kind.TheVariants as kind
use Rattle.st_core.specs.declared.types.Label.{Label}
use Rattle.st_core.specs.declared.types.Pid.{Pid}
use Rattle.st_core.specs.declared.types.Reply.TheVariants as reply
use Rattle.st_core.specs.declared.types.Serial.{Serial}
use Rattle.st_core.specs.declared.types.Token.{Token}
use Rattle.st_core.specs.declared.types.Want.{Want}
use Rattle.st_core.specs.declared.types.Want.TheVariants as want
use Rattle.st_core.specs.Pid.{pid_on}
use Rattle.st_log.specs.declared.entry.Entry.{Entry}
use Rattle.st_log.specs.declared.row.Unranked.{Unranked}
use Rattle.st_log.specs.declared.traced_act.TracedAct.{TracedAct}
use Rattle.st_log.specs.declared.traced_act.TracedForm.{TracedForm}
use Rattle.st_log.specs.declared.traced_act.TracedForm.TheVariants as form

-- an entry without its rank
abbrev pub without_rank : Entry → Unranked
without_rank e = record { act = e.act; reply = e.reply; report = e.report; carried = e.carried }

-- the entry with the given rank
abbrev pub with_rank : ℕ → Unranked → Entry
with_rank rank u = record {
  rank = rank;
  act = u.act;
  reply = u.reply;
  report = u.report;
  carried = u.carried;
}

-- the event with the given fields
abbrev pub event_of_parts : Kind → Label → Serial → Pid → Option Pid → ℕ → Event
event_of_parts k label serial from to v =
    record { label = label; kind = k; to = to; from = from; serial = serial; value = v }

-- the token with the given fields
abbrev pub token_of_parts : Flags → Label → Serial → Pid → Token
token_of_parts flags label serial from =
    record { label = label; flags = flags; serial = serial; from = from }

-- the entry, without its rank, of a send whose message carried a token
abbrev pub send_rest : Pid → Pid → ℕ → Option Event → Token → Unranked
send_rest p q v report token =
    record { act = act.Send p q v; reply = reply.Done; report = report; carried = Some token }

-- the entry, without its rank, of a print that was reported
abbrev pub print_rest : Pid → ℕ → Event → Unranked
print_rest p v report =
    record { act = act.Print p v; reply = reply.Done; report = Some report; carried = None }

-- the entry, without its rank, of a reported receive that took a message from q with the value v
abbrev pub mail_rest : Pid → Want → Pid → ℕ → Event → Unranked
mail_rest p w q v report =
    record { act = act.Receive p w; reply = reply.Mail q v; report = Some report; carried = None }

-- `mail_rest` with the report that follows from the message, a label and a serial
abbrev pub receive_rest : Pid → Want → Label → Pid → ℕ → Serial → Unranked
receive_rest p w label q v serial =
    mail_rest p w q v (event_of_parts kind.Receive label serial q (Some p) v)

-- the entry, without its rank, that a short form stands for if its form is the given one
abbrev pub rest_in : TracedForm → TracedAct → Unranked
rest_in (form.Send flags) t = send_rest t.actor t.other t.value None
    (token_of_parts flags t.label t.serial t.actor)
rest_in (form.ReportedSend flags) t = send_rest t.actor t.other t.value
    (Some (event_of_parts kind.Send t.label t.serial t.actor (Some t.other) t.value))
    (token_of_parts flags t.label t.serial t.actor)
rest_in form.Print t = print_rest t.actor t.value
    (event_of_parts kind.Print t.label t.serial t.actor None t.value)
rest_in form.First t = receive_rest t.actor want.First t.label t.other t.value t.serial
rest_in form.From t = receive_rest t.actor (want.From t.other) t.label t.other t.value t.serial
rest_in form.Value t = receive_rest t.actor (want.Value t.value) t.label t.other t.value t.serial
rest_in form.Both t =
    receive_rest t.actor (want.Both t.other t.value) t.label t.other t.value t.serial

-- the entry, without its rank, that a short form stands for
abbrev pub traced_rest : TracedAct → Unranked
traced_rest t = rest_in t.form t

-- the filler for a place without an act under a token: any would do
abbrev pub no_traced : TracedAct
no_traced = record {
  form = form.Print;
  label = record { 0 = 0 };
  actor = pid_on 0 0;
  other = pid_on 0 0;
  value = 0;
  serial = record { prev = 0; this = 0 };
}
