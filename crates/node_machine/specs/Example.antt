-- A run that keeps to all premises of the laws: a process prints twice, puts the first print's
-- token back, and prints again.
use Rattle.std.specs.Prelude.{◌-◌, ◌^◌, true, false, List, [], ◌∷◌, Some, None}
use Rattle.st_core.specs.declared.types.Pid.{Pid}
use Rattle.st_core.specs.declared.types.Serial.{Serial}
use Rattle.st_core.specs.declared.types.Token.{Token}
use Rattle.st_core.specs.declared.types.Component.TheVariants as component
use Rattle.st_core.specs.declared.types.Kind.TheVariants as kind
use Rattle.st_core.specs.declared.types.Event.{Event}
use Rattle.st_core.specs.declared.types.Act.TheVariants as act
use Rattle.st_core.specs.declared.types.Want.TheVariants as want
use Rattle.node_machine.specs.Node.{NodeAct, Common}
use Rattle.node_machine.specs.Origins.{Follows, Home, TokenOrigin}
use Rattle.node_machine.specs.ByMessages.{SendsTo}

abbrev pub printer : Pid
printer = record { node = 0; number = 1 }

-- the token of the first print
abbrev pub first_token : Token
first_token = record {
  label = record { 0 = 0 };
  flags = record { send = false; receive = false; print = true };
  serial = record { prev = 0; this = 1 };
  from = printer;
}

abbrev pub prints_again : List NodeAct
prints_again = Common (act.Tracer printer true) ∷ Common (act.Set printer (component.Print true))
    ∷ Common (act.Print printer 5) ∷ Common (act.Print printer 6)
    ∷ Common (act.Restore printer first_token)
    ∷ Common (act.Print printer 7) ∷ []

-- the printer's tokens are its own
abbrev pub all_home : List TokenOrigin
all_home = Home ∷ Home ∷ Home ∷ Home ∷ Home ∷ Home ∷ []

-- A run through the wrap: the sender puts back a token whose count is next to the greatest, and
-- sends twice to the printer, which prints after each receive.
abbrev pub sender : Pid
sender = record { node = 0; number = 2 }

-- the token that the sender puts back
abbrev pub greatest_token : Token
greatest_token = record {
  label = record { 0 = 0 };
  flags = record { send = false; receive = true; print = true };
  serial = record { prev = 0; this = 2 ^ 60 - 2 };
  from = sender;
}

abbrev pub wraps : List NodeAct
wraps = Common (act.Tracer printer true) ∷ Common (act.Restore sender greatest_token)
    ∷ Common (act.Send sender printer 5) ∷ Common (act.Receive printer want.First)
    ∷ Common (act.Print printer 6) ∷ Common (act.Send sender printer 7)
    ∷ Common (act.Receive printer want.First) ∷ Common (act.Print printer 8) ∷ []

-- the serials of the printer's events: after the greatest count comes 0, and the receive of 0
-- doesn't lower the printer's clock, which is above all counts by then
abbrev pub wrapped_serials : List Serial
wrapped_serials = record { prev = 0; this = 2 ^ 60 - 1 } ∷ record { prev = 2 ^ 60 - 1; this = 0 }
    ∷ record { prev = 0; this = 0 } ∷ record { prev = 0; this = 1 } ∷ []

-- A run whose receive isn't reported: the sender sends to the printer, which takes the message and
-- prints.
abbrev pub prints_what_came : List NodeAct
prints_what_came = Common (act.Tracer printer true)
    ∷ Common (act.Set sender (component.Send true)) ∷ Common (act.Set sender (component.Print true))
    ∷ Common (act.Send sender printer 5) ∷ Common (act.Receive printer want.First)
    ∷ Common (act.Print printer 6) ∷ []

-- the reported send
abbrev pub the_send : Event
the_send = record {
  label = record { 0 = 0 };
  kind = kind.Send;
  serial = record { prev = 0; this = 1 };
  from = sender;
  to = Some printer;
  value = 5;
}

abbrev pub the_sends : SendsTo
the_sends = record { gifts = the_send ∷ []; answers = [] }

-- the print
abbrev pub the_print : Event
the_print = record {
  label = record { 0 = 0 };
  kind = kind.Print;
  serial = record { prev = 1; this = 2 };
  from = printer;
  to = None;
  value = 6;
}

-- the printer's token comes with the message
abbrev pub all_come : List TokenOrigin
all_come = Home ∷ Home ∷ Home ∷ Home ∷ Follows 0 ∷ Follows 0 ∷ []

-- A run in which a send isn't reported: its message brings the printer its token, and that of the
-- other sender, which reports, waits.
abbrev pub other_sender : Pid
other_sender = record { node = 0; number = 3 }

abbrev pub three : List Pid
three = printer ∷ sender ∷ other_sender ∷ []

abbrev pub sends_silently : List NodeAct
sends_silently = Common (act.Tracer printer true)
    ∷ Common (act.Set sender (component.Print true)) ∷ Common (act.Send sender printer 5)
    ∷ Common (act.Set other_sender (component.Send true))
    ∷ Common (act.Send other_sender printer 7)
    ∷ Common (act.Receive printer want.First) ∷ Common (act.Print printer 6) ∷ []

abbrev pub other_send : Event
other_send = record the_send { from = other_sender; value = 7 }

-- both sends, and the reported one alone
abbrev pub both_sends : SendsTo
both_sends = record { gifts = other_send ∷ the_send ∷ []; answers = [] }

abbrev pub reported_sends : SendsTo
reported_sends = record { gifts = other_send ∷ []; answers = [] }

abbrev pub second_comes : List TokenOrigin
second_comes = Home ∷ Home ∷ Home ∷ Home ∷ Home ∷ Follows 1 ∷ Follows 1 ∷ []
