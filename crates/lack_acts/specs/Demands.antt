-- The demands of a stamp on its token, and the act that makes the token meet them: it sets a
-- component, or restores a token if several are wrong.
use Rattle.std.specs.Prelude.{◌==◌, ◌&&◌, ◌||◌, Bool, true, false, not, Option, Some, None, is_none}
use Rattle.std.specs.Prelude.{if◌then◌else◌, unwrap_or}
use Rattle.st_core.specs.declared.types.Pid.{Pid}
use Rattle.st_core.specs.declared.types.Label.{Label}
use Rattle.st_core.specs.declared.types.Flags.{Flags}
use Rattle.st_core.specs.declared.types.Token.{Token}
use Rattle.st_core.specs.declared.types.Component.{Component}
use Rattle.st_core.specs.declared.types.Component.TheVariants as component
use Rattle.st_core.specs.declared.types.Act.{Act}
use Rattle.st_core.specs.declared.types.Act.TheVariants as act
use Rattle.st_core.specs.Local.{with_component}
use Rattle.st_plan.specs.Build.{bool_eq}
use Rattle.lack_acts.specs.declared.demands.TokenDemand.{TokenDemand}

-- the flag is as demanded
abbrev pub is_right : Option Bool → Bool → Bool
is_right None flag = true
is_right (Some value) flag = bool_eq value flag

-- a print demands its flag, and its label if it is told
abbrev pub print_demand : Label → Bool → TokenDemand
print_demand n told = record {
  label = n;
  is_label_told = told;
  send = None;
  receive = None;
  print = Some told;
}

-- a send demands its flag, the flag of its receive if there is one, and its label if either is
-- told
abbrev pub send_demand : Label → Bool → Option Bool → TokenDemand
send_demand n told receipt = record {
  label = n;
  is_label_told = told || unwrap_or receipt false;
  send = Some told;
  receive = receipt;
  print = None;
}

-- the first component that keeps the token from meeting the demand
abbrev pub change : TokenDemand → Token → Option Component
change d t =
    if d.is_label_told && not (t.label.0 == d.label.0) then Some (component.Label d.label)
    else (if not (is_right d.send t.flags.send) then Some (component.Send (not t.flags.send))
    else (if not (is_right d.receive t.flags.receive)
    then Some (component.Receive (not t.flags.receive))
    else (if not (is_right d.print t.flags.print) then Some (component.Print (not t.flags.print))
    else None)))

-- the token of p that is restored, with the usual flags if the demand leaves them free
abbrev pub demanded_token : TokenDemand → Pid → Flags → Token
demanded_token d p usual = record {
  label = d.label;
  flags = record {
    send = unwrap_or d.send usual.send;
    receive = unwrap_or d.receive usual.receive;
    print = unwrap_or d.print usual.print;
  };
  serial = record { prev = 0; this = 0 };
  from = p;
}

abbrev pub has_flag : Token → Bool
has_flag t = t.flags.send || (t.flags.receive || t.flags.print)

-- the act that changes a wrong component: a set if that is enough and the token has a flag, else a
-- restore
abbrev pub act_for : Pid → Token → TokenDemand → Flags → Option Component → Option Act
act_for p t d usual None = None
act_for p t d usual (Some c) =
    if has_flag t && is_none (change d (with_component c t)) then Some (act.Set p c)
    else Some (act.Restore p (demanded_token d p usual))

-- the act after which p's token meets the demand; none if it does already
abbrev pub change_act : Pid → Option Token → TokenDemand → Flags → Option Act
change_act p None d usual = Some (act.Restore p (demanded_token d p usual))
change_act p (Some t) d usual = act_for p t d usual (change d t)
