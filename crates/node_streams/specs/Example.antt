-- Two runs of two processes: one keeps to the premises of the laws, one leaves a send unreported.
use Rattle.std.specs.Prelude.{false, true, List, [], ◌∷◌, Some}
use Rattle.st_core.specs.declared.types.Pid.{Pid}
use Rattle.st_core.specs.declared.types.Token.{Token}
use Rattle.st_core.specs.declared.types.Kind.TheVariants as kind
use Rattle.st_core.specs.declared.types.Act.TheVariants as act
use Rattle.st_core.specs.declared.types.Want.TheVariants as want
use Rattle.st_core.specs.Report.{token_event}
use Rattle.st_core.specs.Run.{Stream}
use Rattle.node_machine.specs.Node.{Common, NodeAct}

abbrev pub client : Pid
client = record { node = 0; number = 1 }

abbrev pub server : Pid
server = record { node = 0; number = 2 }

-- a token of the client's with count 0, whose sends are reported
abbrev pub start_token : Token
start_token = record {
  label = record { 0 = 0 };
  flags = record { send = true; receive = true; print = false };
  serial = record { prev = 0; this = 0 };
  from = client;
}

-- the start token, but its sends aren't reported
abbrev pub quiet_token : Token
quiet_token = record start_token { flags = record start_token.flags { send = false } }

-- the start token after its first stamp
abbrev pub first_stamp : Token
first_stamp = record start_token { serial = record { prev = 0; this = 1 } }

-- The client sends the same message twice, since it puts its token back in between. A reset takes
-- the token of the second one away.
abbrev pub sends_twice : List NodeAct
sends_twice = Common (act.Tracer client true) ∷ Common (act.Restore client start_token)
    ∷ Common (act.Send client server 5) ∷ Common (act.Restore client start_token)
    ∷ Common (act.Send client server 5) ∷ Common (act.Receive server want.First)
    ∷ Common (act.Reset client) ∷ Common (act.Receive server want.First) ∷ []

-- the streams of `sends_twice`: both sends, and the receive of one
abbrev pub twice_streams : List Stream
twice_streams = record {
  pid = client;
  events = token_event kind.Send first_stamp (Some server) 5
      ∷ token_event kind.Send first_stamp (Some server) 5 ∷ [];
} ∷ record {
  pid = server;
  events = token_event kind.Receive first_stamp (Some server) 5 ∷ [];
} ∷ []

-- The client sends a message and doesn't report it. The server receives it and replies. Once the
-- client has the reply, it sends the message again, and reports it.
abbrev pub sends_unreported : List NodeAct
sends_unreported = Common (act.Tracer client true) ∷ Common (act.Restore client quiet_token)
    ∷ Common (act.Send client server 5) ∷ Common (act.Receive server want.First)
    ∷ Common (act.Restore server start_token) ∷ Common (act.Send server client 7)
    ∷ Common (act.Receive client want.First) ∷ Common (act.Restore client start_token)
    ∷ Common (act.Send client server 5) ∷ []

-- the token of the reply
abbrev pub reply_stamp : Token
reply_stamp = record first_stamp { from = server }

-- the streams of `sends_unreported`: the reported send seems to be that of the message that was
-- received long before
abbrev pub unreported_streams : List Stream
unreported_streams = record {
  pid = client;
  events = token_event kind.Receive reply_stamp (Some client) 7
      ∷ token_event kind.Send first_stamp (Some server) 5 ∷ [];
} ∷ record {
  pid = server;
  events = token_event kind.Receive first_stamp (Some server) 5
      ∷ token_event kind.Send reply_stamp (Some client) 7 ∷ [];
} ∷ []
