-- A receive's entry names it, and a stamp's has the origins that are allowed.
use Rattle.std.proofs.Common.{ap}
use Rattle.st_core.specs.declared.types.Kind.{Kind}
use Rattle.st_core.specs.declared.types.Kind.TheVariants as kind
use Rattle.st_core.specs.Event.{kind_eq}
use Rattle.node_origins.proofs.Summaries.{stamp_entry}
use Rattle.node_origins.proofs.TokenTables.{not_receive}
use Rattle.node_origins.proofs.walk.event_origins.Goals as goal

pub stamp_origins-requires : goal.stamp_origins-requires
stamp_origins-requires c = record {
  fit = c.requires.fit;
  at = c.requires.at;
  stamps = not_receive c.args.event.kind c.in-Send.is;
  given = c.requires.given;
  all = c.requires.all;
  entries = c.requires.entries;
  firsts = c.requires.firsts;
  successors = c.requires.successors;
}

pub returns-in-Receive : goal.returns-in-Receive
returns-in-Receive c = ap (λ (k : Kind). kind_eq k kind.Receive) c.in-Receive.is

pub returns-in-Send : goal.returns-in-Send
returns-in-Send c =
    stamp_entry c.args.events.now c.args.index c.args.event
    (not_receive c.args.event.kind c.in-Send.is) c.stamp_origins.result c.stamp_origins.ensures
