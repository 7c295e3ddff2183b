-- The sender of each event is listed, so its lowest count is noted.
use Rattle.std.specs.Option.{option_map_or}
use Rattle.std.proofs.Common.{true}
use Rattle.std.proofs.lemmas.Bool.{and_parts}
use Rattle.st_core.specs.Streams.{lists}
use Rattle.lack_needs.proofs.unfounded_stamps.is_unfounded.Goals as goal
use Rattle.st_plan.proofs.ForCallers.{named}

pub is_behind_stamp-requires-clause-listed : goal.is_behind_stamp-requires-clause-listed
is_behind_stamp-requires-clause-listed c =
    let streams = c.args.streams.now in
    let e = c.args.event.now in
    (and_parts (lists streams e.from) (option_map_or (lists streams) e.to true)
    (named streams c.pids-pids.ensures.streams c.args.place.0 c.args.place.1 e c.requires.at)).0

pub is_behind_stamp-requires-then-is_hidden_source-clause-listed :
    goal.is_behind_stamp-requires-then-is_hidden_source-clause-listed
is_behind_stamp-requires-then-is_hidden_source-clause-listed c =
    let streams = c.args.streams.now in
    let e = c.args.event.now in
    (and_parts (lists streams e.from) (option_map_or (lists streams) e.to true)
    (named streams c.pids-pids.ensures.streams c.args.place.0 c.args.place.1 e c.requires.at)).0
