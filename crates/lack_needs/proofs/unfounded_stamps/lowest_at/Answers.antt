-- Each listed process has its lowest count at its place.
use Rattle.std.proofs.Common.{sym, ◌∙◌}
use Rattle.std.proofs.lemmas.Bool.{false≢true}
use Rattle.st_core.specs.Run.{pids_of}
use Rattle.st_core.proofs.ForCallers.{is_among-missing, lists_among}
use Rattle.lack_needs.proofs.unfounded_stamps.lowest_at.Goals as goal

pub unreachable-requires : goal.unreachable-requires
unreachable-requires c =
    let streams = c.args.streams.now in
    false≢true (sym (lists_among streams c.args.pid
    ∙ is_among-missing (pids_of streams) c.args.pid c.in_default.ensures.missing)
    ∙ c.requires.listed)
