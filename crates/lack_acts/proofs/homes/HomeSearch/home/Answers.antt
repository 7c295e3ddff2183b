-- Neither search puts an event in.
use Rattle.std.proofs.Common.{◌∙◌}
use Rattle.lack_acts.proofs.homes.HomeSearch.home.Goals as goal

pub returns : goal.returns
returns c = c.in_ok-home.ensures.untold ∙ c.in_ok-found.ensures.untold
