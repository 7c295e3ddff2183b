-- Reading takes from the front what spelling puts there, part by part.
use Rattle.st_text.proofs.LineLemmas.{line_takes, line_is}
use Rattle.st_text.proofs.laws.line_is_read_as_spelled.Goals as goal

pub returns : goal.returns
returns c = record { read = line_takes; spelled = line_is }
