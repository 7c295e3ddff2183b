-- The first place that is found is the least, and no place is found only if no event is unfounded.
use Rattle.std.proofs.Common.{sym, ◌∙◌}
use Rattle.std.proofs.lemmas.Bool.{false≢true}
use Rattle.lack_needs.specs.Unfounded.{is_unfounded}
use Rattle.lack_needs.proofs.Flawed.{holds_of_none, least_there}
use Rattle.lack_needs.proofs.ZeroBehind.{least_unfounded, unfounded_found}
use Rattle.lack_needs.proofs.unfounded_stamps.find_unfounded.Goals as goal

pub returns-in-None-clause-none : goal.returns-in-None-clause-none
returns-in-None-clause-none c = λ p i holds.
    let streams = c.args.streams.now in
    let h = unfounded_found streams c.pids-pids.ensures.streams.draft.rising p i holds in
    false≢true (sym (holds_of_none (is_unfounded streams) streams (sym c.in-None.ensures) p i
    h.event h.at)
    ∙ h.holds)

pub returns-clause-some : goal.returns-clause-some
returns-clause-some c =
    let streams = c.args.streams.now in
    let rising = c.pids-pids.ensures.streams.draft.rising in
    least_unfounded streams rising _ _ (least_there (is_unfounded streams) streams _ _ rising
    (sym c.in-Some.ensures))
