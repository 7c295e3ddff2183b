-- Each event's link takes the place of what it was paired with before.
use Rattle.std.proofs.Common.{◌∙◌, get_or, sym}
use Rattle.st_pair.specs.Links.{link_of}
use Rattle.st_pair.specs.Pairing.{mismatch}
use Rattle.st_pair.specs.Tables.{link_back}
use Rattle.std.proofs.lemmas.Option.{slice_get-get_or}
use Rattle.st_pair.proofs.Firsts.{first_from-passed}
use Rattle.st_pair.proofs.BackLinks.{exchanged}
use Rattle.st_pair.proofs.Stamps.{blank}
use Rattle.st_pair.proofs.pairing.fill_in.Goals as goal

pub loop-i-preserved : goal.loop-i-preserved
loop-i-preserved c =
    let streams = c.args.streams.now in
    let es = c.args.events.now in
    let i = c.loop-i.i in
    let e = get_or es i blank in
    let at = slice_get-get_or es i blank c.loop-i-test.true in
    record {
      links = c.put.ensures ∙ exchanged (link_of streams c.args.pid) (link_back streams) es i e _
          c.loop-i.links at
          c.link_of-link.ensures c.loop-i.invariant.links;
      matched = first_from-passed (mismatch streams) c.args.pid i es e at
          (sym c.mismatch_at.ensures ∙ c.in_default.is) c.loop-i.invariant.matched;
    }
