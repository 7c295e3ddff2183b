-- The table has the two digits of each number.
use Rattle.st_text.proofs.Decimals.{pair_at}
use Rattle.st_text.proofs.spell.put_pair.Goals as goal

pub returns-clause-items : goal.returns-clause-items
returns-clause-items c =
    let p = pair_at c.args.pair c.requires.below in
    rw (c.put_bytes.ensures.items, p.0, p.1)
