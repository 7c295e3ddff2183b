-- Each item is put in where its key belongs, and no two items have the same key.
use Rattle.st_order.proofs.Insertion.{an_order}
use Rattle.st_order.proofs.laws.an_order.Goals as goal

pub returns : goal.returns
returns c = an_order
