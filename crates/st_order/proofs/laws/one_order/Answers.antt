-- Two rising lists with the same items both begin with the least item, and so do their rests.
use Rattle.st_order.proofs.OneOrder.{one_order}
use Rattle.st_order.proofs.laws.one_order.Goals as goal

pub returns : goal.returns
returns c = one_order
