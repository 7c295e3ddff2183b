-- The stamp that gets the message changes in nothing else.
use Rattle.std.proofs.Common.{refl}
use Rattle.lack_search.specs.declared.asks.GivenMessage.TheVariants as given
use Rattle.lack_search.proofs.Lists.{message_given}
use Rattle.lack_search.proofs.inventions.give.Goals as goal

pub returns-clause-stamps : goal.returns-clause-stamps
returns-clause-stamps c =
    message_given c.args.fed.now _ c.args.turn.ask (given.Invented c.args.sender 0) refl
