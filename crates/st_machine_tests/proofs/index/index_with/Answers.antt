-- An index that takes a message is an index of the queue with the message at its end.
use Rattle.std.proofs.Common.{[], ◌∷◌, ◌++◌}
use Rattle.st_machine_tests.proofs.index.index_with.Goals as goal

pub returns-clause-index : goal.returns-clause-index
returns-clause-index c =
    record {
      queue = c.requires.index.queue ++ c.args.message.now ∷ [];
      is = c.in_ok-push.ensures.pushed c.requires.index.queue c.requires.index.is;
    }
