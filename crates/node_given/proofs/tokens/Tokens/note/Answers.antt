-- Both tables get the serial.
use Rattle.node_given.proofs.TableLemmas.{noted}
use Rattle.node_given.proofs.tokens.Tokens.note.Goals as goal

pub returns : goal.returns
returns c = λ xs are. noted xs c.args.prev c.args.this c.args.self.now
    (record { serials = c.insert.new.self; prevs = c.insert-2.new.self }) are
    c.in_ok-insert.ensures.updates.0 c.in-Ok.ensures.updates.0
