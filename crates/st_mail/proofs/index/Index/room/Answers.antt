-- No more slots were given out than the index has.
use Rattle.std.proofs.Common.{arith}
use Rattle.st_mail.proofs.IndexLemmas.{slots-len}
use Rattle.st_mail.proofs.index.Index.room.Goals as goal

pub overflow_sub-result : goal.overflow_sub-result
overflow_sub-result c =
    let within = slots-len c.args.self.now c.requires.is.slots c.requires.is.has_slots in
    omega (arith, within, c.requires.is.has_slots.used, c.len.ensures)
