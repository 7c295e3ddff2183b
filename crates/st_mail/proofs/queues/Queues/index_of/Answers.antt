-- The finder of the queue has the index, so it is an index of the queue.
use Rattle.std.proofs.Common.{sym, ap, arith}
use Rattle.std.proofs.lemmas.Option.{IfSome_then}
use Rattle.st_mail.proofs.Finders.{in_finders, finder_of, some_index}
use Rattle.st_mail.proofs.queues.Queues.index_of.Goals as goal

pub index-requires : goal.index-requires
index-requires c =
    let within =
    in_finders c.self.inside.finders.items c.self.inside.lists.lists c.self.invariant _
    (ap (λ a. a.lists) c.self.view_is)
    c.args.queue c.requires in
    omega (arith, within, c.self.inside.finders.ok.0)

pub returns-clause-queue : goal.returns-clause-queue
returns-clause-queue c =
    IfSome_then c.index_by.result c.index_by.ensures.index (λ index is. is _
    (finder_of c.self.inside.finders.items c.self.inside.lists.lists c.self.invariant _
    (ap (λ a. a.lists) c.self.view_is)
    c.args.queue c.requires c.index.result.now (sym c.index.ensures)))

pub returns-clause-index : goal.returns-clause-index
returns-clause-index c =
    IfSome_then c.index_by.result (returns-clause-queue c) (λ index is. some_index index.now _ is)
