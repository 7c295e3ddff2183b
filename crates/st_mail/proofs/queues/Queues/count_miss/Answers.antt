-- The lists stay, and the queue's new finder still finds its messages.
use Rattle.std.proofs.Common.{◌<◌, length, refl, sym, ap, arith}
use Rattle.st_mail.proofs.Finders.{in_finders, finder_of, kept_found}
use Rattle.st_mail.proofs.queues.Queues.count_miss.Goals as goal

pub index_mut-requires : goal.index_mut-requires
index_mut-requires c =
    let within =
    in_finders c.self.inside.finders.items c.self.inside.lists.lists c.self.invariant _
    (ap (λ a. a.lists) c.self.view_is)
    c.args.queue c.requires in
    omega (arith, within, c.self.inside.finders.ok.0)

pub invariant_of-self : goal.invariant_of-self
invariant_of-self c =
    let stored = c.self.inside.lists.lists in
    let within : c.args.queue < length stored =
    omega (arith, c.requires, ap (λ a. length a.lists) c.self.view_is) in
    let finds =
    finder_of c.self.inside.finders.items stored c.self.invariant stored refl c.args.queue within
    c.index_mut.result.now (sym c.index_mut.ensures.value) in
    kept_found c.self.inside.finders.items stored c.self.invariant c.args.queue
    c.count_walk.new.self
    (c.count_walk.ensures finds)
