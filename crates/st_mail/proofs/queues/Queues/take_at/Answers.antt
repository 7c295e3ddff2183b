-- The finder follows its list, and the other lists and finders stay.
use Rattle.std.proofs.Common.{◌≡◌, ◌<◌, List, [], length, remove, refl, sym, ap, ◌∙◌, arith}
use Rattle.std.proofs.lemmas.List.{get_or-set_same}
use Rattle.st_core.specs.declared.types.Message.{Message}
use Rattle.st_mail.specs.Mail.{queue_in}
use Rattle.st_mail.proofs.Finders.{in_finders, finder_of, some_queue, written_found}
use Rattle.st_mail.proofs.queues.Queues.take_at.Goals as goal

pub index_mut-requires : goal.index_mut-requires
index_mut-requires c =
    let within =
    in_finders c.self.inside.finders.items c.self.inside.lists.lists c.self.invariant _
    (ap (λ a. a.lists) c.self.view_is)
    c.args.queue c.requires in
    omega (arith, within, c.self.inside.finders.ok.0)

pub remove-requires-clause-finder : goal.remove-requires-clause-finder
remove-requires-clause-finder c =
    some_queue c.index_mut.result.now _
    (finder_of c.self.inside.finders.items c.self.inside.lists.lists c.self.invariant _
    (ap (λ a. a.lists) c.self.view_is)
    c.args.queue c.requires c.index_mut.result.now (sym c.index_mut.ensures.value))

pub invariant_of-self-2 : goal.invariant_of-self-2
invariant_of-self-2 c =
    let stored = c.self.inside.lists.lists in
    let list = queue_in stored c.args.queue in
    let within : c.args.queue < length stored =
    omega (arith, c.requires, ap (λ a. length a.lists) c.self.view_is) in
    let finds =
    finder_of c.self.inside.finders.items stored c.self.invariant stored refl c.args.queue within
    c.index_mut.result.now (sym c.index_mut.ensures.value) in
    let taken = c.in_ok-message.ensures.taken in
    let there : queue_in c.take_at.new.self.lists c.args.queue ≡ remove list c.args.place =
    ap (λ (ls : List (List Message)). queue_in ls c.args.queue) taken
    ∙ get_or-set_same stored c.args.queue _ [] within in
    written_found c.self.inside.finders.items stored c.self.invariant stored refl c.args.queue
    within c.remove.new.self
    (remove list c.args.place) c.take_at.new.self.lists taken
    (c.remove.ensures list finds (sym c.in_ok-message.ensures.value) there)
