-- The finder follows its list, and the other lists and finders stay.
use Rattle.std.proofs.Common.{◌≡◌, ◌<◌, List, [], ◌∷◌, ◌++◌, length, refl, sym, ap, ◌∙◌, arith}
use Rattle.std.proofs.lemmas.List.{get_or-set_same}
use Rattle.st_core.specs.declared.types.Message.{Message}
use Rattle.st_mail.specs.Mail.{queue_in}
use Rattle.st_mail.proofs.Finders.{in_finders, finder_of, some_queue, written_found}
use Rattle.st_mail.proofs.queues.Queues.push_reserved.Goals as goal

pub index_mut-requires : goal.index_mut-requires
index_mut-requires c =
    let within =
    in_finders c.self.inside.finders.items c.self.inside.lists.lists c.self.invariant _
    (ap (λ a. a.lists) c.self.view_is)
    c.args.queue c.requires.in_range in
    omega (arith, within, c.self.inside.finders.ok.0)

pub push-requires-clause-finder : goal.push-requires-clause-finder
push-requires-clause-finder c =
    some_queue c.index_mut.result.now _
    (finder_of c.self.inside.finders.items c.self.inside.lists.lists c.self.invariant _
    (ap (λ a. a.lists) c.self.view_is)
    c.args.queue c.requires.in_range c.index_mut.result.now (sym c.index_mut.ensures.value))

pub invariant_of-self : goal.invariant_of-self
invariant_of-self c =
    let stored = c.self.inside.lists.lists in
    let within : c.args.queue < length stored =
    omega (arith, c.requires.in_range, ap (λ a. length a.lists) c.self.view_is) in
    let finds =
    finder_of c.self.inside.finders.items stored c.self.invariant stored refl c.args.queue within
    c.index_mut.result.now (sym c.index_mut.ensures.value) in
    let there : queue_in c.push_reserved.new.self.lists c.args.queue
    ≡ queue_in stored c.args.queue ++ c.args.message ∷ [] =
    ap (λ (ls : List (List Message)). queue_in ls c.args.queue) c.push_reserved.ensures.pushed
    ∙ get_or-set_same stored c.args.queue _ [] within in
    written_found c.self.inside.finders.items stored c.self.invariant stored refl c.args.queue
    within c.push.new.self
    (queue_in stored c.args.queue ++ c.args.message ∷ []) c.push_reserved.new.self.lists
    c.push_reserved.ensures.pushed
    (c.push.ensures (queue_in stored c.args.queue) finds there)
