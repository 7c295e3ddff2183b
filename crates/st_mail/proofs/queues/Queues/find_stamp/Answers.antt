-- Both the index and the walk search the list from `start` on.
use Rattle.std.proofs.Common.{◌≡◌, ◌+◌, rules, tests, option_map, position, drop, sym, ap, ◌∙◌}
use Rattle.std.proofs.lemmas.Iterator.Adapters.{YieldsList-from_skip}
use Rattle.std.proofs.lemmas.Iterator.Consumers.{YieldsList-from_first}
use Rattle.std.proofs.lemmas.Iterator.Search.{position_from_yields_List}
use Rattle.st_core.specs.declared.types.Message.{Message}
use Rattle.st_arena.specs.Arena.{list_at}
use Rattle.st_mail.specs.Mail.{bears_stamp}
use Rattle.st_mail.proofs.queues.Queues.find_stamp.Goals as goal

pub returns-in_err-place : goal.returns-in_err-place
returns-in_err-place c =
    let stamp = λ (m : Message). bears_stamp c.args.from c.args.this m.token in
    let start = c.args.start in
    let list = list_at c.self.inside.lists c.args.queue in
    let walked = YieldsList-from_first (λ m. m.now) (λ ms. ms) list
    (c.skip-kept.ensures.source ∙ c.walk.ensures) in
    let found : c.position.result ≡ position stamp (drop start list) =
    position_from_yields_List stamp _ _ c.position.result c.position.ensures.ran
    (YieldsList-from_skip start walked c.skip-kept.ensures.count)
    (λ m b q k. search (rules, tests)) in
    c.from_residual.ensures
    ∙ ap (option_map (λ k. start + k)) (sym (c.in_err-place.was) ∙ found)
    ∙ ap (λ a. option_map (λ k. start + k) (position stamp (drop start (list_at a c.args.queue))))
    c.self.view_is

pub returns : goal.returns
returns c =
    let stamp = λ (m : Message). bears_stamp c.args.from c.args.this m.token in
    let start = c.args.start in
    let list = list_at c.self.inside.lists c.args.queue in
    let walked = YieldsList-from_first (λ m. m.now) (λ ms. ms) list
    (c.skip-kept.ensures.source ∙ c.walk.ensures) in
    let found : c.position.result ≡ position stamp (drop start list) =
    position_from_yields_List stamp _ _ c.position.result c.position.ensures.ran
    (YieldsList-from_skip start walked c.skip-kept.ensures.count)
    (λ m b q k. search (rules, tests)) in
    ap (option_map (λ k. start + k)) (sym (c.in_ok-place.was) ∙ found)
    ∙ ap (λ a. option_map (λ k. start + k) (position stamp (drop start (list_at a c.args.queue))))
    c.self.view_is
