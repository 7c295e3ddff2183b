-- The brief form says the call itself, or the place of the call, which was just appended.
use Rattle.std.proofs.Common.{◌≡◌, ◌<◌, ◌+◌, ◌-◌, ◌∙◌, ap, ◌++◌, ◌∷◌, [], sym, subst, arith}
use Rattle.st_core.specs.declared.types.Act.{Act}
use Rattle.st_core.specs.declared.types.Reply.{Reply}
use Rattle.st_log.specs.CallList.{CallList}
use Rattle.st_log.proofs.CallLemmas.{calls_pushed, calls_kept}
use Rattle.st_log.proofs.calls.CallLog.push_reserved.Goals as goal

pub invariant_of-self : goal.invariant_of-self
invariant_of-self c =
    let inside = c.self.inside in
    let kept = c.keep_call-brief in
    let spare : 0 < inside.reserved =
    subst (λ n. 0 < n) (ap (λ (log : CallList). log.spare) (sym c.self.view_is))
    c.requires in
    let fewer : inside.reserved ≡ (inside.reserved - 1) + 1 = omega (arith, spare) in
    rw (c.push_reserved.ensures.capacity, kept.ensures.capacity)
    (calls_kept inside.briefs.items c.push_reserved.new.self.items inside.whole.items
    kept.new.whole.items kept.result
    (c.args.act.now, c.args.reply.now) _ _ inside.reserved (inside.reserved - 1) c.self.invariant
    kept.ensures.whole
    kept.ensures.placed c.push_reserved.ensures.items fewer)

pub returns-clause-calls : goal.returns-clause-calls
returns-clause-calls c =
    let inside = c.self.inside in
    let kept = c.keep_call-brief in
    let call : Act × Reply = (c.args.act.now, c.args.reply.now) in
    calls_pushed inside.briefs.items c.push_reserved.new.self.items inside.whole.items
    kept.new.whole.items kept.result
    call c.self.invariant.placed kept.ensures.whole kept.ensures.says c.push_reserved.ensures.items
    ∙ ap (λ (log : CallList). log.calls ++ call ∷ []) c.self.view_is
