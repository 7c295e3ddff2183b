-- The sender's part answered what it stamped, and the message that the receiver got carries that
-- token.
use Rattle.std.proofs.Common.{◌≡◌, false, ap, sym, ◌∙◌, arith, ◌++◌, ◌∷◌, [], refl}
use Rattle.st_core.specs.Pid.{pid_eq}
use Rattle.st_mail.specs.Actor.{process_of}
use Rattle.st_mail.specs.Mail.{queue_in}
use Rattle.st_runtime.specs.Pcb.{Control}
use Rattle.st_core.specs.declared.types.Act.TheVariants.{Send}
use Rattle.st_runtime.proofs.LentLemmas.{between_rank, between_steps, finds_step}
use Rattle.st_runtime.proofs.LogLemmas.{IsNext}
use Rattle.st_runtime.proofs.SendLemmas.{IsSent, IsPut, mail, sent_entry, sender_part}
use Rattle.st_runtime.proofs.SendLemmas.{sender_inside, receiver_part, receiver_inside}
use Rattle.st_runtime.proofs.StepLemmas.{apart_eq, stepped_between}
use Rattle.st_runtime.proofs.pcb.Pcb.send.Goals as goal

pub invariant_of-from-2 : goal.invariant_of-from-2
invariant_of-from-2 g c =
    let p = c.from.inside.pid in
    let q = c.to.inside.pid in
    let v = c.args.value in
    let l = c.from.inside.local in
    let m = c.send.new.local in
    let told = c.in-Ok.told in
    let t = c.token.result in
    let log = c.from.inside.log.entries in
    let n = c.in_ok-rank.rank in
    let pid : Control → _ = λ x. x.process.pid in
    let apart : pid_eq p q ≡ false =
    apart_eq p q (λ same. c.requires (sym (ap pid c.from.view_is) ∙ same ∙ ap pid c.to.view_is)) in
    let sent : IsSent g.row.TOP p q v l m told t = record {
      acts = c.in-Ok.ensures.acted;
      token = c.token.ensures;
      fit = c.in-Ok.ensures.fit;
      stamped = c.in-Ok.ensures.stamped;
    } in
    let rank = c.in_ok-rank.ensures.rank in
    let next : IsNext g.row.RANKS log n =
    record { above = omega (arith, rank.0); within = rank.1 } in
    rw (c.push_reserved.ensures.entries, c.in_ok-rank.ensures.a_entries)
    (sender_inside g.row.TOP g.row.RANKS p q v l m c.from.inside.queue.boxes log n told t
    c.from.invariant apart
    sent next)

pub invariant_of-to-2 : goal.invariant_of-to-2
invariant_of-to-2 g c =
    let p = c.from.inside.pid in
    let q = c.to.inside.pid in
    let v = c.args.value in
    let l = c.from.inside.local in
    let m = c.send.new.local in
    let told = c.in-Ok.told in
    let t = c.token.result in
    let boxes = c.to.inside.queue.boxes in
    let boxes' = c.put.new.self.boxes in
    let log = c.to.inside.log.entries in
    let n = c.in_ok-rank.rank in
    let pid : Control → _ = λ x. x.process.pid in
    let apart : pid_eq p q ≡ false =
    apart_eq p q (λ same. c.requires (sym (ap pid c.from.view_is) ∙ same ∙ ap pid c.to.view_is)) in
    let sent : IsSent g.row.TOP p q v l m told t = record {
      acts = c.in-Ok.ensures.acted;
      token = c.token.ensures;
      fit = c.in-Ok.ensures.fit;
      stamped = c.in-Ok.ensures.stamped;
    } in
    let put : IsPut boxes boxes' (mail p v t) = record {
      one_box = c.to.invariant.one_box;
      put = c.in-Ok-put.ensures.ok;
    } in
    let rank = c.in_ok-rank.ensures.rank in
    let next : IsNext g.row.RANKS log n =
    record { above = omega (arith, rank.0); within = rank.1 } in
    rw (c.push_reserved-2.ensures.entries, c.in_ok-rank.ensures.b_entries)
    (receiver_inside g.row.TOP g.row.RANKS p q v l m c.to.inside.local boxes boxes' log n told t
    c.to.invariant apart
    sent put next)

pub returns-clause-step : goal.returns-clause-step
returns-clause-step g c =
    let p = c.from.inside.pid in
    let q = c.to.inside.pid in
    let v = c.args.value in
    let l = c.from.inside.local in
    let m = c.send.new.local in
    let told = c.in-Ok.told in
    let t = c.token.result in
    let boxes = c.to.inside.queue.boxes in
    let boxes' = c.put.new.self.boxes in
    let n = c.in_ok-rank.rank in
    let e = sent_entry n p q v told t in
    let pid : Control → _ = λ x. x.process.pid in
    let apart : pid_eq p q ≡ false =
    apart_eq p q (λ same. c.requires (sym (ap pid c.from.view_is) ∙ same ∙ ap pid c.to.view_is)) in
    let sent : IsSent g.row.TOP p q v l m told t = record {
      acts = c.in-Ok.ensures.acted;
      token = c.token.ensures;
      fit = c.in-Ok.ensures.fit;
      stamped = c.in-Ok.ensures.stamped;
    } in
    let put : IsPut boxes boxes' (mail p v t) = record {
      one_box = c.to.invariant.one_box;
      put = c.in-Ok-put.ensures.ok;
    } in
    let rank = c.in_ok-rank.ensures.rank in
    let x : Control = record {
      process = process_of p l (queue_in c.from.inside.queue.boxes 0);
      log = c.from.inside.log.entries;
      spare = c.from.inside.log.spare;
    } in
    let y : Control = record {
      process = process_of q c.to.inside.local (queue_in boxes 0);
      log = c.to.inside.log.entries;
      spare = c.to.inside.log.spare;
    } in
    rw (← c.from.view_is, ← c.to.view_is) (
      finds_step g.row.TOP g.row.RANKS (Send p q v) (x ∷ y ∷ []) _ n
          (between_steps g.row.TOP x y v _ apart (sent.acts (queue_in c.from.inside.queue.boxes 0)))
          (between_rank x y)
          rank.0 rank.1,
      stepped_between g.row.TOP v _ _ _ _ e apart refl
          (sender_part g.row.TOP p q v l m (queue_in c.from.inside.queue.boxes 0) n told t apart
          sent)
          (receiver_part g.row.TOP p q v l m c.to.inside.local boxes boxes' n told t sent put)
          (record {
            rank = c.in_ok-rank.ensures.rank.0;
            from = c.push_reserved.ensures.entries
                ∙ ap (λ xs. xs ++ e ∷ []) c.in_ok-rank.ensures.a_entries;
            to = c.push_reserved-2.ensures.entries
                ∙ ap (λ xs. xs ++ e ∷ []) c.in_ok-rank.ensures.b_entries;
          }),
    )
