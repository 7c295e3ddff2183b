-- A receive's entry is legal by what the actor's part answered.
use Rattle.std.proofs.Common.{ap, ◌∙◌, arith, ◌++◌, ◌∷◌, [], refl, None}
use Rattle.st_core.specs.declared.types.Act.TheVariants.{Receive}
use Rattle.st_mail.specs.Actor.{process_of}
use Rattle.st_mail.specs.Mail.{queue_in}
use Rattle.st_runtime.proofs.LentLemmas.{alone_stepped}
use Rattle.st_runtime.proofs.LogLemmas.{IsNext, inside_push}
use Rattle.st_runtime.proofs.PartLemmas.{own_is_part, receive_part, entry_of}
use Rattle.st_runtime.proofs.pcb.Pcb.receive.Goals as goal

pub invariant_of-self-2 : goal.invariant_of-self-2
invariant_of-self-2 g c =
    let p = c.self.inside.pid in
    let l = c.self.inside.local in
    let boxes = c.self.inside.queue.boxes in
    let log = c.self.inside.log.entries in
    let one = c.receive_one-told in
    let m = one.new.local in
    let boxes' = one.new.queue.boxes in
    let n = c.in_ok-rank.rank in
    let e = entry_of n (Receive p c.args.want.now) one.result None in
    let rank = c.in_ok-rank.ensures.rank in
    let next : IsNext g.row.RANKS log n =
    record { above = omega (arith, rank.0); within = rank.1 } in
    let own = receive_part g.row.TOP p c.args.want.now l m (queue_in boxes 0) (queue_in boxes' 0) n
    one.result
    one.ensures.acted in
    let before = process_of p l (queue_in boxes 0) in
    let part = own_is_part g.row.TOP before e (process_of p m (queue_in boxes' 0)) refl own in
    rw (c.push_reserved.ensures.entries, c.in_ok-rank.ensures.entries)
    (inside_push g.row.TOP g.row.RANKS p l boxes log e m boxes' c.self.invariant one.ensures.one_box
    one.ensures.fit
    part next)

pub returns-clause-step : goal.returns-clause-step
returns-clause-step g c =
    let p = c.self.inside.pid in
    let l = c.self.inside.local in
    let boxes = c.self.inside.queue.boxes in
    let one = c.receive_one-told in
    let n = c.in_ok-rank.rank in
    let e = entry_of n (Receive p c.args.want.now) one.result None in
    rw (← c.self.view_is) (alone_stepped g.row.TOP g.row.RANKS (Receive p c.args.want.now)
    one.result.reply _ _ n refl
    refl c.in_ok-rank.ensures.rank.0 c.in_ok-rank.ensures.rank.1
    (record {
      entry = e;
      part = receive_part g.row.TOP p c.args.want.now l one.new.local (queue_in boxes 0)
          (queue_in one.new.queue.boxes 0) n one.result one.ensures.acted;
      act = refl;
      reply = refl;
      rank = c.in_ok-rank.ensures.rank.0;
      log = c.push_reserved.ensures.entries ∙ ap (λ xs. xs ++ e ∷ []) c.in_ok-rank.ensures.entries;
    }))
