-- The entry is legal by what the actor's part answered for whatever lies in the queue.
use Rattle.std.proofs.Common.{◌≡◌, sym, ap, ◌∙◌, arith, ◌++◌, ◌∷◌, [], refl, None}
use Rattle.st_core.specs.Step.{actor}
use Rattle.st_mail.specs.Actor.{process_of}
use Rattle.st_mail.specs.Mail.{queue_in}
use Rattle.st_runtime.specs.Pcb.{Control}
use Rattle.st_runtime.proofs.LentLemmas.{alone_stepped, inner_alone}
use Rattle.st_runtime.proofs.LogLemmas.{IsNext, inside_push}
use Rattle.st_runtime.proofs.PartLemmas.{own_is_part, inner_part, entry_of}
use Rattle.st_runtime.proofs.pcb.Pcb.inner.Goals as goal

pub invariant_of-self-2 : goal.invariant_of-self-2
invariant_of-self-2 g c =
    let p = c.self.inside.pid in
    let l = c.self.inside.local in
    let boxes = c.self.inside.queue.boxes in
    let queue = queue_in boxes 0 in
    let log = c.self.inside.log.entries in
    let m = c.inner.new.local in
    let a = c.args.act.now in
    let told = c.in-Ok.told in
    let n = c.in_ok-rank.rank in
    let e = entry_of n a told None in
    let mine : actor a ≡ p =
    c.requires.me ∙ ap (λ (x : Control). x.process.pid) (sym c.self.view_is) in
    let rank = c.in_ok-rank.ensures.rank in
    let next : IsNext g.row.RANKS log n =
    record { above = omega (arith, rank.0); within = rank.1 } in
    let own = inner_part g.row.TOP a p l m queue n told c.requires.inner mine
    (c.in-Ok.ensures.acted queue) in
    let part = own_is_part g.row.TOP (process_of p l queue) e (process_of p m queue) mine own in
    rw (c.push_reserved.ensures.entries, c.in_ok-rank.ensures.entries)
    (inside_push g.row.TOP g.row.RANKS p l boxes log e m boxes c.self.invariant
    c.self.invariant.one_box
    c.self.invariant.fit part next)

pub returns-clause-step : goal.returns-clause-step
returns-clause-step g c =
    let p = c.self.inside.pid in
    let queue = queue_in c.self.inside.queue.boxes 0 in
    let a = c.args.act.now in
    let n = c.in_ok-rank.rank in
    let e = entry_of n a c.in-Ok.told None in
    let mine : actor a ≡ p =
    c.requires.me ∙ ap (λ (x : Control). x.process.pid) (sym c.self.view_is) in
    rw (← c.self.view_is) (alone_stepped g.row.TOP g.row.RANKS a c.in-Ok.told.reply _ _ n
    (inner_alone a c.requires.inner) mine c.in_ok-rank.ensures.rank.0 c.in_ok-rank.ensures.rank.1
    (record {
      entry = e;
      part = inner_part g.row.TOP a p c.self.inside.local c.inner.new.local queue n c.in-Ok.told
          c.requires.inner mine
          (c.in-Ok.ensures.acted queue);
      act = refl;
      reply = refl;
      rank = c.in_ok-rank.ensures.rank.0;
      log = c.push_reserved.ensures.entries ∙ ap (λ xs. xs ++ e ∷ []) c.in_ok-rank.ensures.entries;
    }))
