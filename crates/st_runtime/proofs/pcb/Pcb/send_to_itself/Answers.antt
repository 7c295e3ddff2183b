-- The sender's part answered what it stamped, and the message that was put carries that token.
use Rattle.std.proofs.Common.{ap, ◌∙◌, arith, ◌++◌, ◌∷◌, [], refl}
use Rattle.st_core.specs.declared.types.Act.TheVariants.{Send}
use Rattle.st_core.proofs.ForCallers.{pid_eq-same}
use Rattle.st_runtime.proofs.LentLemmas.{alone_stepped}
use Rattle.st_runtime.proofs.LogLemmas.{IsNext}
use Rattle.st_runtime.proofs.SendLemmas.{IsSent, IsPut, mail, sent_entry, itself_part}
use Rattle.st_runtime.proofs.SendLemmas.{itself_inside}
use Rattle.st_runtime.proofs.pcb.Pcb.send_to_itself.Goals as goal

pub invariant_of-self-2 : goal.invariant_of-self-2
invariant_of-self-2 g c =
    let p = c.self.inside.pid in
    let v = c.args.value in
    let l = c.self.inside.local in
    let m = c.send.new.local in
    let told = c.in-Ok.told in
    let t = c.token-token.result in
    let boxes = c.self.inside.queue.boxes in
    let boxes' = c.put.new.self.boxes in
    let log = c.self.inside.log.entries in
    let n = c.in_ok-rank.rank in
    let sent : IsSent g.row.TOP p p v l m told t = record {
      acts = c.in-Ok.ensures.acted;
      token = c.token-token.ensures;
      fit = c.in-Ok.ensures.fit;
      stamped = c.in-Ok.ensures.stamped;
    } in
    let put : IsPut boxes boxes' (mail p v t) = record {
      one_box = c.self.invariant.one_box;
      put = c.in-Ok-put.ensures.ok;
    } in
    let rank = c.in_ok-rank.ensures.rank in
    let next : IsNext g.row.RANKS log n =
    record { above = omega (arith, rank.0); within = rank.1 } in
    rw (c.push_reserved.ensures.entries, c.in_ok-rank.ensures.entries)
    (itself_inside g.row.TOP g.row.RANKS p v l m boxes boxes' log n told t c.self.invariant sent put
    next)

pub returns-clause-step : goal.returns-clause-step
returns-clause-step g c =
    let p = c.self.inside.pid in
    let v = c.args.value in
    let l = c.self.inside.local in
    let m = c.send.new.local in
    let told = c.in-Ok.told in
    let t = c.token-token.result in
    let boxes = c.self.inside.queue.boxes in
    let boxes' = c.put.new.self.boxes in
    let n = c.in_ok-rank.rank in
    let sent : IsSent g.row.TOP p p v l m told t = record {
      acts = c.in-Ok.ensures.acted;
      token = c.token-token.ensures;
      fit = c.in-Ok.ensures.fit;
      stamped = c.in-Ok.ensures.stamped;
    } in
    let put : IsPut boxes boxes' (mail p v t) = record {
      one_box = c.self.invariant.one_box;
      put = c.in-Ok-put.ensures.ok;
    } in
    let e = sent_entry n p p v told t in
    rw (← c.self.view_is) (alone_stepped g.row.TOP g.row.RANKS (Send p p v) told.reply _ _ n
    (pid_eq-same p) refl
    c.in_ok-rank.ensures.rank.0 c.in_ok-rank.ensures.rank.1
    (record {
      entry = e;
      part = itself_part g.row.TOP p v l m boxes boxes' n told t sent put;
      act = refl;
      reply = refl;
      rank = c.in_ok-rank.ensures.rank.0;
      log = c.push_reserved.ensures.entries ∙ ap (λ xs. xs ++ e ∷ []) c.in_ok-rank.ensures.entries;
    }))
