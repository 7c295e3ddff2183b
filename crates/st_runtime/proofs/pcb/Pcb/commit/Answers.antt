-- The entry of a reset or a tracer change is legal for each process of the node by the machine's
-- change of it.
use Rattle.std.proofs.Common.{◌≡◌, ◌-◌, sym, ap, subst, arith}
use Rattle.st_core.specs.State.{Process}
use Rattle.st_core.specs.Step.{reached}
use Rattle.st_mail.specs.Actor.{process_of}
use Rattle.st_mail.specs.Mail.{queue_in}
use Rattle.std.specs.Prelude.{None}
use Rattle.st_log.specs.Entries.{last_rank}
use Rattle.st_runtime.specs.Logs.{IsPart}
use Rattle.st_runtime.specs.Pcb.{Control}
use Rattle.st_runtime.proofs.LogLemmas.{IsNext, inside_push}
use Rattle.st_runtime.proofs.PartLemmas.{wide_part, wide_entry}
use Rattle.st_runtime.proofs.pcb.Pcb.commit.Goals as goal

pub invariant_of-self : goal.invariant_of-self
invariant_of-self g c =
    let p = c.self.inside.pid in
    let l = c.self.inside.local in
    let boxes = c.self.inside.queue.boxes in
    let log = c.self.inside.log.entries in
    let m = c.reach.new.local in
    let boxes' = c.reach.new.queue.boxes in
    let e = c.args.entry.now in
    let r : Process = process_of p l (queue_in boxes 0) in
    let plain = wide_entry e.rank e.act e.reply in
    let after = reached e.act None r in
    let view = c.self.view_is in
    let asked = c.requires.entry in
    let told = wide_part g.row.TOP c.args.self.now.process e.rank e.act e.reply asked.wide
    asked.node asked.reply in
    let inside : IsPart g.row.TOP r plain after =
    subst (λ y. IsPart g.row.TOP y plain (reached e.act None y))
    (ap (λ (x : Control). x.process) (sym view)) told in
    let bare : plain ≡ e = λ i. record {
      rank = e.rank;
      act = e.act;
      reply = e.reply;
      report = sym c.requires.entry.report i;
      carried = sym c.requires.entry.carried i;
    } in
    let part : IsPart g.row.TOP r e (process_of p m (queue_in boxes' 0)) =
    subst (λ y. IsPart g.row.TOP r e y) (sym c.reach.ensures.reached)
    (subst (λ d. IsPart g.row.TOP r d after) bare inside) in
    let next : IsNext g.row.RANKS log e.rank = record {
      above = rw (ap (λ (x : Control). last_rank 0 x.log) view) c.requires.entry.above;
      within = c.requires.entry.within;
    } in
    rw c.push_reserved.ensures.entries
    (inside_push g.row.TOP g.row.RANKS p l boxes log e m boxes' c.self.invariant
    c.reach.ensures.one_box
    c.reach.ensures.fit part next)

pub returns : goal.returns
returns g c =
    let spare : c.push_reserved.new.self.spare ≡ c.self.inside.log.spare - 1 =
    omega (arith, c.push_reserved.ensures.spare) in
    rw (← c.self.view_is) (λ i. record {
      process = c.reach.ensures.reached i;
      log = c.push_reserved.ensures.entries i;
      spare = spare i;
    })
