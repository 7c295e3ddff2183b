-- A receive and a send to the process itself are calls of their own, whose act is this one.
use Rattle.std.proofs.Common.{◌≡◌, [], ◌∷◌, sym, subst}
use Rattle.st_core.specs.declared.types.Act.{Act}
use Rattle.st_core.specs.declared.types.Act.TheVariants.{Receive, Send}
use Rattle.st_runtime.specs.Lent.{IsLentStep}
use Rattle.st_runtime.proofs.ActLemmas.{alone_receive, alone_send}
use Rattle.st_runtime.proofs.pcb.Pcb.alone.Goals as goal

pub returns-in-Send-clause-step : goal.returns-in-Send-clause-step
returns-in-Send-clause-step g c =
    let a = c.args.act.now in
    let x = c.args.self.now in
    let me = x.process.pid in
    let same : a ≡ Send me me c.in-Send.value =
    alone_send a c.in-Send.field-0 c.in-Send.field-1 me c.in-Send.value c.in-Send.is
    c.requires.alone c.requires.me in
    subst (λ (b : Act). IsLentStep g.row.TOP g.row.RANKS b (x ∷ []) (c.send_to_itself.new.self ∷ [])
    c.send_to_itself.result) (sym same) c.send_to_itself.ensures.step

pub returns-in-Receive-clause-step : goal.returns-in-Receive-clause-step
returns-in-Receive-clause-step g c =
    let a = c.args.act.now in
    let x = c.args.self.now in
    let same : a ≡ Receive x.process.pid c.in-Receive.want =
    alone_receive a c.in-Receive.field-0 x.process.pid c.in-Receive.want c.in-Receive.is
    c.requires.me in
    subst (λ (b : Act). IsLentStep g.row.TOP g.row.RANKS b (x ∷ []) (c.receive.new.self ∷ [])
    c.receive.result)
    (sym same) c.receive.ensures.step
