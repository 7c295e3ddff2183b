-- The workers had the scripts as their jobs, so what they gave back is what the record and the
-- refusals tell of.
use Rattle.std.proofs.Common.{◌≡◌, ◌≤◌, ◌∙◌, length, sym, ap, subst, arith, List}
use Rattle.std.proofs.lemmas.List.{length-map}
use Rattle.st_core.specs.declared.types.Act.{Act}
use Rattle.st_runtime.specs.Driven.{acts_in, stamps_in}
use Rattle.st_runtime.specs.Joining.{IsScripted}
use Rattle.st_runtime.specs.Pcb.{Control}
use Rattle.st_runtime.specs.Working.{IsFirstRefusal}
use Rattle.st_runtime.proofs.Driving.{jobs_worked, scripts_back, driven, is_possible}
use Rattle.st_runtime.proofs.Driving.{worker_fault}
use Rattle.st_runtime.proofs.driver.drive_on.Goals as goal

pub join_driven-requires-after_bounds : goal.join_driven-requires-after_bounds
join_driven-requires-after_bounds g c κs within =
    let pids = c.args.pids.now in
    let scripts = c.args.scripts.items in
    let ends = c.in_ok-ends.ends.items in
    let opened = c.in_ok-system.ensures in
    let worked = jobs_worked pids c.in_ok-system.system scripts c.in_ok-jobs.jobs.items ends
    opened.system c.in_ok-jobs.ensures c.in_ok-ends.ensures.ok in
    let even : length scripts ≡ length pids = sym c.args.scripts.ok.0 ∙ c.requires in
    let back = c.in_ok-scripts.ensures ∙ scripts_back pids scripts ends even worked in
    let xs = c.in-Ok.processes.items in
    let many = length-map xs (λ (x : Control). x.process.pid) in
    let of = ap length (c.in-Ok.ensures.processes ∙ opened.system) in (
      omega arith,
      (
        c.in-Ok.ensures.rising,
        omega (
          arith,
          ap length back,
          even,
          many,
          of,
          c.in_ok-scripts.scripts.ok.0,
          c.in-Ok.processes.ok.0,
        ),
      ),
    )

pub returns-in-Some-clause-err : goal.returns-in-Some-clause-err
returns-in-Some-clause-err g c =
    let top = g.row.TOP in
    let ranks = g.row.RANKS in
    let pids = c.args.pids.now in
    let scripts = c.args.scripts.items in
    let ends = c.in_ok-ends.ends.items in
    let opened = c.in_ok-system.ensures in
    let worked = jobs_worked pids c.in_ok-system.system scripts c.in_ok-jobs.jobs.items ends
    opened.system c.in_ok-jobs.ensures c.in_ok-ends.ensures.ok in
    let acts : c.acts_in-acts.result ≤ acts_in scripts =
    rw (← c.as_slice.ensures.value) c.acts_in-acts.ensures in
    let stamps : c.stamps_in-stamps.result ≤ stamps_in scripts =
    rw (← c.as_slice-2.ensures.value) c.stamps_in-stamps.ensures in
    let p = c.in-Some.pid in
    let n = c.in-Some.n in
    let first : IsFirstRefusal ends p n c.in-Some.fault =
    rw (← c.as_slice-5.ensures.value) c.in-Some.ensures in
    let told = c.possible-told.ensures in
    let possible = is_possible top ranks scripts c.possible-told.result c.acts_in-acts.result
    c.stamps_in-stamps.result told.memory told.clock told.rank acts stamps in (
      opened.rising,
      worker_fault top ranks pids scripts ends p n c.in-Some.fault c.possible-told.result worked
          first
          (λ script. told.refused pids p script n) possible,
    )

pub returns-clause-ok : goal.returns-clause-ok
returns-clause-ok g c =
    let top = g.row.TOP in
    let ranks = g.row.RANKS in
    let pids = c.args.pids.now in
    let scripts = c.args.scripts.items in
    let ends = c.in_ok-ends.ends.items in
    let opened = c.in_ok-system.ensures in
    let worked = jobs_worked pids c.in_ok-system.system scripts c.in_ok-jobs.jobs.items ends
    opened.system c.in_ok-jobs.ensures c.in_ok-ends.ensures.ok in
    let back = c.in_ok-scripts.ensures
    ∙ scripts_back pids scripts ends (sym c.args.scripts.ok.0 ∙ c.requires) worked in
    let xs = c.in-Ok.processes.items in
    let r = c.in_ok-join_driven.field-0 in
    driven top ranks xs r pids scripts opened.rising (c.in-Ok.ensures.processes ∙ opened.system)
    (subst (λ (ss : List (List Act)). IsScripted top ranks xs ss r) back
    c.in_ok-join_driven.ensures)
