-- Each worker that is started promises what becomes of its job, and all jobs were given to one.
use Rattle.std.proofs.Common.{◌∙◌, sym, ap, arith}
use Rattle.std.proofs.lemmas.Iterator.Adapters.{YieldsList-from_vec}
use Rattle.std.proofs.lemmas.Iterator.Consumers.{YieldsList-end}
use Rattle.std.proofs.lemmas.List.{map-id}
use Rattle.std.proofs.lemmas.Slice.Zip.{all_zipped_more}
use Rattle.st_runtime.proofs.Workers.{all_left, ended_worked}
use Rattle.st_runtime.proofs.driver.worker.fn.work_all.scope.Goals as goal

pub loop-job-preserved : goal.loop-job-preserved
loop-job-preserved g c =
    let promised = c.in-Ok-spawn_scoped_with.ensures.ok in
    let job = ap (λ p. p.job.value) promised ∙ c.of-in-loop-job.ensures in
    let system = ap (λ p. p.system.value) promised ∙ c.of.ensures in
    rw c.in-Ok-push.ensures.items
    (all_zipped_more _ _ _ _ c.in-Ok-spawn_scoped_with.worker c.loop-job.invariant (job, system))

pub returns-in-Ok-join_promised : goal.returns-in-Ok-join_promised
returns-in-Ok-join_promised g c =
    let jobs = c.captures.jobs.items in
    let workers = c.loop-job.workers in
    let left = c.in-Ok-join_promised.left in
    let joined = c.in-Ok-join_promised.ensures in
    let began = c.into_iter-job-iterator.ensures.into_iter_gives in
    let all = YieldsList-end
    (YieldsList-from_vec {s = c.into_iter-job-iterator.result} jobs began.0 (omega arith))
    c.loop-job.yielded c.loop-job.job-iterator c.loop-job.yielded_by c.next.result c.next.new.self
    c.in-None.is c.next.ensures.steps in
    let given = sym (map-id c.loop-job.yielded) ∙ all.0 in
    let of_jobs = all_left (λ h. h.promise.system.value) (λ h. h.promise.job.value)
    c.captures.system.now
    workers.items jobs left.items (sym left.ok.0 ∙ joined.len ∙ workers.ok.0)
    (rw (← given) c.loop-job.invariant)
    (λ i d below. let k = (joined.each i d (omega arith)).1 in (k.handle, k.handle_is, k.kept)) in
    record {
      ok = ended_worked c.captures.system.now jobs left.items (λ v. v.items) c.all_ended.result
          of_jobs
          c.all_ended.ensures.ok;
      err = c.all_ended.ensures.err;
    }
