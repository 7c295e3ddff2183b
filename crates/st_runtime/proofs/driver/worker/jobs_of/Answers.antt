-- Each job was made of a pid and its script, and all are there.
use Rattle.std.proofs.Common.{◌∙◌, ap}
use Rattle.std.proofs.lemmas.Iterator.{YieldsList-from_zip, YieldsList-from_slice}
use Rattle.std.proofs.lemmas.Iterator.Adapters.{YieldsList-from_vec}
use Rattle.std.proofs.lemmas.Iterator.Consumers.{YieldsList-end}
use Rattle.std.specs.Iterator.Adapters.{zip_first, zip_second}
use Rattle.std.specs.Slice.Iter.{iter_rest}
use Rattle.st_runtime.proofs.driver.worker.jobs_of.Goals as goal

pub returns : goal.returns
returns c =
    let pairs = c.into_iter-pid-iterator.result in
    let scripts = c.args.scripts.items in
    let same = c.into_iter-pid-iterator.ensures.into_iter_gives in
    let first = ap (λ s. zip_first s) same ∙ c.zip-pid-items.ensures.first in
    let second = ap (λ s. zip_second s) same in
    let made = c.zip-pid-items.ensures.second in
    let all = YieldsList-end
    (YieldsList-from_zip
    (YieldsList-from_slice {s = zip_first pairs} c.args.pids.now
    (ap iter_rest first ∙ c.iter.ensures.rest))
    (YieldsList-from_vec {s = zip_second pairs} scripts
    (ap (λ it. it.rest.items) second ∙ made.0)
    (ap (λ it. it.rest.len) second ∙ made.1 ∙ c.args.scripts.ok.0)))
    c.loop-pid.yielded c.loop-pid.pid-iterator c.loop-pid.yielded_by c.next.result c.next.new.self
    c.in-None.is c.next.ensures.steps in
    c.loop-pid.invariant ∙ all.0
