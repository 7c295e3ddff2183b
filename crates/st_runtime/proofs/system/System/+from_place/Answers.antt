-- The lock at this place holds the process of the pid there, which is on the actor's node: so the
-- entry can be committed to it.
use Rattle.std.proofs.Common.{arith, rules, ◌≡◌, ◌<◌, false, true, length, get_or, sym, ap, ◌∙◌}
use Rattle.st_core.specs.Pid.{node_eq}
use Rattle.st_core.specs.Step.{actor}
use Rattle.st_log.specs.Entries.{is_wide}
use Rattle.st_runtime.proofs.HeldLemmas.{read_same}
use Rattle.st_runtime.proofs.system.System.+from_place.Goals as goal

pub commit-requires : goal.commit-requires
commit-requires g t c =
    let pids = c.args.self.now in
    let p = c.args.found.actor in
    let k = c.args.place in
    let e = c.from_place.new.entry in
    let q = c.index-3.result.now in
    let straight : c.with-next.result.stray ≡ false = c.in_ok-from_place.ensures.stray in
    let within : k < length pids = search rules in
    let at : q ≡ get_or pids k q = search rules in
    let at_first : c.index.result.now ≡ get_or pids k c.index.result.now = search rules in
    let one = read_same pids k c.index.result.now q within at_first at in
    let here : node_eq c.index.result.now p ≡ true = search rules in
    let near : node_eq q p ≡ true = ap (λ r. node_eq r p) (sym one) ∙ here in
    let held : c.deref.result.now.process.pid ≡ q = c.with-next.ensures.pid straight in
    let lent : c.deref_mut-2.result.now.process.pid ≡ q = search (rules, held) in
    let entry = c.in_ok-from_place.ensures.entry in
    let whose : actor e.act ≡ p = ap actor entry.act ∙ sym c.requires.actor in (
      omega arith,
      (
        search rules,
        record {
          wide = ap is_wide entry.act ∙ c.requires.wide;
          node = ap (λ r. node_eq r (actor e.act)) lent ∙ ap (node_eq q) whose ∙ near;
          above = search (rules, entry.above);
          within = entry.within;
          reply = search (rules, entry.reply, entry.act);
          report = entry.report;
          carried = entry.carried;
        },
      ),
    )
