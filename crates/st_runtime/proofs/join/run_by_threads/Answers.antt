-- The entries that one walk passed are one run, whose streams and replies a thread each reads out.
use Rattle.std.proofs.Common.{arith, rules, ◌∙◌, sym, map, List}
use Rattle.std.proofs.lemmas.Simd.{map-map}
use Rattle.st_log.specs.declared.entry.Entry.{Entry}
use Rattle.st_runtime.specs.Joining.{referred}
use Rattle.st_runtime.proofs.Runs.{one_run}
use Rattle.st_runtime.proofs.Shown.{are_streams}
use Rattle.st_runtime.proofs.Walks.{walk_merged, walk_whole}
use Rattle.st_runtime.proofs.join.run_by_threads.Goals as goal

pub join-streams-requires-after_bounds : goal.join-streams-requires-after_bounds
join-streams-requires-after_bounds g c κs within =
    let top = g.row.TOP in
    let xs = c.args.processes.now in
    let entries : List Entry = map referred c.args.entries.now in
    let run = one_run top g.row.RANKS xs entries c.requires.kept
    (walk_whole xs entries c.requires.walk)
    (walk_merged xs entries c.requires.walk) in
    ((omega arith, are_streams top xs entries c.requires.rising run), search rules)

pub returns-clause-logged : goal.returns-clause-logged
returns-clause-logged g c =
    let top = g.row.TOP in
    let xs = c.args.processes.now in
    let refs = c.args.entries.now in
    let entries : List Entry = map referred refs in
    let merged = walk_merged xs entries c.requires.walk in
    let out = rw c.in_ok-replies.was at c.join-streams.ensures.second in
    record {
      entries = entries;
      merged = merged;
      run = one_run top g.row.RANKS xs entries c.requires.kept
          (walk_whole xs entries c.requires.walk) merged;
      streams = rw c.in_ok-streams.was at c.join-streams.ensures.first;
      acts = c.from_vec.ensures ∙ c.requires.acts
          ∙ sym (map-map (λ (e : Entry). e.act) referred refs);
      replies = c.from_vec-2.ensures ∙ out
          ∙ sym (map-map (λ (e : Entry). e.reply) referred refs);
    }
