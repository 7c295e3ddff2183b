-- The ladder that is stored holds the keys wanted; if it can't be stored, the list has none.
use Rattle.std.proofs.Common.{◌≡◌, ◌∙◌, sym, ap}
use Rattle.std.specs.Prelude.{nat_eq}
use Rattle.std.specs.Map.{lookup}
use Rattle.std.specs.HashMap.{get as get_in}
use Rattle.slab.specs.Slab.{get}
use Rattle.st_arena.specs.Chain.{node_keys, KeepsLadder}
use Rattle.st_arena.proofs.LadderLemmas.{if_some, if_ok, either_way, ladder_joins, ladder_stays_out}
use Rattle.st_arena.proofs.ladder.keep_ladder.Goals as goal
use Rattle.st_arena.proofs.ladder.keep_ladder.Goals.{in-None, in_default-2, in_default}

pub returns-in-Some : goal.returns-in-Some
returns-in-Some g c =
    let wanted = node_keys (get c.args.nodes.now) c.args.ends in
    let old = get_in nat_eq c.args.ladders.now in
    let new = get_in nat_eq c.insert.new.self in
    let same : c.in-Some.ladder ≡ wanted =
    elim c.match-ladder-2.branch [
      | in-None w ↦
          if_ok (λ l. l ≡ wanted) w.new.result c.in-Some.ladder w.new.ensures
          (sym w.ok-ladder.ensures.value ∙ sym w.ladder-is ∙ c.in-Some.is)
      | in_default-2 w ↦
          if_some (λ l. l ≡ wanted) c.args.ladder c.in-Some.ladder c.requires.ladder
          (sym w.ladder-is ∙ c.in-Some.is)
      | in_default w ↦
          if_some (λ l. l ≡ wanted) c.args.ladder c.in-Some.ladder c.requires.ladder
          (sym w.ladder-is ∙ c.in-Some.is)
    ] in
    either_way _ _ (KeepsLadder old new c.args.list wanted) c.insert.result c.insert.ensures.updates
    c.insert.ensures.err
    (λ put.
    ladder_joins old new c.args.list c.in-Some.ladder wanted same put.1
    (λ other differs. put.2 other differs ∙ c.reserve.ensures.entries.2 other))
    (λ stays.
    ladder_stays_out old new c.args.list wanted c.requires.absent
    (λ other. ap (λ es. lookup (nat_eq other) es) stays ∙ c.reserve.ensures.entries.2 other))
