-- The first entry that isn't whole has the least place, since those before it are.
use Rattle.std.proofs.lemmas.List.Elements.{All-more}
use Rattle.std.proofs.Common.{◌<◌, length, arith, rules, subst}
use Rattle.st_runtime.proofs.Members.{All-past}
use Rattle.st_runtime.specs.Pieces.{IsWholeEntry}
use Rattle.st_runtime.proofs.join.whole.missing_in.Goals as goal

pub is_whole-requires : goal.is_whole-requires
is_whole-requires g c = (omega arith, record { rising = c.requires.rising; here = search rules })

pub loop-place-preserved : goal.loop-place-preserved
loop-place-preserved g c =
    let Whole = IsWholeEntry c.args.processes.now in
    let log = c.args.log.now.entries in
    let i = c.loop-place.place in
    let within : i < length log = omega (arith, c.loop-place-test.true, c.len-place-end.ensures) in
    All-more Whole log i c.at.result within c.loop-place.invariant
    (subst Whole c.at.ensures c.if-not-is_whole.ensures)

pub returns : goal.returns
returns g c = All-past (IsWholeEntry c.args.processes.now) c.loop-place.place c.args.log.now.entries
    (omega (arith, c.loop-place-test.false, c.len-place-end.ensures)) c.loop-place.invariant
