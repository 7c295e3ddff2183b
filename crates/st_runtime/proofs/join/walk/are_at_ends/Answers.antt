-- Each cursor that was taken is at its end.
use Rattle.std.proofs.Common.{◌≡◌, [], arith, subst}
use Rattle.std.proofs.lemmas.List.Elements.{All-more}
use Rattle.st_runtime.specs.Walk.{Along}
use Rattle.st_runtime.proofs.Members.{All-past}
use Rattle.st_runtime.proofs.join.walk.are_at_ends.Goals as goal

pub loop-cursor-preserved : goal.loop-cursor-preserved
loop-cursor-preserved c =
    let AtEnd : Along → Type 0 = λ a. a.left ≡ [] in
    All-more AtEnd c.args.cursors.now c.loop-cursor.cursor-index c.cursor-item.result
    c.loop-cursor-test.true c.loop-cursor.invariant
    (subst AtEnd c.cursor-item.is (c.is_at_end.ensures c.if-not-is_at_end.false))

pub returns : goal.returns
returns c _ =
    let AtEnd : Along → Type 0 = λ a. a.left ≡ [] in
    All-past AtEnd c.loop-cursor.cursor-index c.args.cursors.now
    (omega (arith, c.loop-cursor-test.false)) c.loop-cursor.invariant
