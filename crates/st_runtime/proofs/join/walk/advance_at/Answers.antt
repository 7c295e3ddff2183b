-- The cursor that was taken out is the one that is written back.
use Rattle.std.proofs.Common.{refl, subst}
use Rattle.std.proofs.lemmas.List.{get_or_default}
use Rattle.st_runtime.specs.Walk.{MovesPast}
use Rattle.st_runtime.proofs.join.walk.advance_at.Goals as goal

pub returns : goal.returns
returns c e next =
    let cs = c.args.cursors.now in
    let old = c.index-cursors-at.result in
    let new = c.advance.new.self in
    record {
      cursor = new;
      passes = subst (λ x. MovesPast e x new)
          (get_or_default cs c.args.at old new c.requires)
          (c.advance.ensures e (next old c.requires));
      written = refl;
    }
