-- If memory ran out in this piece, the cutter tells the growth that was refused.
use Rattle.std.proofs.Common.{◌≡◌, ℕ, Bool, true, false, List}
use Rattle.st_text.specs.declared.cutter.Cutter.{Cutter}
use Rattle.st_text.specs.declared.limits.Limits.{Limits}
use Rattle.st_text.specs.Fed.{FedAs, AreBytesCounted}
use Rattle.st_text.proofs.feed.Feed.piece.Goals as goal

counted : (limits : Limits) (large out : Bool) (bytes : List ℕ) (count : ℕ) (cutter : Cutter)
    → large ≡ false
    → out ≡ false
    → FedAs limits large out bytes count cutter → AreBytesCounted limits bytes count cutter
counted limits false false bytes count cutter el eo fed = fed
counted limits large out bytes count cutter el eo fed = absurd cc

pub returns-then-self-3-clause-memory : goal.returns-then-self-3-clause-memory
returns-then-self-3-clause-memory c = λ bytes fed going ran.
    let s = c.args.self.now in
    let was = counted s.limits s.large s.cutter.out bytes s.count s.cutter c.if-self.false
    c.if-self-2.false fed in
    (c.pass_piece.ensures bytes was.holds).growth c.if-self-3.true c.if-self-2.false
