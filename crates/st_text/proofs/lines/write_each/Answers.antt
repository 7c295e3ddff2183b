-- The lines are written one after the other.
use Rattle.std.proofs.Common.{◌≡◌, Bool, List, ℕ, ◌++◌, refl, subst}
use Rattle.st_text.specs.Spelling.{ended_line}
use Rattle.st_text.specs.Writing.{Goes, WritesPart}
use Rattle.st_text.proofs.Puts.{goes_still, one_more, one_failed, all_done, on_err}
use Rattle.st_text.proofs.lines.write_each.Goals as goal

-- the line that was written is the one that the loop took from the list
module _ {S X : Type 0} (puts : S → List ℕ → S → Type 0) (failed : S → Bool) (f : X → List ℕ)
    (v w : X)
    (same : v ≡ w) where
  it_went : (a b : S) (x y : List ℕ) → Goes puts failed (f v) a b x y
      → Goes puts failed (f w) a b x y
  it_went a b x y h = subst (λ (z : X). Goes puts failed (f z) a b x y) same h

  it_failed : (a b : S) (x : List ℕ) → WritesPart puts failed (x ++ f v) a b
      → WritesPart puts failed (x ++ f w) a b
  it_failed a b x h = subst (λ (z : X). WritesPart puts failed (x ++ f z) a b) same h

pub loop-line-init : goal.loop-line-init
loop-line-init g c = goes_still g.S.ByteSink.puts g.S.ByteSink.failed

pub loop-line-preserved : goal.loop-line-preserved
loop-line-preserved g c =
    one_more g.S.ByteSink.puts g.S.ByteSink.failed (λ line. ended_line (g.L.TextLine.words line))
    c.args.lines.now c.loop-line.line-index c.line-item.result c.loop-line-test.true
    c.loop-line.invariant
    (it_went g.S.ByteSink.puts g.S.ByteSink.failed (λ line. ended_line (g.L.TextLine.words line)) _
    _ c.line-item.is _ _ _ _ c.in_ok-write_line.ensures)

pub returns-in_err-write_line : goal.returns-in_err-write_line
returns-in_err-write_line g c =
    on_err _ _ _ _ c.from_residual.ensures.0
    (one_failed g.S.ByteSink.puts g.S.ByteSink.failed (λ line. ended_line (g.L.TextLine.words line))
    c.args.lines.now c.loop-line.line-index c.line-item.result refl c.loop-line-test.true
    c.loop-line.invariant
    (it_failed g.S.ByteSink.puts g.S.ByteSink.failed (λ line. ended_line (g.L.TextLine.words line))
    _ _ c.line-item.is _ _ _ c.in_err-write_line.ensures))

pub returns : goal.returns
returns g c =
    all_done g.S.ByteSink.puts g.S.ByteSink.failed (λ line. ended_line (g.L.TextLine.words line))
    c.args.lines.now c.loop-line.line-index refl c.loop-line-test.false c.loop-line.invariant
