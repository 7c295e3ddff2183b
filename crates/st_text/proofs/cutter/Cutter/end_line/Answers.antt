-- A line that lies whole in its piece is the unfinished line: nothing waits before it.
use Rattle.std.proofs.Common.{◌≡◌, ◌∙◌, ◌++◌, ℕ, List, ap, sym, arith, inr}
use Rattle.std.proofs.lemmas.Bool.{eqb-true}
use Rattle.std.proofs.lemmas.List.{nil_from_length}
use Rattle.st_text.specs.Fault.{cut}
use Rattle.st_text.proofs.CutterSteps.{kept_says}
use Rattle.st_text.proofs.cutter.Cutter.end_line.Goals as goal

pub pass_line-requires-clause-empty : goal.pass_line-requires-clause-empty
pass_line-requires-clause-empty c =
    let s = c.args.self.now in
    let none = eqb-true _ _ (sym c.is_empty.ensures ∙ c.if-not-is_empty.false) in
    nil_from_length s.tail.items (omega (arith, s.tail.ok.0, none))

pub returns : goal.returns
returns c = λ bytes plain h.
    let s = c.args.self.now in
    let rest = c.args.rest.now in
    let none =
    nil_from_length s.tail.items (omega
    (arith, s.tail.ok.0, eqb-true _ _ (sym c.is_empty.ensures ∙ c.if-not-is_empty.false))) in
    let whole : rest ≡ s.tail.items ++ rest = ap (λ (k : List ℕ). k ++ rest) (sym none) in
    let says =
    kept_says s.long s.tail.items (cut bytes).1 rest rest c.read_line.result c.if-self.false whole
    c.read_line.ensures in
    let t = c.pass_line.ensures bytes rest s.long s.tail.items plain says h in
    record { holds = t.holds; growth = λ out. inr (t.growth out) }
