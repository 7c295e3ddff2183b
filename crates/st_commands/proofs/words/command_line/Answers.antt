-- Each command is added to those before it; none of them has an argument that belongs to the whole
-- command line.
use Rattle.std.proofs.Common.{◌≡◌, Bool, true, false, ap, ap₂, refl, ◌∙◌}
use Rattle.std.specs.Prelude.{not}
use Rattle.clap.proofs.WalkLemmas.{both}
use Rattle.clap.specs.Words.{App, with_subcommand}
use Rattle.st_commands.proofs.words.command_line.Goals as goal

is_false : (b : Bool) → not b ≡ true → b ≡ false
is_false false e = refl
is_false true e = absurd (cc)

pub returns : goal.returns
returns c =
    let top = λ (a : App). a.top in
    let one = c.in_ok-one.ensures.shape c.new-check.ensures.local
    ∙ ap₂ with_subcommand c.new-program.ensures.app (ap top c.new-check.ensures.app) in
    let two = c.in_ok-two.ensures.shape c.new-audit.ensures.local
    ∙ ap₂ with_subcommand one (ap top c.new-audit.ensures.app) in
    let three = c.in_ok-three.ensures.shape c.new-replay.ensures.local
    ∙ ap₂ with_subcommand two (ap top c.new-replay.ensures.app) in
    let four = c.in_ok-four.ensures.shape c.new-drive.ensures.local
    ∙ ap₂ with_subcommand three (ap top c.new-drive.ensures.app) in
    let plain = ap (λ (a : App). a.top.is_plain) c.in_ok-chart.ensures in
    let local = is_false _ (both _ _ (both _ _ (both _ _ plain).1).1).0 in
    c.in_ok-all.ensures.shape local ∙ ap₂ with_subcommand four (ap top c.in_ok-chart.ensures)
