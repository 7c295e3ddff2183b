-- The words, the pid and the number are put one after the other.
use Rattle.std.proofs.Common.{◌≡◌, ℕ, List, ◌++◌, ◌∙◌, ap, append_assoc, codes, decimal, arith}
use Rattle.st_text.specs.Spelling as spelled
use Rattle.st_commands.proofs.lines.put_act_fault.Goals as goal

regroup : (a b c d e : List ℕ) → ((a ++ b) ++ c) ++ (d ++ e) ≡ a ++ (((b ++ c) ++ d) ++ e)
regroup a b c d e = simp append_assoc

pub returns : goal.returns
returns c =
    let words = codes "fault act " in
    let pid = spelled.pid c.args.pid in
    let number = decimal c.args.n in
    record {
      items =
          c.put_numbered.ensures.items
          ∙ ap (λ (xs : List ℕ). xs ++ (codes " " ++ number)) (c.put_pid.ensures.items
          ∙ ap (λ (xs : List ℕ). xs ++ pid) c.put_bytes.ensures.items)
          ∙ regroup c.args.buffer.now.items words pid (codes " ") number;
      len = omega (
        arith,
        c.put_bytes.ensures.len,
        c.put_pid.ensures.len,
        c.put_numbered.ensures.len,
      );
    }
