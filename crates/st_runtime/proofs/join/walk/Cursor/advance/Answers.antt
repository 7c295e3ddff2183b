-- The entry that is next is the one at the cursor's place in the log.
use Rattle.std.proofs.Common.{◌≡◌, ◌∙◌, ◌<◌, ◌+◌, List, ◌∷◌, ◌++◌, [], drop, length, take, refl}
use Rattle.std.proofs.Common.{sym}
use Rattle.std.proofs.Common.{ap, subst, arith}
use Rattle.std.proofs.lemmas.List.{drop_more, take_more}
use Rattle.st_log.specs.declared.entry.Entry.{Entry}
use Rattle.st_log.specs.Entries.{entry_at, no_entry}
use Rattle.st_runtime.specs.Walk.{Along, MovesPast}
use Rattle.st_runtime.proofs.join.walk.Cursor.advance.Goals as goal

pub returns-then-self-len : goal.returns-then-self-len
returns-then-self-len c e next =
    let es = c.self.inside.log.now.entries in
    let n = c.self.inside.next in
    let within : n < length es = omega (arith, c.if-self-len.true, c.len.ensures) in
    let split : drop n es ≡ entry_at es n ∷ drop (n + 1) es = drop_more es n no_entry within in
    let left : c.args.self.now.left ≡ drop n es = ap (λ (x : Along). x.left) (sym c.self.view_is) in
    let first : List Entry → Entry = λ l. entry_at l 0 in
    let same : entry_at es n ≡ e = ap first (sym split ∙ sym left ∙ next) in
    let after : Along = record {
      pid = c.self.inside.pid;
      passed = take (n + 1) es;
      left = drop (n + 1) es;
    } in
    subst (λ x. MovesPast e x after) c.self.view_is (record {
      pid = refl;
      passed = take_more es n no_entry within ∙ ap (λ d. take n es ++ d ∷ []) same;
      left = split ∙ ap (λ d. d ∷ drop (n + 1) es) same;
    })
