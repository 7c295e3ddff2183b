-- No event has a mark yet, and the map of hidden sends is empty.
use Rattle.std.proofs.Common.{◌≡◌, ◌∙◌, ap, rules, None}
use Rattle.indexmap.specs.IndexMap.{get}
use Rattle.st_pair.specs.Tables.{key_eq, mark_of}
use Rattle.st_pair.proofs.Marks.{given, unmarked}
use Rattle.st_pair.proofs.receives.Receives.new.Goals as goal

pub returns : goal.returns
returns c = λ k.
    let hidden = get key_eq c.with_hasher.result k in
    let none : hidden ≡ None = search rules in
    ap (λ lists. given (mark_of c.args.streams.now lists k) hidden) c.in_ok-shown.ensures
    ∙ unmarked c.args.streams.now k hidden none
