-- The sort is stable.
use Rattle.std.proofs.Common.{rules, subst}
use Rattle.std.proofs.lemmas.List.Sorted.{answers_always}
use Rattle.node_streams.specs.declared.ends.End.{End}
use Rattle.node_streams.specs.Tables.{AreByContent}
use Rattle.node_streams.proofs.SortedEnds.{by_content}
use Rattle.node_streams.proofs.ends.ends_by_content.Goals as goal

pub returns : goal.returns
returns c =
    subst (λ all. AreByContent all c.sort_by_key.new.self.items) c.in_ok-ends.ensures
    (by_content c.in_ok-ends.ends.items c.sort_by_key.new.self.items
    (c.in_ok-sort_by_key.ensures.sorted (λ (x : End). x.content)
    (answers_always _ _ _ (λ f a r g h. search rules)))
    (c.sort_by_key.ensures.stable (λ (x : End). x.content)
    (answers_always _ _ _ (λ f a r g h. search rules))))
