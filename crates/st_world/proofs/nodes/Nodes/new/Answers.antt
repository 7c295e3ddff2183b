-- Each process is the first on a new node, or is on the node of the process before it.
use Rattle.std.proofs.Common.{◌≡◌, ℕ, ◌+◌, ◌-◌, ◌<◌, [], ◌∷◌, ◌++◌, false, length, get_or, inl, inr}
use Rattle.std.proofs.Common.{refl, ◌∙◌, ap, subst, arith}
use Rattle.std.proofs.lemmas.List.{get_or_append_left, get_or_default, get_or_push, length_push}
use Rattle.std.proofs.lemmas.Bool.{cases_eq}
use Rattle.st_core.specs.declared.types.Pid.{Pid}
use Rattle.st_core.specs.Pid.{node_of}
use Rattle.st_world.specs.Rows.{IsNodeRange}
use Rattle.st_world.proofs.Making.{upto, more_same, more_new, made_by_node, made_groups}
use Rattle.st_world.proofs.Making.{made_listed}
use Rattle.st_world.proofs.nodes.Nodes.new.Goals.{then-number-after+in_ok-push, else-number-after}
use Rattle.st_world.proofs.nodes.Nodes.new.Goals as goal

pub loop-number-preserved : goal.loop-number-preserved
loop-number-preserved c =
    let now = c.loop-number.invariant in
    let n : ℕ = c.loop-number.number in
    let ps = c.loop-number.places.items in
    let k : ℕ = c.len.result - 1 in
    let count : c.len.result ≡ length c.if-number-after.nodes.items = omega
    (arith, c.len.ensures, c.if-number-after.nodes.ok) in
    record {
      made = elim c.if-number-after.branch [
        | then-number-after+in_ok-push w ↦
            let start = w.node_range-start.result.0 in
            let end = w.node_range-start.result.1 in
            let made = rw (← w.if-number-after.true) at now.made in
            let len : length c.if-number-after.nodes.items ≡ length c.loop-number.nodes.items + 1 =
            rw (w.nodes-is, w.in_ok-push.ensures.items)
            (length_push c.loop-number.nodes.items
            (record { start = start; end = end; listed = end; traced = false })) in
            let none : Pid = record { node = 0; number = 0 } in
            let range = rw w.node.ensures at w.node_range-start.ensures in
            rw (c.in_ok-push-2.ensures.items, w.nodes-is, w.in_ok-push.ensures.items, w.after-is)
            (more_new c.args.pids.now n ps c.loop-number.nodes.items k start end made (omega arith)
            (omega (arith, count, len))
            (λ d.
            subst (λ (p : Pid). IsNodeRange (node_of p) c.args.pids.now start end)
            (get_or_default c.args.pids.now n none d (omega arith)) range))
        | else-number-after w ↦
            let len : length c.if-number-after.nodes.items ≡ length c.loop-number.nodes.items =
            rw w.nodes-is refl in
            let less : n < c.loop-number.after =
            omega (arith, w.if-number-after.false, now.made.to) in
            let some : 0 < n = elim (cases_eq c.loop-number.number 0) [
              | inl e ↦ absurd (omega (arith, now.made.none e, less))
              | inr other ↦ omega (arith, other)
            ] in
            rw (c.in_ok-push-2.ensures.items, w.nodes-is, w.after-is)
            (more_same c.args.pids.now n c.loop-number.after ps c.loop-number.nodes.items now.made
            (omega arith) k less
            (omega (arith, count, len, now.made.within 0 (omega (arith, some)))))
      ];
      slots_len = ap length c.in_ok-push-3.ensures.items ∙ length_push c.loop-number.slots.items n ∙
          ap (λ m. m + 1) now.slots_len;
      slots = rw c.in_ok-push-3.ensures.items
          (upto (λ slot. get_or (c.loop-number.slots.items ++ c.loop-number.number ∷ []) slot 0
          ≡ slot) n
          (λ slot below. get_or_append_left c.loop-number.slots.items (c.loop-number.number ∷ []) 0
          slot (omega (arith, now.slots_len))
          ∙ now.slots slot below)
          (get_or_push c.loop-number.slots.items n 0 n now.slots_len));
    }

pub invariant_of-result : goal.invariant_of-result
invariant_of-result c =
    let last : c.loop-number.number ≡ length c.args.pids.now = omega arith in
    let now = rw last at c.loop-number.invariant in
    made_groups _ _ _ _ _ now.made now.slots_len now.slots

pub returns-clause-by_node : goal.returns-clause-by_node
returns-clause-by_node c =
    let last : c.loop-number.number ≡ length c.args.pids.now = omega arith in
    let now = rw last at c.loop-number.invariant in
    made_by_node _ _ _ _ _ now.made now.slots_len now.slots

pub returns-clause-listed : goal.returns-clause-listed
returns-clause-listed c =
    let last : c.loop-number.number ≡ length c.args.pids.now = omega arith in
    let now = rw last at c.loop-number.invariant in
    made_listed _ _ _ _ _ now.made now.slots_len now.slots
