-- Each listed process is on the node, and is clean after its wipe.
use Rattle.std.proofs.Common.{◌≡◌, ℕ, ◌<◌, List, [], length, map, get_or, refl, sym, ◌∙◌, ap, subst}
use Rattle.std.proofs.Common.{arith}
use Rattle.std.proofs.lemmas.List.{length-set}
use Rattle.st_core.specs.declared.types.Message.{Message}
use Rattle.st_core.specs.declared.types.Pid.{Pid}
use Rattle.st_core.specs.Local.{wiped}
use Rattle.st_core.specs.State.{LocalState}
use Rattle.st_core.specs.Step.{untraced}
use Rattle.st_world.specs.declared.node.Node.{Node}
use Rattle.st_world.specs.Nodes.{Groups, AreGroups, node_at, process_in, IsClean}
use Rattle.st_world.proofs.Groups.{node_is}
use Rattle.st_world.proofs.Wipes.{in_node, all_left, fewer_left, none_left, clean_still, wiped_one}
use Rattle.st_world.proofs.Wipes.{clean_node}
use Rattle.st_world.proofs.nodes.Nodes.wipe.Goals as goal

-- the groups are the fields, and the node read there is that of the process `number`
read_in : {inside g : Groups} → inside ≡ g → AreGroups inside → (number k : ℕ) (n : Node)
    → number < length g.places
    → k ≡ get_or inside.places number k → n ≡ get_or inside.nodes k n
    → AreGroups g × (n ≡ node_at g number)
read_in {inside} is inv number k n h at read =
    let h2 : number < length inside.places = rw (← is) at h in
    subst (λ (x : Groups). AreGroups x × (n ≡ node_at x number)) is
    (inv, node_is inside number k n inv h2 at read)

pub loop-slot-init : goal.loop-slot-init
loop-slot-init g c =
    let n : Node = c.index-2.result.now in
    let read = read_in c.self.view_is c.self.invariant c.args.number c.index.result.now n
    c.requires.number
    c.index.ensures c.index-2.ensures in
    record {
      locals_len = c.requires.locals_len;
      queues_len = c.requires.queues_len;
      left = λ i below same old.
          all_left c.args.self.now c.args.number n read.0 c.requires.number read.1 c.args.locals.now
          c.args.queues.now.boxes i same old;
      others = λ i clean. clean;
      state = λ pids me by_node own. refl;
    }

pub loop-slot-preserved : goal.loop-slot-preserved
loop-slot-preserved g c =
    let n : Node = c.index-2.result.now in
    let read = read_in c.self.view_is c.self.invariant c.args.number c.index.result.now n
    c.requires.number
    c.index.ensures c.index-2.ensures in
    let now = c.loop-slot.invariant in
    let ls : List LocalState = c.loop-slot.locals in
    let bs : List (List Message) = c.loop-slot.queues.boxes in
    let t : ℕ = c.loop-slot.slot in
    let m : ℕ = process_in c.args.self.now.slots n t in
    let l : LocalState = c.index-locals-touched.result in
    let b : List Message = get_or bs m [] in
    let slots_are = c.deref.ensures.value ∙ ap (λ (x : Groups). x.slots) c.self.view_is in
    let touched_is : c.process_in-touched.result ≡ m =
    c.process_in-touched.ensures ∙ ap (λ s. process_in s n t) slots_are in
    let wiped_is : c.wipe.new.self ≡ wiped l =
    c.wipe.ensures ∙ ap wiped (sym c.index-locals-touched.is) in
    let el : l ≡ get_or ls m l = c.index-locals-touched.is ∙ ap (λ i. get_or ls i l) touched_is in
    let node = in_node c.args.self.now c.args.number n read.0 c.requires.number read.1 t
    (omega arith) (omega arith) in
    let local : m < length ls = omega (arith, node.0, now.locals_len) in
    let queue : m < length bs = omega (arith, node.0, now.queues_len) in
    rw (c.wipe_tokens.ensures.boxes, wiped_is, touched_is) (record {
      locals_len = length-set ls m (wiped l) ∙ now.locals_len;
      queues_len = length-set bs m (map untraced b) ∙ now.queues_len;
      left = λ i below same old.
          fewer_left c.args.self.now.slots n t i ls bs l b local queue (now.left i below same old);
      others = λ i clean. clean_still ls bs m i l b local queue (now.others i clean);
      state = λ pids me by_node own.
          wiped_one pids ls bs (now.locals_len ∙ by_node.len) (now.queues_len ∙ by_node.len) me m l
          (omega (arith, node.0, by_node.len))
          (by_node.apart m c.args.number me (omega (arith, node.0, by_node.len))
          (omega (arith, c.requires.number, by_node.len)) node.1
          ∙ ap (λ (p : Pid). p.node) (sym own))
          el
          ∙ now.state pids me by_node own;
    })

pub returns-clause-rows : goal.returns-clause-rows
returns-clause-rows g c =
    let now = c.loop-slot.invariant in
    let ls : List LocalState = c.loop-slot.locals in
    let bs : List (List Message) = c.loop-slot.queues.boxes in
    record {
      state = λ pids me by_node own all.
          let clean : (i : ℕ) → i < length pids → (get_or pids i me).node ≡ me.node
          → IsClean ls bs i =
          λ i below on.
          let same = by_node.same i c.args.number me below
          (omega (arith, c.requires.number, by_node.len))
          (on ∙ ap (λ (p : Pid). p.node) own) in
          none_left c.args.self.now.slots c.index-2.result.now c.loop-slot.slot i ls bs
          c.loop-slot-test.false
          (now.left i (omega (arith, below, by_node.len)) same (all i below)) in
          sym (clean_node pids ls bs (now.locals_len ∙ by_node.len) (now.queues_len ∙ by_node.len)
          me clean)
          ∙ now.state pids me by_node own;
      node = λ i below same old.
          none_left c.args.self.now.slots c.index-2.result.now c.loop-slot.slot i ls bs
          c.loop-slot-test.false
          (now.left i below same old);
      others = now.others;
    }
