-- Nodes have ranges of their own. So a write to one node leaves each process on its node if that
-- node keeps its range, a write to one slot of a node is in no other node's list, and a process
-- stays listed when another is listed.
use Rattle.std.proofs.Common.{◌≡◌, ◌≢◌, ℕ, ◌+◌, ◌<◌, ◌≤◌, ◌==◌, zero, suc, false, if◌then◌else◌}
use Rattle.std.proofs.Common.{List, [], ◌∷◌}
use Rattle.std.proofs.Common.{length, get_or, set, map, refl, sym, ◌∙◌, ap, subst, arith, inl, inr}
use Rattle.std.proofs.lemmas.Bool.{cases_eq, eq-eqb}
use Rattle.std.proofs.lemmas.Bool.Decides.{nat_tests}
use Rattle.std.proofs.lemmas.List.{get_or_read, get_or-set_same, get_or-set_other, length-map}
use Rattle.std.proofs.lemmas.List.{length-set, map-set}
use Rattle.std.proofs.Math.Seq.{map-set_same}
use Rattle.st_world.specs.declared.node.Node.{Node}
use Rattle.st_world.specs.Nodes.{Groups, no_node, node_at, tracers, traced_at, process_in}
use Rattle.st_world.specs.Nodes.{IsListedFrom, IsListed, AreGroups, IsPlaced}

-- ONE ELEMENT OF A LIST

-- a property of the new element and of each old one holds of each after the write
set_any : {X : Type 0} (P : X → Type 0) (xs : List X) (k i : ℕ) (y d : X)
    → P y → P (get_or xs i d) → P (get_or (set xs k y) i d)
set_any P (x ∷ xs) zero zero y d new old = new
set_any P (x ∷ xs) (suc k) (suc i) y d new old = set_any P xs k i y d new old
set_any P xs k i y d new old = old

-- if the write keeps a part of the element, each element keeps it
set_part : {X A : Type 0} (f : X → A) (xs : List X) (k i : ℕ) (y d : X)
    → f y ≡ f (get_or xs k d) → f (get_or (set xs k y) i d) ≡ f (get_or xs i d)
set_part f (x ∷ xs) zero zero y d same = same
set_part f (x ∷ xs) (suc k) (suc i) y d same = set_part f xs k i y d same
set_part f xs k i y d same = refl

-- a part of an element is the element of the list of parts
pub at_map : {X A : Type 0} (f : X → A) (xs : List X) (i : ℕ) (d : X)
    → get_or (map f xs) i (f d) ≡ f (get_or xs i d)
at_map f [] i d = refl
at_map f (x ∷ xs) zero d = refl
at_map f (x ∷ xs) (suc i) d = at_map f xs i d

-- LISTS

below_other : (m n : ℕ) → m < n → (m == n) ≡ false
below_other m n h = grind (arith, nat_tests)

-- in a full list each slot stands for the process with its number
pub full_in : (slots : List ℕ) (n : Node) (t : ℕ) → n.listed ≡ n.end → process_in slots n t ≡ t
full_in slots n t full = rw (eq-eqb n.listed n.end full) refl

pub part_in : (slots : List ℕ) (n : Node) (t : ℕ) → n.listed < n.end
    → process_in slots n t ≡ get_or slots t 0
part_in slots n t part = rw (below_other n.listed n.end part) refl

pub full_list : (first : ℕ) (slots : List ℕ) (n : Node) (i : ℕ)
    → n.listed ≡ n.end → first ≤ i → i < n.end → IsListedFrom first slots n i
full_list first slots n i full from below = record {
  slot = i;
  from = from;
  below = omega arith;
  is = full_in slots n i full;
}

-- the node with one more slot in its list
abbrev pub one_more : Node → Node
one_more n = record { start = n.start; end = n.end; listed = n.listed + 1; traced = n.traced }

module _ (slots : List ℕ) (n : Node) (number : ℕ) (from : n.start ≤ n.listed)
    (part : n.listed < n.end)
    (within : n.end ≤ length slots) where
  -- the process put into the next slot is listed
  list_put : n.start ≤ number → number < n.end
      → IsListedFrom n.start (set slots n.listed number) (one_more n) number
  list_put first last = elim (cases_eq (n.listed + 1) n.end) [
    | inl full ↦ full_list n.start (set slots n.listed number) (one_more n) number full first last
    | inr other ↦ record {
      slot = n.listed;
      from = from;
      below = omega arith;
      is =
          part_in (set slots n.listed number) (one_more n) n.listed (omega (arith, other))
          ∙ get_or-set_same slots n.listed number 0 (omega arith);
    }
  ]

  -- the processes listed before are still listed
  list_kept : (i : ℕ) → n.start ≤ i → i < n.end
      → IsListedFrom n.start slots n i
      → IsListedFrom n.start (set slots n.listed number) (one_more n) i
  list_kept i first last old = elim (cases_eq (n.listed + 1) n.end) [
    | inl full ↦ full_list n.start (set slots n.listed number) (one_more n) i full first last
    | inr other ↦ record {
      slot = old.slot;
      from = old.from;
      below = omega (arith, old.below);
      is =
          part_in (set slots n.listed number) (one_more n) old.slot (omega (arith, other))
          ∙ get_or-set_other slots n.listed old.slot number 0 (omega (arith, old.below))
          ∙ sym (part_in slots n old.slot part)
          ∙ old.is;
    }
  ]

-- a write to a slot outside a node's range leaves its list
list_apart : (slots : List ℕ) (m : Node) (slot number i : ℕ) → m.listed ≤ m.end
    → ((t : ℕ) → m.start ≤ t → t < m.end → t ≢ slot)
    → IsListedFrom m.start slots m i → IsListedFrom m.start (set slots slot number) m i
list_apart slots m slot number i listed apart old = record {
  slot = old.slot;
  from = old.from;
  below = old.below;
  is =
      ap (λ (x : ℕ). if m.listed == m.end then old.slot else x)
      (get_or-set_other slots slot old.slot number 0
      (apart old.slot old.from (omega (arith, old.below))))
      ∙ old.is;
}

-- ONE NODE

-- n is the node of the process `number`, at the place k
module _ (g : Groups) (number k : ℕ) (n : Node) (inv : AreGroups g) (h : number < length g.places)
    (at : k ≡ get_or g.places number k) (is : n ≡ get_or g.nodes k n) where
  pub place_is : k ≡ get_or g.places number 0
  place_is = get_or_read g.places number k h at 0

  pub place_within : k < length g.nodes
  place_within = omega (arith, place_is, (inv.placed number h).place)

  read : n ≡ get_or g.nodes k no_node
  read = get_or_read g.nodes k n place_within is no_node

  pub node_is : n ≡ node_at g number
  node_is = read ∙ ap (λ i. get_or g.nodes i no_node) place_is

  pub traced_is : n.traced ≡ traced_at g number
  traced_is = ap (λ (m : Node). m.traced) node_is ∙ sym
      (at_map (λ (m : Node). m.traced) g.nodes (get_or g.places number 0) no_node)

  -- the nodes with n2 in place of n, and with other slots
  abbrev With : Node → List ℕ → Groups
  With n2 slots = record { places = g.places; nodes = set g.nodes k n2; slots = slots }

  -- the processes at the place k are then on n2
  new_node : (n2 : Node) (slots : List ℕ) (i : ℕ) → get_or g.places i 0 ≡ k
      → node_at (With n2 slots) i ≡ n2
  new_node n2 slots i e =
      ap (λ j. get_or (set g.nodes k n2) j no_node) e ∙ get_or-set_same g.nodes k n2 no_node
      place_within

  old_node : (n2 : Node) (slots : List ℕ) (i : ℕ) → get_or g.places i 0 ≢ k
      → node_at (With n2 slots) i ≡ node_at g i
  old_node n2 slots i other = get_or-set_other g.nodes k (get_or g.places i 0) n2 no_node other

  -- if n2 is traced as n was, the same nodes are traced
  pub tracers_kept : (n2 : Node) → n2.traced ≡ n.traced
      → map (λ (m : Node). m.traced) (set g.nodes k n2) ≡ tracers g
  tracers_kept n2 same =
      map-set_same (λ (m : Node). m.traced) g.nodes k n2 no_node
      (same ∙ ap (λ (m : Node). m.traced) read)

  tracers_set : (n2 : Node)
      → map (λ (m : Node). m.traced) (set g.nodes k n2)
      ≡ set (tracers g) (get_or g.places number 0) n2.traced
  tracers_set n2 =
      map-set (λ (m : Node). m.traced) g.nodes k n2 ∙ ap (λ i. set (tracers g) i n2.traced) place_is

  pub traced_here : (n2 : Node) (i : ℕ) → get_or g.places i 0 ≡ get_or g.places number 0
      → traced_at (With n2 g.slots) i ≡ n2.traced
  traced_here n2 i e =
      let place : ℕ = get_or g.places number 0 in
      ap (λ ts. get_or ts (get_or g.places i 0) false) (tracers_set n2)
      ∙ ap (λ j. get_or (set (tracers g) place n2.traced) j false) e
      ∙ get_or-set_same (tracers g) place n2.traced false
      (omega (arith, place_is, place_within, length-map g.nodes (λ (m : Node). m.traced)))

  pub traced_elsewhere : (n2 : Node) (i : ℕ) → get_or g.places i 0 ≢ get_or g.places number 0
      → traced_at (With n2 g.slots) i ≡ traced_at g i
  traced_elsewhere n2 i other =
      ap (λ ts. get_or ts (get_or g.places i 0) false) (tracers_set n2)
      ∙ get_or-set_other (tracers g) (get_or g.places number 0) (get_or g.places i 0) n2.traced
      false other

  -- each process stays on its node if the node keeps its range
  placed_kept : (n2 : Node) (slots : List ℕ) → n2.start ≡ n.start → n2.end ≡ n.end
      → n2.start ≤ n2.listed
      → n2.listed ≤ n2.end → (i : ℕ) → i < length g.places → IsPlaced (With n2 slots) i
  placed_kept n2 slots start end from listed i below =
      let old = inv.placed i below in
      let place : ℕ = get_or g.places i 0 in
      let s : (node_at (With n2 slots) i).start ≡ (node_at g i).start =
      set_part (λ (m : Node). m.start) g.nodes k place n2 no_node
      (start ∙ ap (λ (m : Node). m.start) read) in
      let e : (node_at (With n2 slots) i).end ≡ (node_at g i).end =
      set_part (λ (m : Node). m.end) g.nodes k place n2 no_node
      (end ∙ ap (λ (m : Node). m.end) read) in
      record {
        place = omega (arith, old.place, length-set g.nodes k n2);
        start = omega (arith, old.start, s);
        end = omega (arith, old.end, e);
        within = omega (arith, old.within, e);
        same = λ j first last. old.same j (omega (arith, first, s)) (omega (arith, last, e));
        from = set_any (λ (m : Node). m.start ≤ m.listed) g.nodes k place n2 no_node from old.from;
        listed = set_any (λ (m : Node). m.listed ≤ m.end) g.nodes k place n2 no_node listed
            old.listed;
      }

  pub groups_kept : (n2 : Node) → n2.start ≡ n.start → n2.end ≡ n.end → n2.start ≤ n2.listed
      → n2.listed ≤ n2.end
      → AreGroups (With n2 g.slots)
  groups_kept n2 start end from listed = record {
    len = inv.len;
    placed = placed_kept n2 g.slots start end from listed;
    slots = λ slot below. let old = inv.slots slot below in
        record { within = old.within; same = old.same };
  }

  -- THE LIST OF A NODE

  listed_elsewhere : (n2 : Node) (slots : List ℕ) (i : ℕ) → get_or g.places i 0 ≢ k
      → IsListedFrom (node_at g i).start slots (node_at g i) i → IsListed (With n2 slots) i
  listed_elsewhere n2 slots i other old =
      subst (λ (m : Node). IsListedFrom m.start slots m i) (sym (old_node n2 slots i other)) old

  -- an emptied list leaves the lists of other nodes
  pub listed_apart : (n2 : Node) (i : ℕ) → get_or g.places i 0 ≢ get_or g.places number 0
      → IsListed g i → IsListed (With n2 g.slots) i
  listed_apart n2 i other old = listed_elsewhere n2 g.slots i (λ e. other (e ∙ place_is)) old

  pub emptied : (n2 : Node) → n2.listed ≡ n2.start
      → (node_at (With n2 g.slots) number).listed ≡ (node_at (With n2 g.slots) number).start
  emptied n2 empty = subst (λ (m : Node). m.listed ≡ m.start)
      (sym (new_node n2 g.slots number (sym place_is))) empty

  -- the range and the list of the node that was read
  starts : n.start ≤ number
  starts = omega (arith, (inv.placed number h).start, ap (λ (m : Node). m.start) node_is)

  ends : number < n.end
  ends = omega (arith, (inv.placed number h).end, ap (λ (m : Node). m.end) node_is)

  ends_within : n.end ≤ length g.slots
  ends_within = omega (
    arith,
    (inv.placed number h).within,
    ap (λ (m : Node). m.end) node_is,
    inv.len,
  )

  pub lists_from : n.start ≤ n.listed
  lists_from = rw node_is (inv.placed number h).from

  pub lists_to : n.listed ≤ n.end
  lists_to = rw node_is (inv.placed number h).listed

  -- in a full list the process is listed
  pub listed_full : n.end ≤ n.listed → IsListed (With n g.slots) number
  listed_full full =
      subst (λ (m : Node). IsListedFrom m.start g.slots m number)
      (sym (new_node n g.slots number (sym place_is)))
      (full_list n.start g.slots n number (omega (arith, lists_to)) starts ends)

  module _ (part : n.listed < n.end) where
    -- the node's next slot is in its own range
    own_slot : get_or g.places n.listed 0 ≡ get_or g.places number 0
    own_slot =
        let old = inv.placed number h in
        old.same n.listed (omega (arith, lists_from, ap (λ (m : Node). m.start) node_is))
        (omega (arith, ap (λ (m : Node). m.end) node_is))

    pub groups_put : AreGroups (With (one_more n) (set g.slots n.listed number))
    groups_put = record {
      len = length-set g.slots n.listed number ∙ inv.len;
      placed = placed_kept (one_more n) (set g.slots n.listed number) refl refl
          (omega (arith, lists_from)) (omega arith);
      slots = λ slot below. elim (cases_eq slot n.listed) [
        | inl e ↦
            let put : get_or (set g.slots n.listed number) slot 0 ≡ number =
            ap (λ t. get_or (set g.slots n.listed number) t 0) e
            ∙ get_or-set_same g.slots n.listed number 0 (omega (arith, ends_within)) in
            record {
              within = omega (arith, put);
              same =
                  ap (λ t. get_or g.places t 0) put
                  ∙ sym own_slot
                  ∙ ap (λ t. get_or g.places t 0) (sym e);
            }
        | inr other ↦
            let old = inv.slots slot below in
            let put : get_or (set g.slots n.listed number) slot 0 ≡ get_or g.slots slot 0 =
            get_or-set_other g.slots n.listed slot number 0 other in
            record {
              within = omega (arith, put, old.within);
              same = ap (λ t. get_or g.places t 0) put ∙ old.same;
            }
      ];
    }

    pub listed_put : IsListed (With (one_more n) (set g.slots n.listed number)) number
    listed_put =
        let slots : List ℕ = set g.slots n.listed number in
        subst (λ (m : Node). IsListedFrom m.start slots m number)
        (sym (new_node (one_more n) slots number (sym place_is)))
        (list_put g.slots n number lists_from part ends_within starts ends)

    pub listed_kept : (i : ℕ) → i < length g.places
        → IsListed g i → IsListed (With (one_more n) (set g.slots n.listed number)) i
    listed_kept i below old =
        let slots : List ℕ = set g.slots n.listed number in
        let placed = inv.placed i below in
        elim (cases_eq (get_or g.places i 0) k) [
          | inl e ↦
              let same : node_at g i ≡ n = ap (λ j. get_or g.nodes j no_node) e ∙ sym read in
              let kept = list_kept g.slots n number lists_from part ends_within i
              (omega (arith, placed.start, ap (λ (m : Node). m.start) same))
              (omega (arith, placed.end, ap (λ (m : Node). m.end) same))
              (subst (λ (m : Node). IsListedFrom m.start g.slots m i) same old) in
              subst (λ (m : Node). IsListedFrom m.start slots m i)
              (sym (new_node (one_more n) slots i e)) kept
          | inr other ↦
              listed_elsewhere (one_more n) slots i other
              (list_apart g.slots (node_at g i) n.listed number i placed.listed
              (λ t first last e.
              other (sym (placed.same t first last) ∙ ap (λ j. get_or g.places j 0) e ∙ own_slot
              ∙ sym place_is))
              old)
        ]
