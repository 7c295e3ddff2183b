-- A change of one list's items keeps every link, and writes no node of another list.
use Rattle.std.proofs.Common.{◌≡◌, ◌≢◌, ℕ, suc, ◌<◌, List, length, map, set, Option, refl, sym, ap}
use Rattle.std.proofs.Common.{◌∙◌, inl, inr, arith, Some, IsSome, is_some}
use Rattle.std.proofs.lemmas.Bool.{cases_lt, cases_eq}
use Rattle.std.proofs.lemmas.List.{set-get_or}
use Rattle.std.specs.List.{AllZip}
use Rattle.st_arena.specs.declared.node.Node.{Node}
use Rattle.st_arena.specs.declared.node.Ends.{Ends}
use Rattle.st_arena.specs.Chain.{len_of, no_ends, ends_at, value_in, next_key, values_of, key_after}
use Rattle.st_arena.specs.Chain.{IsChain, AreChains, Turns, ChangesItems, IsChained, SetsItem}
use Rattle.st_arena.proofs.ChainLemmas.{SameAt, held_after, steps_apart, is_some-value_in}
use Rattle.st_arena.proofs.ChainLemmas.{length-values_of, get-values_of, key_after-first}
use Rattle.st_arena.proofs.ArenaLemmas.{lists_with}
use Rattle.st_arena.proofs.CallLemmas.{AllZip-from_places}

-- ---- on one chain
-- one more item is changed
module _ {T : Type 0} (old now new : ℕ → Option (Node T)) (ends : Ends)
    (chained : IsChained old ends)
    (R : T → T → Type 0) (count : ℕ) (so_far : ChangesItems old now R ends.first count)
    (within : count < ends.len)
    (key : ℕ) (is_there : key ≡ key_after old ends.first count) where
  -- the slab has the next node to be changed
  pub change_there : IsSome (now key)
  change_there =
      sym (is_some-value_in (now key))
      ∙ ap (λ k. is_some (value_in (now k))) is_there
      ∙ ap is_some (so_far.items_stay (key_after old ends.first count) not_yet)
      ∙ is_some-value_in (old (key_after old ends.first count))
      ∙ held_after old ends chained count within
    where
      not_yet : (place : ℕ) → place < count
          → key_after old ends.first count ≢ key_after old ends.first place
      not_yet place before same =
          let both : count ≡ place =
          steps_apart old ends chained count place within (omega arith) same in
          absurd (omega arith)

  module _ (node : Node T) (is_node : now key ≡ Some node) where
    -- its next is the node after it
    pub change_next : node.next ≡ key_after old ends.first (suc count)
    change_next = sym (ap next_key is_node) ∙ so_far.next_stay key
        ∙ ap (λ k. next_key (old k)) is_there

    -- after its change, one more node is changed
    pub change_more : (value : T) → SetsItem now new key value → R node.value value
        → ChangesItems old new R ends.first (suc count)
    change_more value change related =
        record {
          next_stay = λ other. change.next_stay other ∙ so_far.next_stay other;
          previous_stay = λ other. change.previous_stay other ∙ so_far.previous_stay other;
          items_stay = λ other apart.
              change.items_stay other (λ e. apart count (omega arith) (e ∙ is_there))
              ∙ so_far.items_stay other (λ place before. apart place (omega arith));
          changed = λ place before.
              elim (cases_lt place count) [
                | inl earlier ↦
                    let turned = so_far.changed place earlier in
                    record {
                      before = turned.before;
                      after = turned.after;
                      was = turned.was;
                      is = change.items_stay (key_after old ends.first place)
                          (not_key place earlier) ∙ turned.is;
                      related = turned.related;
                    }
                | inr later ↦
                    let here : count ≡ place = omega arith in
                    let at_key : key ≡ key_after old ends.first place =
                    is_there ∙ ap (key_after old ends.first) here in
                    record {
                      before = node.value;
                      after = value;
                      was =
                          sym (so_far.items_stay (key_after old ends.first place)
                          (not_yet place here))
                          ∙ ap (λ k. value_in (now k)) (sym at_key)
                          ∙ ap value_in is_node;
                      is = ap (λ k. value_in (new k)) (sym at_key) ∙ change.changed;
                      related = related;
                    }
              ];
        }
      where
        not_key : (place : ℕ) → place < count → key_after old ends.first place ≢ key
        not_key place earlier same =
            let both : place ≡ count =
            steps_apart old ends chained place count (omega arith) within (same ∙ is_there) in
            absurd (omega arith)

        not_yet : (place : ℕ) → count ≡ place → (other : ℕ) → other < count
            → key_after old ends.first place ≢ key_after old ends.first other
        not_yet place here other before same =
            let both : place ≡ other =
            steps_apart old ends chained place other (omega arith) (omega arith) same in
            absurd (omega arith)

-- ---- among all lists
module _ {T : Type 0} (old new : ℕ → Option (Node T)) (ends : List Ends) (count capacity : ℕ)
    (sound : AreChains old ends count capacity) (list : ℕ) (in_range : list < length ends)
    (R : T → T → Type 0)
    (change : ChangesItems old new R (ends_at ends list).first (len_of (ends_at ends list))) where
  -- `place` steps lead to the key of `place`
  change_steps : (place : ℕ) → place < len_of (ends_at ends list)
      → key_after old (ends_at ends list).first place ≡ sound.key list place
  change_steps place within =
      key_after-first old (ends_at ends list) (sound.key list) (sound.chain list) place within

  -- R relates each item of the list to its new value
  change_turns : (place : ℕ) → place < len_of (ends_at ends list)
      → Turns R (value_in (old (sound.key list place))) (value_in (new (sound.key list place)))
  change_turns place within = rw (change_steps place within) at (change.changed place within)

  -- the nodes of all other lists stay as they were
  change_others : (other place : ℕ) → other ≢ list → place < len_of (ends_at ends other)
      → SameAt old new (sound.key other place)
  change_others other place differs inside =
      record {
        item =
            change.items_stay _
            (λ there within same.
            sound.disjoint other list place there differs inside within
            (same ∙ change_steps there within));
        next = change.next_stay _;
        previous = change.previous_stay _;
      }

  -- each list is still a chain, under the same keys
  pub change_chain : (other : ℕ) → IsChain new (ends_at ends other) (sound.key other)
  change_chain other =
      record {
        held = λ place inside.
            elim (cases_eq other list) [
              | inl is ↦
                  let within : place < len_of (ends_at ends list) = rw is at inside in
                  rw (is, (change_turns place within).is) refl
              | inr differs ↦ rw ((change_others other place differs inside).item)
                  ((sound.chain other).held place inside)
            ];
        apart = (sound.chain other).apart;
        first = (sound.chain other).first;
        last = (sound.chain other).last;
        next = λ place inside. change.next_stay _ ∙ (sound.chain other).next place inside;
        previous = λ place inside. change.previous_stay _ ∙ (sound.chain other).previous place
            inside;
      }

  -- the arena is sound after the change
  pub change_sound : (new_count new_capacity : ℕ) → new_count ≡ count → new_capacity ≡ capacity
      → AreChains new ends new_count new_capacity
  change_sound new_count new_capacity same_count same_capacity =
      record {
        key = sound.key;
        chain = change_chain;
        disjoint = sound.disjoint;
        total = sound.total ∙ sym same_count;
        within = omega (arith, sound.within);
      }

  -- only that list changed
  pub change_lists : map (values_of new) ends
      ≡ set (map (values_of old) ends) list (values_of new (ends_at ends list))
  change_lists =
      ap (map (values_of new)) (sym (set-get_or ends list no_ends))
      ∙ lists_with old new ends count capacity sound list in_range (ends_at ends list)
      (values_of new (ends_at ends list)) change_others refl

  -- R relates its items to the new ones, place by place
  pub change_each : AllZip R (values_of old (ends_at ends list)) (values_of new (ends_at ends list))
  change_each =
      AllZip-from_places R (values_of old (ends_at ends list)) (values_of new (ends_at ends list))
      (many_old ∙ sym many_new)
      (λ place here.
      let within : place < len_of (ends_at ends list) = omega (arith, many_old) in
      rw (
        get-values_of old (ends_at ends list) (sound.key list) (sound.chain list) place within,
        get-values_of new (ends_at ends list) (sound.key list) (change_chain list) place within,
      )
      (change_turns place within))
    where
      many_old : length (values_of old (ends_at ends list)) ≡ len_of (ends_at ends list)
      many_old = length-values_of old (ends_at ends list) (sound.key list) (sound.chain list)

      many_new : length (values_of new (ends_at ends list)) ≡ len_of (ends_at ends list)
      many_new = length-values_of new (ends_at ends list) (sound.key list) (change_chain list)
