-- The keys of a list's nodes follow the links, so they stay if the links stay, and a change of one
-- list changes only that list's keys.
use Rattle.std.proofs.Common.{◌≡◌, ◌≢◌, ℕ, zero, suc, ◌+◌, ◌<◌, ◌≤◌, List, [], ◌∷◌, ◌++◌, length}
use Rattle.std.proofs.Common.{get_or, set, map, Option, Some, None, IfSome, remove, slice_get, refl}
use Rattle.std.proofs.Common.{sym, ap, ◌∙◌, inl, inr, arith, Result, Ok, Err, false}
use Rattle.std.specs.Prelude.{IfOk, OnOk, OnErr, nat_eq}
use Rattle.std.specs.Result.{result_ok}
use Rattle.std.proofs.lemmas.Bool.{cases_lt, cases_eq, ne_eqb}
use Rattle.std.proofs.lemmas.List.{length_push, get_or_append_left, get_or_push, same_lists}
use Rattle.std.proofs.lemmas.List.{get_or-set_same, get_or-set_other}
use Rattle.std.proofs.lemmas.List.Edits.{length-remove, get_or-remove_below, get_or-remove_above}
use Rattle.std.proofs.lemmas.Option.{slice_get-get_or, same_Some}
use Rattle.st_arena.specs.declared.node.Node.{Node}
use Rattle.st_arena.specs.declared.node.Ends.{Ends}
use Rattle.st_arena.specs.Chain.{len_of, no_ends, ends_at, key_after, keys, node_keys, IsChain}
use Rattle.st_arena.specs.Chain.{AreChains, AreLadders, KeepsLadder, Appends, Unlinks, ChangesItems}
use Rattle.st_arena.proofs.ChainLemmas.{SameAt, chain_stays, key_after-first}
use Rattle.st_arena.proofs.AppendLemmas.{append_row, append_row-below, append_row-end}
use Rattle.st_arena.proofs.AppendLemmas.{append_others, append_here}
use Rattle.st_arena.proofs.UnlinkLemmas.{unlink_row, unlink_row-below, unlink_row-above}
use Rattle.st_arena.proofs.UnlinkLemmas.{unlink_others, unlink_here}
use Rattle.st_arena.proofs.ChangeLemmas.{change_chain}

-- a key added to the slots is a key added to the list of keys
pub map_Some-push : (xs : List ℕ) (x : ℕ)
    → map (λ n. Some n) xs ++ Some x ∷ [] ≡ map (λ n. Some n) (xs ++ x ∷ [])
map_Some-push [] x = refl
map_Some-push (y ∷ ys) x = ap (λ t. Some y ∷ t) (map_Some-push ys x)

-- ---- the keys of one list
module _ {T : Type 0} (slots : ℕ → Option (Node T)) where
  pub length-keys : (count first : ℕ) → length (keys slots count first) ≡ count
  length-keys zero first = refl
  length-keys (suc count) first =
      let rest = length-keys count first in
      omega (arith, rest, length_push (keys slots count first) (key_after slots first count))

  -- the key at `place` is the key `place` steps from the first
  pub get_or-keys : (count first place default : ℕ) → place < count
      → get_or (keys slots count first) place default ≡ key_after slots first place
  get_or-keys zero first place default inside = absurd (omega (arith, inside))
  get_or-keys (suc count) first place default inside =
      let len = length-keys count first in
      elim (cases_lt place count) [
        | inl before ↦
            get_or_append_left (keys slots count first) (key_after slots first count ∷ []) default
            place
            (omega (arith, len, before))
            ∙ get_or-keys count first place default before
        | inr past ↦
            let here : place ≡ count = omega (arith, inside, past) in
            get_or_push (keys slots count first) (key_after slots first count) default place
            (omega (arith, len, here))
            ∙ ap (key_after slots first) (sym here)
      ]

-- a list of `count` keys that has the right key at each place is the list of keys
pub keys_are : {T : Type 0} (slots : ℕ → Option (Node T)) (count first : ℕ) (found : List ℕ)
    → length found ≡ count
    → ((place default : ℕ) → place < count
    → get_or found place default ≡ key_after slots first place)
    → found ≡ keys slots count first
keys_are slots count first found len each =
    let many = length-keys slots count first in
    same_lists found (keys slots count first) (len ∙ sym many)
    (λ place default inside.
    let within : place < count = omega (arith, inside, len) in
    each place default within ∙ sym (get_or-keys slots count first place default within))

-- a list keeps its keys if it stays a chain under the same keys
pub keys_stay : {T : Type 0} (old new : ℕ → Option (Node T)) (ends : Ends) (key : ℕ → ℕ)
    → IsChain old ends key
    → IsChain new ends key → node_keys old ends ≡ node_keys new ends
keys_stay old new ends key chain later =
    keys_are new ends.len ends.first (node_keys old ends) (length-keys old ends.len ends.first)
    (λ place default inside.
    get_or-keys old ends.len ends.first place default inside
    ∙ key_after-first old ends key chain place inside
    ∙ sym (key_after-first new ends key later place inside))

-- a push adds one key at the end
pub keys_push : {T : Type 0} (old new : ℕ → Option (Node T)) (ends after : Ends) (key row : ℕ → ℕ)
    → IsChain old ends key → IsChain new after row → after.len ≡ suc ends.len
    → ((place : ℕ) → place < ends.len → row place ≡ key place) → (last : ℕ) → row ends.len ≡ last
    → node_keys old ends ++ last ∷ [] ≡ node_keys new after
keys_push old new ends after key row chain later longer below last at_end =
    let many = length-keys old ends.len ends.first in
    keys_are new after.len after.first (node_keys old ends ++ last ∷ [])
    (omega (arith, many, longer, length_push (node_keys old ends) last))
    (λ place default inside.
    elim (cases_lt place ends.len) [
      | inl before ↦
          get_or_append_left (node_keys old ends) (last ∷ []) default place
          (omega (arith, many, before))
          ∙ get_or-keys old ends.len ends.first place default before
          ∙ key_after-first old ends key chain place before
          ∙ sym (below place before)
          ∙ sym (key_after-first new after row later place inside)
      | inr past ↦
          let here : place ≡ ends.len = omega (arith, inside, longer, past) in
          get_or_push (node_keys old ends) last default place (omega (arith, many, here))
          ∙ sym at_end
          ∙ ap row (sym here)
          ∙ sym (key_after-first new after row later place inside)
    ])

-- a take removes the key at its place
pub keys_remove : {T : Type 0} (old new : ℕ → Option (Node T)) (ends after : Ends) (key row : ℕ → ℕ)
    (place : ℕ)
    → IsChain old ends key → IsChain new after row → suc after.len ≡ ends.len → place < ends.len
    → ((other : ℕ) → other < place → row other ≡ key other)
    → ((other : ℕ) → place ≤ other → row other ≡ key (suc other))
    → remove (node_keys old ends) place ≡ node_keys new after
keys_remove old new ends after key row place chain later shorter within below above =
    let many = length-keys old ends.len ends.first in
    let fewer = length-remove (node_keys old ends) place (omega (arith, many, within)) in
    keys_are new after.len after.first (remove (node_keys old ends) place)
    (omega (arith, many, fewer, shorter))
    (λ other default inside.
    elim (cases_lt other place) [
      | inl before ↦
          get_or-remove_below (node_keys old ends) place default other before
          (omega (arith, many, within))
          ∙ get_or-keys old ends.len ends.first other default (omega (arith, before, within))
          ∙ key_after-first old ends key chain other (omega (arith, before, within))
          ∙ sym (below other before)
          ∙ sym (key_after-first new after row later other inside)
      | inr behind ↦
          let next : other + 1 ≡ suc other = omega arith in
          get_or-remove_above (node_keys old ends) place default other behind
          (omega (arith, many, within))
          ∙ ap (λ p. get_or (node_keys old ends) p default) next
          ∙ get_or-keys old ends.len ends.first (suc other) default (omega (arith, inside, shorter))
          ∙ key_after-first old ends key chain (suc other) (omega (arith, inside, shorter))
          ∙ sym (above other behind)
          ∙ sym (key_after-first new after row later other inside)
    ])

-- ---- a list's ladder
-- the key that a ladder holds at a place is the key of the node there
pub ladder_key : {T : Type 0} (slots : ℕ → Option (Node T)) (ends : Ends) (place key : ℕ)
    (ladder : List ℕ)
    (found : Option (List ℕ)) → IfSome found (λ l. l ≡ node_keys slots ends) → found ≡ Some ladder
    → place < ends.len
    → slice_get ladder place ≡ Some key → key ≡ key_after slots ends.first place
ladder_key slots ends place key ladder found holds is inside there =
    let same : ladder ≡ node_keys slots ends = rw is at holds in
    let many = length-keys slots ends.len ends.first in
    let read : slice_get (node_keys slots ends) place
    ≡ Some (get_or (node_keys slots ends) place key) =
    slice_get-get_or (node_keys slots ends) place key (omega (arith, many, inside)) in
    same_Some _ _ (sym there ∙ ap (λ l. slice_get l place) same ∙ read)
    ∙ get_or-keys slots ends.len ends.first place key inside

-- what `IfSome` says holds of a value that is present
pub if_some : {A : Type 0} (P : A → Type 0) (found : Option A) (x : A) → IfSome found P
    → found ≡ Some x → P x
if_some P found x holds is = rw is at holds

-- what `IfOk` says holds of the value of an `Ok`
pub if_ok : {A E : Type 0} (P : A → Type 0) (result : Result A E) (x : A) → IfOk result P
    → result_ok result ≡ Some x → P x
if_ok P (Ok y) x holds is = rw (same_Some y x is) at holds
if_ok P (Err e) x holds is = absurd cc

-- what follows from each of the two outcomes holds
pub either_way : {A E : Type 0} (P Q R : Type 0) (result : Result A E) → OnOk result P
    → OnErr result Q → (P → R)
    → (Q → R) → R
either_way P Q R (Ok x) ok err from_ok from_err = from_ok ok
either_way P Q R (Err e) ok err from_ok from_err = from_err err

-- after a list's ladder is stored, the list has it and the other lists keep theirs
pub ladder_joins : (old new : ℕ → Option (List ℕ)) (list : ℕ) (ladder wanted : List ℕ)
    → ladder ≡ wanted
    → new list ≡ Some ladder → ((other : ℕ) → nat_eq list other ≡ false → new other ≡ old other)
    → KeepsLadder old new list wanted
ladder_joins old new list ladder wanted same here others =
    record {
      here = rw here same;
      others = λ other differs. others other (ne_eqb list other (λ e. differs (sym e)));
    }

-- if it can't be stored, the list has none and the other lists keep theirs
pub ladder_stays_out : (old new : ℕ → Option (List ℕ)) (list : ℕ) (wanted : List ℕ)
    → old list ≡ None
    → ((other : ℕ) → new other ≡ old other) → KeepsLadder old new list wanted
ladder_stays_out old new list wanted none same =
    record {
      here = rw (same list, none) tt;
      others = λ other differs. same other;
    }

-- what follows for each value follows for one that is present
if_some_then : {A : Type 0} (P Q : A → Type 0) (found : Option A) → ((x : A) → P x → Q x)
    → IfSome found P
    → IfSome found Q
if_some_then P Q None follows holds = tt
if_some_then P Q (Some x) follows holds = follows x holds

-- ---- among all lists: only one list's ladder changes
module _ {T : Type 0} (old new : ℕ → Option (Node T)) (ends : List Ends) (count capacity : ℕ)
    (sound : AreChains old ends count capacity) (ladders : ℕ → Option (List ℕ))
    (have : AreLadders old ends ladders)
    (list : ℕ) where
  module _ (in_range : list < length ends) (after : Ends) where
    -- if the nodes of all other lists stay, each ladder holds the keys of its list
    ladders_with : (later : ℕ → Option (List ℕ))
        → ((other place : ℕ) → other ≢ list → place < len_of (ends_at ends other)
        → SameAt old new (sound.key other place))
        → KeepsLadder ladders later list (node_keys new after)
        → AreLadders new (set ends list after) later
    ladders_with later same kept other =
        elim (cases_eq other list) [
          | inl is ↦
              let here : ends_at (set ends list after) other ≡ after =
              ap (ends_at (set ends list after)) is ∙ get_or-set_same ends list after no_ends
              in_range in
              rw (here, is) kept.here
          | inr differs ↦
              let there : ends_at (set ends list after) other ≡ ends_at ends other =
              get_or-set_other ends list other after no_ends differs in
              let stay =
              keys_stay old new (ends_at ends other) (sound.key other) (sound.chain other)
              (chain_stays old new (ends_at ends other) (sound.key other) (sound.chain other)
              (λ place inside. same other place differs inside)) in
              rw (there, kept.others other differs, ← stay) (have other)
        ]

    module _ (value : T) (change : Appends old new (ends_at ends list) after value) where
      -- with the last node's key added, the list's ladder holds the list's keys after a push
      pub append_ladder : IfSome (ladders list) (λ l. l ++ after.last ∷ [] ≡ node_keys new after)
      append_ladder =
          let more =
          keys_push old new (ends_at ends list) after (sound.key list)
          (append_row old new ends count capacity sound list in_range after value change)
          (sound.chain list)
          (append_here old new ends count capacity sound list in_range after value change)
          change.len
          (append_row-below old new ends count capacity sound list in_range after value change)
          after.last
          (append_row-end old new ends count capacity sound list in_range after value change
          ∙ sym change.last) in
          if_some_then _ _ (ladders list) (λ l is. ap (λ ks. ks ++ after.last ∷ []) is ∙ more)
          (have list)

      -- if the list keeps that ladder or none, all ladders are right after the push
      pub append_ladders : (later : ℕ → Option (List ℕ))
          → KeepsLadder ladders later list (node_keys new after)
          → AreLadders new (set ends list after) later
      append_ladders later =
          ladders_with later (append_others old new ends count capacity sound list in_range after
          value change)

    module _ (place gone : ℕ) (value : T)
        (change : Unlinks old new (ends_at ends list) after place gone value)
        (within : place < len_of (ends_at ends list)) (is_there : gone ≡ sound.key list place) where
      -- without the key at the place, the list's ladder holds the list's keys after a take
      pub unlink_ladder : IfSome (ladders list) (λ l. remove l place ≡ node_keys new after)
      unlink_ladder =
          let fewer =
          keys_remove old new (ends_at ends list) after (sound.key list)
          (unlink_row old new ends count capacity sound list in_range after place gone value change
          within is_there)
          place (sound.chain list)
          (unlink_here old new ends count capacity sound list in_range after place gone value change
          within is_there)
          change.len within
          (unlink_row-below old new ends count capacity sound list in_range after place gone value
          change within
          is_there)
          (unlink_row-above old new ends count capacity sound list in_range after place gone value
          change within
          is_there) in
          if_some_then _ _ (ladders list) (λ l is. ap (λ ks. remove ks place) is ∙ fewer)
          (have list)

      -- if the list keeps that ladder or none, all ladders are right after the take
      pub unlink_ladders : (later : ℕ → Option (List ℕ))
          → KeepsLadder ladders later list (node_keys new after)
          → AreLadders new (set ends list after) later
      unlink_ladders later =
          ladders_with later
          (unlink_others old new ends count capacity sound list in_range after place gone value
          change within is_there)

  -- after a change of one list's items, all ladders are right
  pub change_ladders : list < length ends → (R : T → T → Type 0)
      → ChangesItems old new R (ends_at ends list).first (len_of (ends_at ends list))
      → AreLadders new ends ladders
  change_ladders in_range R change other =
      let stay =
      keys_stay old new (ends_at ends other) (sound.key other) (sound.chain other)
      (change_chain old new ends count capacity sound list in_range R change other) in
      rw (← stay) (have other)
