-- A message that comes brings its own keys, and one that leaves its slot takes them along, so each
-- set of keys follows the slots.
use Rattle.std.proofs.Common.{◌≡◌, ℕ, Bool, true, false, not, ◌==◌, ◌&&◌, ◌||◌, List, [], ◌∷◌, ◌++◌}
use Rattle.std.proofs.Common.{length, set, Option, Some, None, refl, sym, ap, ◌∙◌}
use Rattle.std.proofs.lemmas.Bool.{eqb-true}
use Rattle.std.specs.declared.cmp.Ordering.{Ordering}
use Rattle.std.specs.Ordering.{nat_cmp, is_eq}
use Rattle.st_core.specs.declared.types.Message.{Message}
use Rattle.st_core.specs.declared.types.Pid.{Pid}
use Rattle.st_core.specs.declared.types.Token.{Token}
use Rattle.st_core.specs.Pid.{pid_cmp, pid_eq}
use Rattle.st_mail.specs.declared.keyed_slots.KeyedSlots.{KeyedSlots}
use Rattle.st_mail.specs.KeyedSlots.{has_key, is_kept}
use Rattle.st_mail.specs.Index.{IsKeyedBy, bears_stamp, is_from, is_of_value, is_of_both}
use Rattle.st_mail.specs.Index.{pid_count_cmp}
use Rattle.st_mail.specs.Slots.{item_at, passes}
use Rattle.st_mail.proofs.PairLemmas.{nat_cmp-is_eq, both_equal}
use Rattle.st_mail.proofs.SlotLemmas.{passes-push, passes-set}

-- THE KEYS OF A MESSAGE

-- `key` is the key of the message: the message passes just the tests of that key
abbrev pub IsKeyOf : {K : Type 0} → (K → K → Ordering) → (K → Message → Bool) → K → Message → Type 0
IsKeyOf {K} cmp test key m = (k : K) → is_eq (cmp key k) ≡ test k m

pid_equal : (p q : Pid) → is_eq (pid_cmp p q) ≡ pid_eq p q
pid_equal p q =
    both_equal (nat_cmp p.node q.node) p.number q.number
    ∙ ap (λ (b : Bool). b && p.number == q.number) (nat_cmp-is_eq p.node q.node)

pub value_key : (m : Message) → IsKeyOf nat_cmp is_of_value m.value m
value_key m k = nat_cmp-is_eq m.value k

pub from_key : (m : Message) → IsKeyOf pid_cmp is_from m.from m
from_key m k = pid_equal m.from k

pub both_key : (m : Message) → IsKeyOf pid_count_cmp is_of_both (m.from, m.value) m
both_key m k =
    both_equal (pid_cmp m.from k.0) m.value k.1 ∙ ap (λ (b : Bool). b && m.value == k.1)
    (pid_equal m.from k.0)

pub stamp_key : (t : Token) (k : Pid × ℕ)
    → is_eq (pid_count_cmp (t.from, t.serial.this) k) ≡ bears_stamp k.0 k.1 (Some t)
stamp_key t k =
    both_equal (pid_cmp t.from k.0) t.serial.this k.1
    ∙ ap (λ (b : Bool). b && t.serial.this == k.1) (pid_equal t.from k.0)

-- SETS OF KEYS

left : (b c p : Bool) → c ≡ false → (not (b && c) && p) ≡ (not c && p)
left true c p is = rw is refl
left false c p is = rw is refl

gone : (b c : Bool) → c ≡ true → (not (b && c) && b) ≡ (not c && b)
gone true c is = rw is refl
gone false c is = rw is refl

module _ {K : Type 0} (cmp : K → K → Ordering) (test : K → Message → Bool) where
  module _ (slots : List (Option Message)) (m : Message) (own : K → Bool)
      (same : (k : K) → own k ≡ test k m) where
    -- after a message gets the next slot and its keys, each slot has its own message's keys
    pub keyed-push : (old new : KeyedSlots K) (slot : ℕ) → slot ≡ length slots
        → (is_kept old ≡ true → (k : K) (s : ℕ)
        → has_key cmp new k s ≡ (own k && slot == s || has_key cmp old k s))
        → is_kept new ≡ is_kept old
        → IsKeyedBy cmp test old slots → IsKeyedBy cmp test new (slots ++ Some m ∷ [])
    keyed-push old new slot at is stays kept on k s =
        let was : is_kept old ≡ true = sym stays ∙ on in
        is was k s ∙ rw (same k, at, kept was k s) (sym (passes-push (test k) slots m s))

    -- after a slot is emptied and loses its keys, each slot has its own message's keys
    pub keyed-set : (slot : ℕ) → item_at slots slot ≡ Some m → (old new : KeyedSlots K)
        → ((k : K) (s : ℕ) → has_key cmp new k s
        ≡ (not (own k && slot == s) && has_key cmp old k s))
        → is_kept new ≡ is_kept old
        → IsKeyedBy cmp test old slots → IsKeyedBy cmp test new (set slots slot None)
    keyed-set slot there old new is stays kept on k s =
        is k s ∙ rw (same k, kept (sym stays ∙ on) k s)
        (by (slot == s) refl ∙ sym (passes-set (test k) slots slot s))
      where
        by : (c : Bool) → (slot == s) ≡ c
            → (not (test k m && slot == s) && passes (test k) (item_at slots s))
            ≡ (not (slot == s) && passes (test k) (item_at slots s))
        by true e =
            let here : passes (test k) (item_at slots s) ≡ test k m =
            ap (λ n. passes (test k) (item_at slots n)) (sym (eqb-true slot s e))
            ∙ ap (passes (test k)) there in
            rw here (gone (test k m) (slot == s) e)
        by false e = left (test k m) (slot == s) (passes (test k) (item_at slots s)) e
