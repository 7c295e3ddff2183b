-- An index of a queue: its slots, and the keys by which it finds messages.
use Rattle.std.specs.Prelude.{◌≡◌, ◌==◌, ◌&&◌, ◌-◌, ℕ, Bool, true, false, List, Option, Some, None}
use Rattle.std.specs.Prelude.{length}
use Rattle.std.specs.declared.cmp.Ordering.{Ordering}
use Rattle.std.specs.Ordering.{nat_cmp, ordering_then}
use Rattle.st_core.specs.declared.types.Message.{Message}
use Rattle.st_core.specs.declared.types.Pid.{Pid}
use Rattle.st_core.specs.declared.types.Token.{Token}
use Rattle.st_core.specs.Pid.{pid_cmp, pid_eq}
use Rattle.st_mail.specs.declared.index.Index.{Index}
use Rattle.st_mail.specs.declared.keyed_slots.KeyedSlots.{KeyedSlots}
use Rattle.st_mail.specs.declared.keys.Keys.{Keys}
use Rattle.st_mail.specs.KeyedSlots.{has_key, is_kept}
use Rattle.st_mail.specs.Slots.{item_at, passes}
use Rattle.st_arena.specs.Queue.{kept, AreRanksOf}

-- the token has the from `from` and the own count `this`
abbrev pub bears_stamp : Pid → ℕ → Option Token → Bool
bears_stamp from this None = false
bears_stamp from this (Some t) = pid_eq t.from from && t.serial.this == this

-- the test of a message by each key

abbrev pub is_of_value : ℕ → Message → Bool
is_of_value value m = m.value == value

abbrev pub is_from : Pid → Message → Bool
is_from from m = pid_eq m.from from

abbrev pub is_of_both : Pid × ℕ → Message → Bool
is_of_both key m = pid_eq m.from key.0 && m.value == key.1

abbrev pub bears_key : Pid × ℕ → Message → Bool
bears_key key m = bears_stamp key.0 key.1 m.token

-- pairs of a pid and a count are ordered by pid and then count
abbrev pub pid_count_cmp : Pid × ℕ → Pid × ℕ → Ordering
pid_count_cmp a b = ordering_then (pid_cmp a.0 b.0) (nat_cmp a.1 b.1)

-- if keys are kept, a slot has a key if and only if it has a message that passes the key's test
abbrev pub IsKeyedBy : {K : Type 0} → (K → K → Ordering) → (K → Message → Bool) → KeyedSlots K
    → List
    (Option Message) → Type 0
IsKeyedBy {K} cmp test keyed slots = is_kept keyed ≡ true →
    (k : K) (s : ℕ) → has_key cmp keyed k s ≡ passes (test k) (item_at slots s)

-- the keys by which the index finds messages
abbrev pub keys_of : Index → Keys
keys_of index = record {
  value = is_kept index.values;
  sender = is_kept index.senders;
  both = is_kept index.pairs;
  stamp = is_kept index.stamps;
}

-- how many more messages the index has slots for
abbrev pub room : Index → ℕ
room index = length index.ranks - index.used

-- the slots that the index has given out are `slots`, each with its message, or empty after the
-- message left
pub record HasSlots (index : Index) (slots : List (Option Message)) : Type 0 where
  pub used : index.used ≡ length slots
  pub ranks : AreRanksOf index.ranks slots
  pub values : IsKeyedBy nat_cmp is_of_value index.values slots
  pub senders : IsKeyedBy pid_cmp is_from index.senders slots
  pub pairs : IsKeyedBy pid_count_cmp is_of_both index.pairs slots
  pub stamps : IsKeyedBy pid_count_cmp bears_key index.stamps slots

-- the index is one of the queue
pub record IsIndexOf (index : Index) (queue : List Message) : Type 0 where
  pub slots : List (Option Message)
  pub has_slots : HasSlots index slots
  pub items : kept slots ≡ queue

-- the index is one of some queue
pub record IsIndex (index : Index) : Type 0 where
  pub queue : List Message
  pub is : IsIndexOf index queue
