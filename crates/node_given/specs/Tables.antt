-- The tokens that the walk keeps.
use Rattle.std.specs.Prelude.{◌≡◌, ℕ, ◌==◌, ◌&&◌, nat_eq, Bool, true, List, Some, IsSome}
use Rattle.std.specs.HashMap.{get}
use Rattle.std.specs.HashSet.{contains}
use Rattle.st_core.specs.declared.types.Serial.{Serial}
use Rattle.node_machine.specs.Premises.{IsAmong}
use Rattle.node_given.specs.declared.tokens.Tokens.{Tokens}

abbrev pub same_pair : ℕ × ℕ → ℕ × ℕ → Bool
same_pair a b = a.0 == b.0 && a.1 == b.1

-- the tables have exactly the serials
pub record AreTokens (xs : List Serial) (t : Tokens) : Type 0 where
  pub known : (x : Serial) → IsAmong xs x → contains same_pair t.serials (x.prev, x.this) ≡ true
  pub sound : (x : Serial) → contains same_pair t.serials (x.prev, x.this) ≡ true → IsAmong xs x
  pub counted : (x : Serial) → IsAmong xs x → IsSome (get nat_eq t.prevs x.this)
  pub had : (this prev : ℕ) → get nat_eq t.prevs this ≡ Some prev
      → IsAmong xs (record { prev = prev; this = this })
