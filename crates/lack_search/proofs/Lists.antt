-- A list keeps what it counts if an item is replaced by one that counts the same.
use Rattle.std.proofs.Common.{◌≡◌, ℕ, zero, suc, List, [], ◌∷◌, map, get_or, refl, ◌∙◌, ap}
use Rattle.std.proofs.Math.ListN.{set}
use Rattle.lack_search.specs.declared.asks.Ask.{Ask}
use Rattle.lack_search.specs.declared.asks.GivenMessage.{GivenMessage}
use Rattle.lack_search.specs.declared.asks.GivenMessage.TheVariants as given
use Rattle.lack_search.specs.Inventions.{without_message, without_messages}

pub map_set_same : {X Y : Type 0} (f : X → Y) (xs : List X) (i : ℕ) (x d : X)
    → f x ≡ f (get_or xs i d) → map f (set xs i x) ≡ map f xs
map_set_same f [] i x d same = refl
map_set_same f (y ∷ xs) zero x d same = ap (λ z. z ∷ map f xs) same
map_set_same f (y ∷ xs) (suc i) x d same = ap (λ zs. f y ∷ zs) (map_set_same f xs i x d same)

-- the stamp that is read past the end
abbrev none : Ask
none = record {
  process = record { node = 0; number = 0 };
  index = 0;
  label = record { 0 = 0 };
  count = 0;
  message = given.Missing;
}

-- a stamp that gets a message changes in nothing else
pub message_given : (old new : List Ask) (i : ℕ) (m : GivenMessage)
    → new ≡ set old i (record (get_or old i none) { message = m })
    → without_messages new ≡ without_messages old
message_given old new i m is =
    ap without_messages is
    ∙ map_set_same without_message old i (record (get_or old i none) { message = m }) none refl
