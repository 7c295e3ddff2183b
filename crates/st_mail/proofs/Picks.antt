-- A pattern that asks for a place picks the message there, and any other pattern picks the first
-- message that passes a test. So a search by the test finds the place, and the message there is
-- the one picked.
use Rattle.std.proofs.Common.{◌≡◌, ℕ, ◌+◌, ◌<◌, ◌≤◌, suc, ◌==◌, Bool, true, false, cond, nat_lt}
use Rattle.std.proofs.Common.{List, [], ◌∷◌, length, Option, Some, None, option_map, position}
use Rattle.std.proofs.Common.{slice_get, refl, sym, ◌∙◌, ap, arith}
use Rattle.std.specs.List.{position_from}
use Rattle.std.proofs.lemmas.Bool.{eqb-true}
use Rattle.std.proofs.lemmas.Bool.Decides.{nat_tests}
use Rattle.std.proofs.lemmas.Iterator.Adapters.{position_from-zero}
use Rattle.std.proofs.lemmas.Option.{same_Some}
use Rattle.st_core.specs.declared.types.Message.{Message}
use Rattle.st_core.specs.declared.types.Want.{Want}
use Rattle.st_core.specs.declared.types.Want.TheVariants as want
use Rattle.st_core.specs.Pick.{matches, pick_from, pick}
use Rattle.st_core.proofs.ForCallers.{pick_found}

-- the place of the message that the pattern picks, if the places of the queue begin at n
abbrev place_from : ℕ → Want → List Message → Option ℕ
place_from n w ms = option_map (λ f. f.0) (pick_from n w ms)

-- the place of the message that the pattern picks
abbrev pub place_picked : Want → List Message → Option ℕ
place_picked w ms = option_map (λ f. f.0) (pick w ms)

-- k, if k is below `len`
abbrev pub below : ℕ → ℕ → Option ℕ
below k len = cond (nat_lt k len) (Some k) None

-- A PATTERN THAT DOESN'T ASK FOR A PLACE

-- the pattern matches a message at any place if and only if it passes the test
abbrev pub IsTest : Want → (Message → Bool) → Type 0
IsTest w test = (k : ℕ) (m : Message) → matches w k m ≡ test m

picked_from : (n : ℕ) (w : Want) (test : Message → Bool) (ms : List Message)
    → IsTest w test → place_from n w ms ≡ position_from test n ms
picked_from n w test [] same = refl
picked_from n w test (m ∷ ms) same =
    let this = λ (b : Bool).
    option_map (λ f. f.0) (cond b (Some (n, m)) (pick_from (n + 1) w ms)) in
    let that = λ (b : Bool). cond b (Some n) (position_from test (n + 1) ms) in
    rw (same n m) (elim (test m) as (λ b. this b ≡ that b) [
      | true ↦ refl
      | false ↦ picked_from (n + 1) w test ms same
    ])

pub picked : (w : Want) (test : Message → Bool) (ms : List Message)
    → IsTest w test → position test ms ≡ place_picked w ms
picked w test ms same = position_from-zero test ms ∙ sym (picked_from 0 w test ms same)

-- A PATTERN THAT DOES

lt_true : (m n : ℕ) → m < n → nat_lt m n ≡ true
lt_true m n h = grind (arith, nat_tests)

lt_false : (m n : ℕ) → n ≤ m → nat_lt m n ≡ false
lt_false m n h = grind (arith, nat_tests)

past : (m n : ℕ) → m ≤ n → (m == n) ≡ false → m + 1 ≤ n
past m n h e = grind (arith, nat_tests)

placed_from : (n k : ℕ) (ms : List Message) → n ≤ k
    → place_from n (want.Place k) ms ≡ below k (n + length ms)
placed_from n k [] h = rw (lt_false k (n + 0) (omega arith)) refl
placed_from n k (m ∷ ms) h =
    let rest : n + 1 ≤ k → place_from (n + 1) (want.Place k) ms ≡ below k (n + suc (length ms)) =
    λ le. placed_from (n + 1) k ms le ∙ ap (below k) (omega arith) in
    by (n == k) refl rest
  where
    by : (b : Bool) → (n == k) ≡ b
        → (n + 1 ≤ k → place_from (n + 1) (want.Place k) ms ≡ below k (n + suc (length ms)))
        → place_from n (want.Place k) (m ∷ ms) ≡ below k (n + length (m ∷ ms))
    by true e rest =
        let same : n ≡ k = eqb-true n k e in
        rw (e, lt_true k (n + suc (length ms)) (omega arith)) (ap Some same)
    by false e rest = rw e (rest (past n k h e))

-- a pattern by place picks the message at that place, if there is one
pub placed : (k : ℕ) (ms : List Message) → below k (length ms) ≡ place_picked (want.Place k) ms
placed k ms = ap (below k) (omega arith) ∙ sym (placed_from 0 k ms (omega arith))

-- the pattern for the first message picks the message at place 0, if there is one
pub firsts : (ms : List Message) → below 0 (length ms) ≡ place_picked want.First ms
firsts [] = refl
firsts (m ∷ ms) = rw (lt_true 0 (suc (length ms)) (omega arith)) refl

-- WHAT STANDS THERE

-- the pattern picks the message at place k
pub record IsPicked (w : Want) (ms : List Message) (k : ℕ) : Type 0 where
  pub message : Message
  pub stands : slice_get ms k ≡ Some message
  pub given : pick w ms ≡ Some (k, message)

pub picked_at : (w : Want) (ms : List Message) (k : ℕ) → place_picked w ms ≡ Some k
    → IsPicked w ms k
picked_at w ms k e = by (pick w ms) refl e
  where
    by : (o : Option (ℕ × Message)) → pick w ms ≡ o → option_map (λ f. f.0) o ≡ Some k
        → IsPicked w ms k
    by None is e = absurd (cc)
    by (Some found) is e =
        let at : found.0 ≡ k = same_Some found.0 k e in
        record {
          message = found.1;
          stands = ap (slice_get ms) (sym at) ∙ pick_found w ms found is;
          given = is ∙ ap (λ j. Some (j, found.1)) at;
        }

-- so the pattern picks the message found at the place that it picks
pub given_at : (w : Want) (ms : List Message) (k : ℕ) (m : Message)
    → place_picked w ms ≡ Some k → slice_get ms k ≡ Some m → Some (k, m) ≡ pick w ms
given_at w ms k m e there =
    let at = picked_at w ms k e in
    let same : m ≡ at.message = same_Some m at.message (sym there ∙ at.stands) in
    ap (λ n. Some (k, n)) same ∙ sym at.given
