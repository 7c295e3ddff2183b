-- The queue and the stored list have the same messages at the same places, and differ only in the
-- tokens of the wiped front. So each look and each change at a place of the queue is one at that
-- place of the stored list.
use Rattle.std.proofs.Common.{◌≡◌, ℕ, zero, suc, ◌+◌, ◌<◌, ◌≤◌, Bool, true, false, cond, List, []}
use Rattle.std.proofs.Common.{◌∷◌, ◌++◌, length, map, drop, remove, Option, None, Some, option_map}
use Rattle.std.proofs.Common.{position, slice_get, refl, sym, ◌∙◌, ap, arith}
use Rattle.std.specs.List.{position_from}
use Rattle.std.proofs.lemmas.Iterator.Adapters.{position_from-zero}
use Rattle.st_core.specs.declared.types.Message.{Message}
use Rattle.st_core.specs.declared.types.Token.{Token}
use Rattle.st_core.specs.Step.{untraced}
use Rattle.st_mail.specs.Wiped.{front_wiped}

-- LOOKS

-- wiping a front keeps the length
pub length-front : (n : ℕ) (ms : List Message) → length (front_wiped n ms) ≡ length ms
length-front zero ms = refl
length-front (suc n) [] = refl
length-front (suc n) (m ∷ ms) = ap suc (length-front n ms)

-- a message in the wiped front has no token
pub get-wiped : (n k : ℕ) (ms : List Message) → k < n
    → slice_get (front_wiped n ms) k ≡ option_map untraced (slice_get ms k)
get-wiped zero k ms below = absurd (omega arith)
get-wiped (suc n) k [] below = refl
get-wiped (suc n) zero (m ∷ ms) below = refl
get-wiped (suc n) (suc k) (m ∷ ms) below = get-wiped n k ms (omega arith)

-- a message behind the wiped front is as it is stored
pub get-kept : (n k : ℕ) (ms : List Message) → n ≤ k
    → slice_get (front_wiped n ms) k ≡ slice_get ms k
get-kept zero k ms behind = refl
get-kept (suc n) zero ms behind = absurd (omega arith)
get-kept (suc n) (suc k) [] behind = refl
get-kept (suc n) (suc k) (m ∷ ms) behind = get-kept n k ms (omega arith)

-- CHANGES

-- wiping all messages wipes a queue of which any front was wiped before
pub wipe_all : (n : ℕ) (ms : List Message)
    → front_wiped (length ms) ms ≡ map untraced (front_wiped n ms)
wipe_all zero [] = refl
wipe_all zero (m ∷ ms) = ap (λ rest. untraced m ∷ rest) (wipe_all zero ms)
wipe_all (suc n) [] = refl
wipe_all (suc n) (m ∷ ms) = ap (λ rest. untraced m ∷ rest) (wipe_all n ms)

-- a push leaves the wiped front
pub front-push : (n : ℕ) (ms : List Message) (last : Message) → n ≤ length ms
    → front_wiped n (ms ++ last ∷ []) ≡ front_wiped n ms ++ last ∷ []
front-push zero ms last within = refl
front-push (suc n) [] last within = absurd (omega arith)
front-push (suc n) (m ∷ ms) last within =
    ap (λ rest. untraced m ∷ rest) (front-push n ms last (omega arith))

-- a take from the wiped front shortens it by one
pub remove-wiped : (n k : ℕ) (ms : List Message) → k ≤ n
    → front_wiped n (remove ms k) ≡ remove (front_wiped (suc n) ms) k
remove-wiped zero zero [] within = refl
remove-wiped (suc n) zero [] within = refl
remove-wiped n zero (m ∷ ms) within = refl
remove-wiped zero (suc k) ms within = absurd (omega arith)
remove-wiped (suc n) (suc k) [] within = refl
remove-wiped (suc n) (suc k) (m ∷ ms) within =
    ap (λ rest. untraced m ∷ rest) (remove-wiped n k ms (omega arith))

-- a take from behind the wiped front leaves it
pub remove-kept : (n k : ℕ) (ms : List Message) → n ≤ k
    → front_wiped n (remove ms k) ≡ remove (front_wiped n ms) k
remove-kept zero k ms behind = refl
remove-kept (suc n) zero ms behind = absurd (omega arith)
remove-kept (suc n) (suc k) [] behind = refl
remove-kept (suc n) (suc k) (m ∷ ms) behind =
    ap (λ rest. untraced m ∷ rest) (remove-kept n k ms (omega arith))

-- SEARCHES

-- the test doesn't look at tokens
abbrev pub IsBlind : (Message → Bool) → Type 0
IsBlind test = (m : Message) → test (untraced m) ≡ test m

blind_from : (test : Message → Bool) (i n : ℕ) (ms : List Message) → IsBlind test
    → position_from test i ms ≡ position_from test i (front_wiped n ms)
blind_from test i zero ms blind = refl
blind_from test i (suc n) [] blind = refl
blind_from test i (suc n) (m ∷ ms) blind =
    rw (blind m) (ap (cond (test m) (Some i)) (blind_from test (i + 1) n ms blind))

-- so it passes first at the same place in the stored list
pub position-blind : (test : Message → Bool) (n : ℕ) (ms : List Message) → IsBlind test
    → position test ms ≡ position test (front_wiped n ms)
position-blind test n ms blind =
    position_from-zero test ms
    ∙ blind_from test 0 n ms blind
    ∙ sym (position_from-zero test (front_wiped n ms))

-- a test of tokens that fails without a token
module _ (test : Option Token → Bool) (fails : test None ≡ false) where
  abbrev of : Message → Bool
  of m = test m.token

  shifted : (i n : ℕ) (ms : List Message)
      → position_from of (i + n) ms ≡ option_map (λ k. n + k) (position_from of i ms)
  shifted i n [] = refl
  shifted i n (m ∷ ms) =
      let there : i + n ≡ n + i = omega arith in
      let next : i + n + 1 ≡ i + 1 + n = omega arith in
      rw (next, shifted (i + 1) n ms) (by (of m) there)
    where
      by : (b : Bool) → i + n ≡ n + i
          → cond b (Some (i + n)) (option_map (λ k. n + k) (position_from of (i + 1) ms))
          ≡ option_map (λ k. n + k) (cond b (Some i) (position_from of (i + 1) ms))
      by true there = ap Some there
      by false there = refl

  skipped : (i n : ℕ) (ms : List Message)
      → position_from of i (front_wiped n ms) ≡ position_from of (i + n) (drop n ms)
  skipped i zero ms = ap (λ j. position_from of j ms) (omega arith)
  skipped i (suc n) [] = refl
  skipped i (suc n) (m ∷ ms) =
      let next : i + 1 + n ≡ i + suc n = omega arith in
      rw fails (skipped (i + 1) n ms ∙ ap (λ j. position_from of j (drop n ms)) next)

  -- passes first behind the wiped front
  pub position-skips : (n : ℕ) (ms : List Message)
      → position of (front_wiped n ms) ≡ option_map (λ k. n + k) (position of (drop n ms))
  position-skips n ms =
      position_from-zero of (front_wiped n ms)
      ∙ skipped 0 n ms
      ∙ shifted 0 n (drop n ms)
      ∙ ap (option_map (λ k. n + k)) (sym (position_from-zero of (drop n ms)))
