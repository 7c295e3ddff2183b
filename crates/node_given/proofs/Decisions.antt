-- Each test of the walk looks at all clocks and tokens that can give the stamp, so it decides what
-- does.
use Rattle.std.proofs.Common.{◌≡◌, ◌≢◌, ℕ, ◌<◌, ◌≤◌, ◌^◌, ◌⊎◌, ◌||◌, max, cond, Bool, true, false}
use Rattle.std.proofs.Common.{zero, suc, length, take, Some, ◌+◌, List, [], ◌∷◌, ◌++◌, Result, Ok}
use Rattle.std.proofs.Common.{Err, OnOk, inl, inr, refl, arith, sym, ◌∙◌, ap, subst}
use Rattle.std.specs.List.{AllByRecursion, list_any, slice_get}
use Rattle.std.proofs.lemmas.Bool.{false≢true}
use Rattle.std.proofs.lemmas.Option.{none-some, same_Some}
use Rattle.st_core.specs.declared.types.Serial.{Serial}
use Rattle.st_core.specs.declared.types.Kind.TheVariants as kind
use Rattle.node_machine.specs.Counts.{stamp_count}
use Rattle.node_machine.specs.declared.types.Seen.{Seen}
use Rattle.node_machine.specs.declared.types.Reading.{Reading}
use Rattle.node_machine.specs.Premises.{IsAmong}
use Rattle.node_machine.specs.Readings.{is_next, is_receipt, last_behind, NeedsPutBack, readings}
use Rattle.node_machine.specs.Given.{fresh, IsGiven, shown, takes, tokens}
use Rattle.node_machine.specs.Ways.{IsLowered, IsPlainly}
use Rattle.node_machine.proofs.ForCallers.{all_of, among_back, among_parts, carried_held}
use Rattle.node_machine.proofs.ForCallers.{count_once, given_ways, last_by_receive, last_push}
use Rattle.node_machine.proofs.ForCallers.{lasts_held, next_of_zero, takes_parts, tokens_more}
use Rattle.node_machine.proofs.ForCallers.{tokens_parts}
use Rattle.node_given.specs.declared.tokens.Tokens.{Tokens}
use Rattle.node_given.specs.Walk.{AreFit, ends_in_take, IsKnown, IsPutBackNow}
use Rattle.node_given.proofs.Knowledge.{ends_push, shown_taken}

pub on_ok : {T E P Q : Type 0} (r : Result T E) → (P → Q) → OnOk r P → OnOk r Q
on_ok (Ok x) change is = change is
on_ok (Err e) change is = is

-- TESTS OF CLOCKS

some_passes : (test : ℕ → Bool) (ks : List ℕ) → list_any test ks ≡ true
    → (k : ℕ) × IsAmong ks k × (test k ≡ true)
some_passes test [] is = absurd (false≢true is)
some_passes test (k ∷ ks) is = (elim (test k) as (λ b. test k ≡ b → (b || list_any test ks) ≡ true
    → (j : ℕ) × IsAmong (k ∷ ks) j × (test j ≡ true)) [
      | true ↦ λ here _. (k, inl refl, here)
      | false ↦ λ _ later.
          let found = some_passes test ks later in
          (found.0, inr found.1, found.2)
    ]) refl is

none_passes : (test : ℕ → Bool) (ks : List ℕ) → list_any test ks ≡ false → (k : ℕ)
    → IsAmong ks k → test k ≡ false
none_passes test [] never k is = absurd is
none_passes test (j ∷ ks) never k is =
    (elim (test j) as (λ b. test j ≡ b → (b || list_any test ks) ≡ false
    → test k ≡ false) [
      | true ↦ λ _ so. absurd (false≢true (sym so))
      | false ↦ λ here later. elim is [
        | inl same ↦ ap test (sym same) ∙ here
        | inr more ↦ none_passes test ks later k more
      ]
    ]) refl never

pub all_from : {A : Type 0} (P : A → Type 0) (xs : List A) → ((x : A) → IsAmong xs x → P x)
    → AllByRecursion P xs
all_from P [] each = tt
all_from P (x ∷ xs) each = (each x (inl refl), all_from P xs (λ y is. each y (inr is)))

module _ (es : List Seen) (ks : List ℕ) (lift last : ℕ) (taking : Bool) (t : Tokens)
    (known : IsKnown es ks lift last taking t) (e : Seen) where
  pub plain_way : list_any (λ k. is_next (max k lift) last e) ks ≡ true → IsPlainly es e
  plain_way is =
      let found = some_passes (λ k. is_next (max k lift) last e) ks is in
      let old = known.clocks_are.sound found.0 found.1 in
      record {
        reading = old.0;
        reads = old.1;
        next = subst (λ n. is_next old.0.clock n e ≡ true) known.last_is
            (subst (λ n. is_next n last e ≡ true) (sym old.2) found.2);
      }

  pub put_back_needed : list_any (λ k. is_next (max k lift) last e) ks ≡ false → NeedsPutBack es e
  put_back_needed is =
      all_from (λ (r : Reading). is_next r.clock (last_behind 0 es) e ≡ false) (readings es)
      (λ r reads.
      let old = known.clocks_are.complete r reads in
      subst (λ n. is_next r.clock n e ≡ false) known.last_is
      (subst (λ n. is_next n last e ≡ false) (sym old.2)
      (none_passes (λ k. is_next (max k lift) last e) ks is old.0 old.1)))

-- TOKENS

pub zero_held : (es : List Seen) → IsAmong (tokens es) (fresh 0)
zero_held [] = inl refl
zero_held (e ∷ es) = among_back (shown e) (tokens es) (fresh 0) (zero_held es)

shown_fits : (e : Seen) (receive answer : Bool) (n : ℕ) (x : Serial) → e.serial.this < 2 ^ 60
    → IsAmong (cond receive (cond answer (fresh n ∷ [])
    (e.serial ∷ fresh e.serial.prev ∷ fresh e.serial.this ∷ []))
    (e.serial ∷ fresh e.serial.prev ∷ [])) x
    → x.this < 2 ^ 60
shown_fits e true true n x fits (inl is) = let made = ap (λ (y : Serial). y.this) is in omega arith
shown_fits e true true n x fits (inr is) = absurd is
shown_fits e true false n x fits (inl is) = let own = ap (λ (y : Serial). y.this) is in omega arith
shown_fits e true false n x fits (inr (inl is)) =
    let made = ap (λ (y : Serial). y.this) is in omega arith
shown_fits e true false n x fits (inr (inr (inl is))) =
    let made = ap (λ (y : Serial). y.this) is in omega arith
shown_fits e true false n x fits (inr (inr (inr is))) = absurd is
shown_fits e false answer n x fits (inl is) = let own = ap (λ (y : Serial). y.this) is in
    omega arith
shown_fits e false answer n x fits (inr (inl is)) =
    let made = ap (λ (y : Serial). y.this) is in omega arith
shown_fits e false answer n x fits (inr (inr is)) = absurd is

pub tokens_fit : (es : List Seen) (x : Serial) → AreFit es → IsAmong (tokens es) x → x.this < 2 ^ 60
tokens_fit [] x fit (inl is) = let made = ap (λ (y : Serial). y.this) is in omega arith
tokens_fit [] x fit (inr is) = absurd is
tokens_fit (e ∷ es) x fit is = elim (among_parts (shown e) (tokens es) x is) [
  | inl now ↦ shown_fits e (is_receipt e) e.answer _ x fit.0 now
  | inr later ↦ tokens_fit es x fit.1 later
]

-- THE RECEIVE BEFORE A STAMP

record EndsInTake (es : List Seen) : Type 0 where
  front : List Seen
  receive : Seen
  split : es ≡ front ++ receive ∷ []
  taken : takes receive ≡ true

ends_split : (es : List Seen) → ends_in_take es ≡ true → EndsInTake es
ends_split [] is = absurd (false≢true is)
ends_split (e ∷ []) is = record { front = []; receive = e; split = refl; taken = is }
ends_split (e ∷ d ∷ es) is =
    let rest = ends_split (d ∷ es) is in
    record {
      front = e ∷ rest.front;
      receive = rest.receive;
      split = ap (λ xs. e ∷ xs) rest.split;
      taken = rest.taken;
    }

-- the last after a receive is its count
last_taken : (es front : List Seen) (receive : Seen) → es ≡ front ++ receive ∷ []
    → takes receive ≡ true → last_behind 0 es ≡ receive.serial.this
last_taken es front receive split taken =
    let parts = takes_parts receive taken in
    ap (last_behind 0) split ∙ last_push front receive 0 ∙ last_by_receive receive parts.0 parts.1

pub lowered_ends : (es : List Seen) (e : Seen) (token : Serial) → IsLowered es e token
    → ends_in_take es ≡ true
lowered_ends es e token low = ap ends_in_take low.split ∙ ends_push low.front low.receive
    ∙ low.taken

pub lowered_last : (es : List Seen) (e : Seen) (token : Serial) → IsLowered es e token
    → last_behind 0 es ≡ e.serial.prev
lowered_last es e token low = last_taken es low.front low.receive low.split low.taken ∙ low.prev

receive_fits : (es front : List Seen) (receive : Seen) → AreFit es → es ≡ front ++ receive ∷ []
    → receive.serial.this < 2 ^ 60
receive_fits es front receive fit split =
    all_of (λ (d : Seen). d.serial.this < 2 ^ 60) es receive fit
    (subst (λ xs. IsAmong xs receive) (sym split)
    (among_back front (receive ∷ []) receive (inl refl)))

lowered_held : (es : List Seen) (e : Seen) (token : Serial) → IsLowered es e token
    → IsAmong (tokens es) token
lowered_held es e token low =
    subst (λ xs. IsAmong (tokens xs) token) (sym low.split)
    (tokens_more low.receive low.front token low.held)

-- the clock to which a token and the receive after it lead
pub lowered_clock : (es : List Seen) (e : Seen) (token : Serial) (clock : ℕ) → AreFit es
    → IsLowered es e token → clock < 2 ^ 60 → stamp_count clock ≡ e.serial.this
    → max token.this (last_behind 0 es) ≡ clock
lowered_clock es e token clock fit low fits next =
    let same = last_taken es low.front low.receive low.split low.taken in
    let count = low.count in
    let held = tokens_fit es token fit (lowered_held es e token low) in
    let top = receive_fits es low.front low.receive fit low.split in
    let n = max token.this low.receive.serial.this in
    let below : n < 2 ^ 60 = omega arith in
    let once = count_once n clock below fits (sym count ∙ sym next) in
    omega arith

-- a held token with a count above the receive's was held before the receive
pub before_receive : (front : List Seen) (receive : Seen) (token : Serial) → takes receive ≡ true
    → receive.serial.this < token.this → IsAmong (tokens (front ++ receive ∷ [])) token
    → IsAmong (tokens front) token
before_receive front receive token taken above is =
    let parts = takes_parts receive taken in
    elim (tokens_parts receive front token is) [
      | inr old ↦ old
      | inl new ↦ elim (subst (λ xs. IsAmong xs token) (shown_taken receive false parts.0 parts.1)
          new) [
            | inl own ↦ let same = ap (λ (y : Serial). y.this) own in absurd (omega arith)
            | inr more ↦ elim more [
              | inl made ↦ let none = ap (λ (y : Serial). y.this) made in absurd (omega arith)
              | inr rest ↦ elim rest [
                | inl made ↦ let none = ap (λ (y : Serial). y.this) made in absurd (omega arith)
                | inr never ↦ absurd never
              ]
            ]
          ]
    ]

module _ (es : List Seen) (ks : List ℕ) (lift last : ℕ) (taking : Bool) (t : Tokens)
    (known : IsKnown es ks lift last taking t) (e : Seen) (clock : ℕ)
    (next : stamp_count clock ≡ e.serial.this) where
  pub lowered_by_receive : taking ≡ true → last ≡ e.serial.prev → last ≡ clock
      → IsLowered es e (fresh 0)
  lowered_by_receive takes_is prev same =
      let ends = ends_split es (sym known.taking_is ∙ takes_is) in
      let count = known.last_is ∙ last_taken es ends.front ends.receive ends.split ends.taken in
      let most : max 0 ends.receive.serial.this ≡ clock = omega arith in
      record {
        front = ends.front;
        receive = ends.receive;
        split = ends.split;
        taken = ends.taken;
        held = zero_held ends.front;
        prev = sym count ∙ prev;
        count = sym next ∙ ap stamp_count (sym most);
      }

  pub lowered_by_token : taking ≡ true → last ≡ e.serial.prev → last < clock → (token : Serial)
      → token.this ≡ clock → IsAmong (tokens es) token
      → IsLowered es e token
  lowered_by_token takes_is prev below token this is =
      let ends = ends_split es (sym known.taking_is ∙ takes_is) in
      let count = known.last_is ∙ last_taken es ends.front ends.receive ends.split ends.taken in
      let most : max token.this ends.receive.serial.this ≡ clock = omega arith in
      let above : ends.receive.serial.this < token.this = omega arith in
      record {
        front = ends.front;
        receive = ends.receive;
        split = ends.split;
        taken = ends.taken;
        held = before_receive ends.front ends.receive token ends.taken above
            (subst (λ xs. IsAmong (tokens xs) token) ends.split is);
        prev = sym count ∙ prev;
        count = sym next ∙ ap stamp_count (sym most);
      }

  module _ (fits : clock < 2 ^ 60) where
    -- if the receive's count is above the clock, no token leads to it
    pub lowered_never : clock < last → (token : Serial) → IsLowered es e token → ⊥
    lowered_never above token low =
        let most = lowered_clock es e token clock known.fit low fits next in
        let same = known.last_is in
        absurd (omega arith)

    -- if it is below, each token that leads to the clock has its count
    pub lowered_count : last ≤ clock → last ≢ clock → (token : Serial) → IsLowered es e token
        → IsAmong (tokens es) token × (token.this ≡ clock)
    lowered_count least other token low =
        let most = lowered_clock es e token clock known.fit low fits next in
        let same = known.last_is in
        (lowered_held es e token low, omega arith)

    -- a token that gives the stamp has its prev and this count
    pub not_put_back : (IsAmong (tokens es) (record { prev = e.serial.prev; this = clock }) → ⊥)
        → (token : Serial) → IsPutBackNow es e token → ⊥
    not_put_back unheld token now =
        let same = count_once token.this clock (tokens_fit es token known.fit now.held) fits
        (sym now.count ∙ sym next) in
        unheld (subst (IsAmong (tokens es)) (λ i. record { prev = now.prev i; this = same i })
        now.held)

    pub not_given : NeedsPutBack es e
        → (IsAmong (tokens es) (record { prev = e.serial.prev; this = clock }) → ⊥)
        → ((token : Serial) → IsLowered es e token → ⊥) → IsGiven es e → ⊥
    not_given needs unheld unlowered given = elim (given_ways es e given) [
      | inl plain ↦ false≢true
          (sym (all_of (λ (r : Reading). is_next r.clock (last_behind 0 es) e ≡ false)
          (readings es) plain.reading needs plain.reads) ∙ plain.next)
      | inr (inl again) ↦
          let held = carried_held es again.token again.held in
          let same = count_once again.token.this clock (tokens_fit es again.token known.fit held)
          fits
          (sym again.count ∙ sym next) in
          unheld (subst (IsAmong (tokens es)) (λ i. record { prev = again.prev i; this = same i })
          held)
      | inr (inr (inl new)) ↦
          let same = count_once 0 clock (omega arith) fits (next_of_zero ∙ sym new.0 ∙ sym next) in
          unheld (subst (IsAmong (tokens es)) (λ i. record { prev = e.serial.prev; this = same i })
          (lasts_held es e.serial.prev new.1))
      | inr (inr (inr low)) ↦ unlowered low.0 low.1
    ]

-- LISTS

-- stands for an event at an index past the end
abbrev pub blank : Seen
blank = record {
  kind = kind.Send;
  label = record { 0 = 0 };
  serial = record { prev = 0; this = 0 };
  answer = false;
}

pub pushed_at : {A : Type 0} (xs : List A) (x : A) (j : ℕ) (y : A)
    → slice_get (xs ++ x ∷ []) j ≡ Some y
    → (slice_get xs j ≡ Some y) ⊎ ((j ≡ length xs) × (x ≡ y))
pushed_at [] x zero y is = inr (refl, same_Some x y is)
pushed_at [] x (suc j) y is = absurd (none-some y is)
pushed_at (z ∷ xs) x zero y is = inl is
pushed_at (z ∷ xs) x (suc j) y is = elim (pushed_at xs x j y is) [
  | inl old ↦ inl old
  | inr new ↦ inr (ap suc new.0, new.1)
]

pub taken_more : {A : Type 0} (xs : List A) (j : ℕ) (y : A) → slice_get xs j ≡ Some y
    → take (j + 1) xs ≡ take j xs ++ y ∷ []
taken_more [] j y is = absurd (none-some y is)
taken_more (x ∷ xs) zero y is = ap (λ z. z ∷ []) (same_Some x y is)
taken_more (x ∷ xs) (suc j) y is =
    let same : suc j + 1 ≡ suc (j + 1) = omega arith in
    ap (λ n. take n (x ∷ xs)) same ∙ ap (λ zs. x ∷ zs) (taken_more xs j y is)

pub fits_at : (es : List Seen) (j : ℕ) (e : Seen) → AreFit es → slice_get es j ≡ Some e
    → e.serial.this < 2 ^ 60
fits_at [] j e fit is = absurd (none-some e is)
fits_at (d ∷ es) zero e fit is =
    subst (λ (x : Seen). x.serial.this < 2 ^ 60) (same_Some d e is) fit.0
fits_at (d ∷ es) (suc j) e fit is = fits_at es j e fit.1 is

pub length_more : {A : Type 0} (xs : List A) (x : A) (n : ℕ) → length xs ≡ n
    → length (xs ++ x ∷ []) ≡ n + 1
length_more [] x n is = omega arith
length_more (y ∷ xs) x n is =
    let rest = length_more xs x (length xs) refl in
    omega arith
