-- The table keeps the first number for each token, and numbers never fall: so it has the least.
use Rattle.std.proofs.Common.{◌≡◌, ℕ, ◌+◌, ◌<◌, ◌≤◌, ◌==◌, ◌⊎◌, cond, Bool, true, false, List, []}
use Rattle.std.proofs.Common.{◌∷◌, ◌++◌, length, take, Option, Some, None, is_some, inl, inr, refl}
use Rattle.std.proofs.Common.{arith, sym, ◌∙◌, ap, subst}
use Rattle.std.specs.List.{slice_get}
use Rattle.std.specs.HashMap.{get}
use Rattle.std.proofs.lemmas.Bool.{and_parts, cases_order, eq-eqb, eqb-true, false≢true}
use Rattle.std.proofs.lemmas.Option.{none-some, same_Some}
use Rattle.st_core.specs.declared.types.Kind.{Kind}
use Rattle.st_core.specs.declared.types.Kind.TheVariants as kind
use Rattle.st_core.specs.Event.{kind_eq}
use Rattle.st_core.specs.declared.types.Serial.{Serial}
use Rattle.st_core.proofs.ForCallers.{both_true}
use Rattle.node_machine.specs.Counts.{answer_count, serial_count, stamp_count}
use Rattle.node_machine.specs.declared.types.Seen.{Seen}
use Rattle.node_machine.specs.Premises.{IsAmong}
use Rattle.node_machine.specs.Readings.{is_receipt}
use Rattle.node_machine.specs.Given.{fresh, shown, tokens}
use Rattle.node_machine.proofs.ForCallers.{tokens_new, tokens_parts}
use Rattle.node_given.proofs.ForCallers.{shown_stamp, shown_taken, swap, taken_more, turn}
use Rattle.node_origins.specs.declared.first_tokens.FirstTokens.{FirstTokens}
use Rattle.node_origins.specs.Tables.{AreFirstTokens, HasPredecessor, IsSince, same_serial}
use Rattle.node_origins.proofs.Homes.{tokens_later}

pub none_of : {A : Type 0} (o : Option A) → is_some o ≡ false → o ≡ None
none_of None is = refl
none_of (Some x) is = absurd (false≢true (sym is))

pub not_receive : (k : Kind) → (k ≡ kind.Send) ⊎ (k ≡ kind.Print) → kind_eq k kind.Receive ≡ false
not_receive k (inl is) = ap (λ x. kind_eq x kind.Receive) is
not_receive k (inr is) = ap (λ x. kind_eq x kind.Receive) is

-- PREDECESSORS

among_more : (xs ys : List Serial) (prev this : ℕ)
    → ((x : Serial) → IsAmong xs x → IsAmong ys x) → HasPredecessor xs prev this
    → HasPredecessor ys prev this
among_more xs ys prev this more is = record {
  token = is.token;
  held = more is.token is.held;
  prev_is = is.prev_is;
  count = is.count;
}

first_or : (x : Serial) (xs : List Serial) (prev this : ℕ) → HasPredecessor (x ∷ xs) prev this
    → ((x.prev ≡ prev) × (this ≡ stamp_count x.this)) ⊎ HasPredecessor xs prev this
first_or x xs prev this is = elim is.held [
  | inl same ↦ inl (
    ap (λ (y : Serial). y.prev) same ∙ is.prev_is,
    is.count ∙ ap (λ (y : Serial). stamp_count y.this) (sym same),
  )
  | inr later ↦ inr (record {
    token = is.token;
    held = later;
    prev_is = is.prev_is;
    count = is.count;
  })
]

same_true : (p q a b : ℕ) → p ≡ a → q ≡ b → same_serial (p, q) (a, b) ≡ true
same_true p q a b first second =
    both_true (p == a) (q == b) (eq-eqb p a first) (eq-eqb q b second)

same_parts : (p q a b : ℕ) → same_serial (p, q) (a, b) ≡ true → (p ≡ a) × (q ≡ b)
same_parts p q a b is =
    let parts = and_parts (p == a) (q == b) is in
    (eqb-true p a parts.0, eqb-true q b parts.1)

-- ONE TOKEN MORE

module _ (es : List Seen) (n : ℕ) (xs : List Serial) (x : Serial) (t : FirstTokens)
    (since : IsSince es n xs t) where
  -- the table has a token with the same successor
  pub since_same : (m : ℕ) → get same_serial t.since (x.prev, stamp_count x.this) ≡ Some m
      → IsSince es n (x ∷ xs) t
  since_same m there = record {
    sound = λ prev this k is. elim (since.sound prev this k is) [
      | inl old ↦ inl old
      | inr now ↦ inr (now.0, among_more xs (x ∷ xs) prev this (λ y is. inr is) now.1)
    ];
    least = since.least;
    new = λ prev this is. elim (first_or x xs prev this is) [
      | inl here ↦ (
        m,
        ap (λ q. get same_serial t.since q) (λ i. (sym here.0 i, here.1 i)) ∙ there,
      )
      | inr later ↦ since.new prev this later
    ];
  }

  -- the token joins the table
  module _ (u : FirstTokens)
      (none : get same_serial t.since (x.prev, stamp_count x.this) ≡ None)
      (now : (q : ℕ × ℕ) → get same_serial u.since q
      ≡ cond (same_serial (x.prev, stamp_count x.this) q) (Some n) (get same_serial t.since q))
    where
      abbrev shown_at : ℕ → ℕ → Bool
      shown_at prev this = same_serial (x.prev, stamp_count x.this) (prev, this)

      kept : (prev this m : ℕ) → get same_serial t.since (prev, this) ≡ Some m → (b : Bool)
          → shown_at prev this ≡ b
          → cond b (Some n) (get same_serial t.since (prev, this)) ≡ Some m
      kept prev this m is true same =
          let parts = same_parts x.prev (stamp_count x.this) prev this same in
          absurd (none-some m
          (sym none ∙ ap (λ q. get same_serial t.since q) (λ i. (parts.0 i, parts.1 i)) ∙ is))
      kept prev this m is false other = is

      kept_now : (prev this m : ℕ) → get same_serial t.since (prev, this) ≡ Some m
          → get same_serial u.since (prev, this) ≡ Some m
      kept_now prev this m is =
          now (prev, this) ∙ kept prev this m is (shown_at prev this) refl

      sound_now : (prev this m : ℕ) (b : Bool) → shown_at prev this ≡ b
          → cond b (Some n) (get same_serial t.since (prev, this)) ≡ Some m
          → ((m < n) × HasPredecessor (tokens (take m es)) prev this)
          ⊎ ((m ≡ n) × HasPredecessor (x ∷ xs) prev this)
      sound_now prev this m true same is =
          let parts = same_parts x.prev (stamp_count x.this) prev this same in
          inr (
            sym (same_Some n m is),
            record {
              token = x;
              held = inl refl;
              prev_is = parts.0;
              count = sym parts.1;
            },
          )
      sound_now prev this m false other is = elim (since.sound prev this m is) [
        | inl old ↦ inl old
        | inr here ↦ inr (here.0, among_more xs (x ∷ xs) prev this (λ y later. inr later) here.1)
      ]

      pub since_more : IsSince es n (x ∷ xs) u
      since_more = record {
        sound = λ prev this m is.
            sound_now prev this m (shown_at prev this) refl (sym (now (prev, this)) ∙ is);
        least = λ prev this k below is.
            let old = since.least prev this k below is in
            (old.0, kept_now prev this old.0 old.1, old.2);
        new = λ prev this is. elim (first_or x xs prev this is) [
          | inl here ↦ (
            n,
            now (prev, this) ∙ ap (λ b. cond b (Some n) (get same_serial t.since (prev, this)))
                (same_true x.prev (stamp_count x.this) prev this here.0 (sym here.1)),
          )
          | inr later ↦
              let old = since.new prev this later in
              (old.0, kept_now prev this old.0 old.1)
        ];
      }

-- AN EVENT MORE

since_number : (es : List Seen) (n : ℕ) (xs : List Serial) (t : FirstTokens) → IsSince es n xs t
    → (prev this m : ℕ) → get same_serial t.since (prev, this) ≡ Some m → m ≤ n
since_number es n xs t since prev this m is = elim (since.sound prev this m is) [
  | inl old ↦ let below = old.0 in omega arith
  | inr now ↦ let same = now.0 in omega arith
]

-- before all events a process can make one token
pub since_start : (es : List Seen) (t : FirstTokens) → IsSince es 0 (fresh 0 ∷ []) t
    → IsSince es 1 [] t
since_start es t since = record {
  sound = λ prev this m is. elim (since.sound prev this m is) [
    | inl old ↦ let below = old.0 in absurd (omega arith)
    | inr now ↦ inl (
      (let same = now.0 in omega arith),
      subst (λ k. HasPredecessor (tokens (take k es)) prev this) (sym now.0) now.1,
    )
  ];
  least = λ prev this k below is.
      let none : k ≡ 0 = omega arith in
      let found = since.new prev this
      (subst (λ k. HasPredecessor (tokens (take k es)) prev this) none is) in
      let most = since_number es 0 (fresh 0 ∷ []) t since prev this found.0 found.1 in
      (found.0, found.1, omega arith);
  new = λ prev this is. absurd is.held;
}

module _ (es : List Seen) (i : ℕ) (e : Seen) (at : slice_get es i ≡ Some e) (xs : List Serial)
    (t : FirstTokens) (to : (x : Serial) → IsAmong xs x → IsAmong (shown e) x)
    (from : (x : Serial) → IsAmong (shown e) x → IsAmong xs x) (since : IsSince es (i + 1) xs t)
  where
    held_here : (prev this : ℕ) → HasPredecessor xs prev this
        → HasPredecessor (tokens (take (i + 1) es)) prev this
    held_here prev this is =
        subst (λ ys. HasPredecessor (tokens ys) prev this) (sym (taken_more es i e at))
        (among_more xs (tokens (take i es ++ e ∷ [])) prev this
        (λ x there. tokens_new e (take i es) x (to x there)) is)

    least_here : (prev this k : ℕ) → k < i + 2 → HasPredecessor (tokens (take k es)) prev this
        → (m : ℕ) × (get same_serial t.since (prev, this) ≡ Some m) × (m ≤ k)
    least_here prev this k below is = elim (cases_order k (i + 1)) [
      | inr (inl less) ↦ since.least prev this k less is
      | inr (inr more) ↦ absurd (omega arith)
      | inl same ↦
          let whole = subst (λ ys. HasPredecessor (tokens ys) prev this)
          (ap (λ n. take n es) same ∙ taken_more es i e at) is in
          elim (tokens_parts e (take i es) whole.token whole.held) [
            | inl now ↦
                let found = since.new prev this (record {
                  token = whole.token;
                  held = from whole.token now;
                  prev_is = whole.prev_is;
                  count = whole.count;
                }) in
                let most = since_number es (i + 1) xs t since prev this found.0 found.1 in
                (found.0, found.1, omega arith)
            | inr old ↦
                let found = since.least prev this i (omega arith) (record {
                  token = whole.token;
                  held = old;
                  prev_is = whole.prev_is;
                  count = whole.count;
                }) in
                let most = found.2 in
                (found.0, found.1, omega arith)
          ]
    ]

    pub since_event : IsSince es (i + 2) [] t
    since_event = record {
      sound = λ prev this m is. elim (since.sound prev this m is) [
        | inl old ↦ inl ((let below = old.0 in omega arith), old.1)
        | inr now ↦ inl (
          (let same = now.0 in omega arith),
          subst (λ k. HasPredecessor (tokens (take k es)) prev this) (sym now.0)
              (held_here prev this now.1),
        )
      ];
      least = least_here;
      new = λ prev this is. absurd is.held;
    }

-- BY KIND

module _ (es : List Seen) (i : ℕ) (e : Seen) (at : slice_get es i ≡ Some e) (t : FirstTokens) where
  pub since_stamp : is_receipt e ≡ false
      → IsSince es (i + 1) (fresh e.serial.prev ∷ e.serial ∷ []) t → IsSince es (i + 2) [] t
  since_stamp kind =
      let same = shown_stamp e kind in
      since_event es i e at (fresh e.serial.prev ∷ e.serial ∷ []) t
      (λ x is. subst (λ xs. IsAmong xs x) (sym same) (swap (fresh e.serial.prev) e.serial x is))
      (λ x is. swap e.serial (fresh e.serial.prev) x (subst (λ xs. IsAmong xs x) same is))

  pub since_receive : is_receipt e ≡ true → e.answer ≡ false
      → IsSince es (i + 1) (fresh e.serial.this ∷ fresh e.serial.prev ∷ e.serial ∷ []) t
      → IsSince es (i + 2) [] t
  since_receive kind own =
      let same = shown_taken e false kind own in
      since_event es i e at (fresh e.serial.this ∷ fresh e.serial.prev ∷ e.serial ∷ []) t
      (λ x is. subst (λ xs. IsAmong xs x) (sym same)
      (turn (fresh e.serial.this) (fresh e.serial.prev) e.serial x is))
      (λ x is. turn e.serial (fresh e.serial.prev) (fresh e.serial.this) x
      (subst (λ xs. IsAmong xs x) same is))

  pub since_answer : is_receipt e ≡ true → e.answer ≡ true
      → IsSince es (i + 1) (fresh (serial_count (answer_count e.serial.this)) ∷ []) t
      → IsSince es (i + 2) [] t
  since_answer kind answer =
      let same = shown_taken e true kind answer in
      since_event es i e at (fresh (serial_count (answer_count e.serial.this)) ∷ []) t
      (λ x is. subst (λ xs. IsAmong xs x) (sym same) is)
      (λ x is. subst (λ xs. IsAmong xs x) same is)

-- ASKING

module _ (es : List Seen) (t : FirstTokens) (are : AreFirstTokens es t) (prev this n : ℕ)
    (within : n ≤ length es) where
  pub since_none : get same_serial t.since (prev, this) ≡ None
      → HasPredecessor (tokens (take n es)) prev this → ⊥
  since_none none is =
      let found = are.least prev this n (omega arith) is in
      none-some found.0 (sym none ∙ found.1)

  pub since_held : (m : ℕ) → get same_serial t.since (prev, this) ≡ Some m → m ≤ n
      → HasPredecessor (tokens (take n es)) prev this
  since_held m is most = elim (are.sound prev this m is) [
    | inl old ↦ among_more (tokens (take m es)) (tokens (take n es)) prev this
        (λ x there. tokens_later m n es x most there) old.1
    | inr now ↦ absurd now.1.held
  ]

  pub since_least : (m : ℕ) → get same_serial t.since (prev, this) ≡ Some m
      → HasPredecessor (tokens (take n es)) prev this → m ≤ n
  since_least m is there =
      let found = are.least prev this n (omega arith) there in
      let same = same_Some found.0 m (sym found.1 ∙ is) in
      let most = found.2 in
      omega arith
