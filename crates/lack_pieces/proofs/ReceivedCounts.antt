-- Receipts with one count are next to each other, and the sends and prints come in the order of
-- counts too: so one walk over both finds repeated receipts and mismatches.
use Rattle.std.proofs.Common.{◌≡◌, ℕ, ◌<◌, ◌≤◌, ◌+◌, ◌-◌, ◌==◌, ◌&&◌, zero, suc, true, false}
use Rattle.std.proofs.Common.{cond, List, [], ◌∷◌, Option, Some, None, inl, inr, length, slice_get}
use Rattle.std.proofs.Common.{refl, sym, ◌∙◌, ap, subst, arith}
use Rattle.std.proofs.lemmas.Bool.{and_from, and_parts, cases_lt, cases_order, eq-eqb, eqb-true}
use Rattle.std.proofs.lemmas.Option.{same_Some, slice_get_within}
use Rattle.st_core.specs.declared.types.Pid.{Pid}
use Rattle.st_core.specs.declared.types.Event.{Event}
use Rattle.st_core.proofs.ForCallers.{some_if}
use Rattle.st_pair.specs.Laws.{IsEarlier}
use Rattle.st_pair.specs.Pairing.{stamp_of}
use Rattle.st_pair.specs.Places.{first_from, is_stamp, or_else}
use Rattle.st_pair.proofs.ForCallers.{blank, given_from, own_rule}
use Rattle.lack_decide.specs.declared.answer.Never.{Never}
use Rattle.lack_decide.specs.declared.answer.Never.TheVariants as never
use Rattle.lack_decide.specs.Answers.{reason_rank, IsSendOf}
use Rattle.lack_pieces.specs.declared.placed_reason.Receipt.{Receipt}
use Rattle.lack_pieces.specs.declared.placed_reason.PlacedReason.{PlacedReason}
use Rattle.lack_pieces.specs.Firsts.{HoldsOfRank, IsEarliest, IsFirstWith, IsNextStamp, StampsRise}
use Rattle.lack_pieces.specs.Pieces.{Piece}
use Rattle.lack_pieces.specs.Reasons.{own_streams}
use Rattle.lack_pieces.specs.Verdicts.{AreInOrder}
use Rattle.lack_pieces.proofs.Candidates.{found_more, found_still, not_before_itself, IsBeside}
use Rattle.lack_pieces.proofs.Candidates.{IsFoundBelow}
use Rattle.lack_pieces.proofs.Order.{not_earlier_back}
use Rattle.lack_pieces.proofs.Readings.{own_events}
use Rattle.lack_pieces.proofs.Walks.{mismatch, repeated}

-- RECEIPTS IN ORDER

pub at_before : {A : Type 0} (xs : List A) (j k : ℕ) (x : A) → j < k → slice_get xs k ≡ Some x
    → (y : A) × (slice_get xs j ≡ Some y)
at_before [] j k x less at = absurd (cc)
at_before (y ∷ xs) zero k x less at = (y, refl)
at_before (y ∷ xs) (suc j) zero x less at = absurd (omega (arith, less))
at_before (y ∷ xs) (suc j) (suc k) x less at = at_before xs j k x (omega (arith, less)) at

pub counts_climb : (receipts : List Receipt) → AreInOrder receipts → (j k : ℕ) (a b : Receipt)
    → j < k → slice_get receipts j ≡ Some a → slice_get receipts k ≡ Some b
    → a.event.serial.this ≤ b.event.serial.this
counts_climb receipts order j k a b less at there = elim (order j k a b less at there) [
  | inl lower ↦ omega (arith, lower)
  | inr both ↦ let same = both.0 in omega (arith, same)
]

abbrev pub reason_at : Receipt → Never → PlacedReason
reason_at r reason = record { pid = r.pid; index = r.index; never = reason }

-- stands for a receipt past the end
abbrev pub blank_receipt : Receipt
blank_receipt = record { pid = record { node = 0; number = 0 }; index = 0; event = blank }

beside_at : (a b : PlacedReason) (r s : Receipt) (x y : Never) → a ≡ reason_at r x
    → b ≡ reason_at s y → r ≡ s → IsBeside a b
beside_at a b r s x y first second same = record {
  pid = ap (λ (x : PlacedReason). x.pid) first ∙ ap (λ (x : Receipt). x.pid) same
      ∙ sym (ap (λ (x : PlacedReason). x.pid) second);
  index = ap (λ (x : PlacedReason). x.index) first ∙ ap (λ (x : Receipt). x.index) same
      ∙ sym (ap (λ (x : PlacedReason). x.index) second);
}

-- WHAT REPEATS

-- a receipt has the count of the one before it
pub record IsRepeat (receipts : List Receipt) (found : PlacedReason) : Type 0 where
  pub first : ℕ
  pub place : ℕ
  pub next : first + 1 ≡ place
  pub before : Receipt
  pub receipt : Receipt
  pub at_first : slice_get receipts first ≡ Some before
  pub at : slice_get receipts place ≡ Some receipt
  pub same : before.event.serial.this ≡ receipt.event.serial.this
  pub is : found ≡ reason_at receipt (never.Repeated before.pid before.index)

abbrev pub repeat_place : (receipts : List Receipt) (r : PlacedReason) → IsRepeat receipts r → ℕ
repeat_place receipts r c = c.place

-- the repeated receipt is before place n
abbrev pub IsRepeatBelow : List Receipt → ℕ → PlacedReason → Type 0
IsRepeatBelow receipts n r = IsFoundBelow (IsRepeat receipts) (repeat_place receipts) n r

module _ (top : ℕ) (piece : Piece) (order : AreInOrder piece.receipts) where
  repeat_earlier : (r : PlacedReason) (c : IsRepeat piece.receipts r)
      → IsEarlier c.before.pid c.before.index c.receipt.pid c.receipt.index
  repeat_earlier r c = elim (order c.first c.place c.before c.receipt
      (let next = c.next in omega (arith, next)) c.at_first c.at) [
        | inl less ↦ let same = c.same in absurd (omega (arith, less, same))
        | inr both ↦ both.1
      ]

  pub repeat_holds : (n : ℕ) (r : PlacedReason) → IsRepeatBelow piece.receipts n r
      → HoldsOfRank top piece 2 r
  repeat_holds n r below =
      let c = below.is in
      subst (HoldsOfRank top piece 2) (sym c.is) (record {
        event = c.receipt.event;
        holds = (
          record { place = c.place; at = c.at },
          repeat_earlier r c,
          c.before.event,
          record { place = c.first; at = c.at_first },
          c.same,
        );
        of_rank = refl;
      })

  -- of two receipts with one count, the one at the later place comes later in the list
  behind : (j k : ℕ) (a b : Receipt) → slice_get piece.receipts j ≡ Some a
      → slice_get piece.receipts k ≡ Some b → a.event.serial.this ≡ b.event.serial.this
      → IsEarlier a.pid a.index b.pid b.index → j < k
  behind j k a b at there same earlier = elim (cases_order j k) [
    | inl one ↦
        let receipt = same_Some a b (sym at ∙ ap (slice_get piece.receipts) one ∙ there) in
        absurd (not_before_itself (reason_at b never.TooHigh)
        (subst (λ (r : Receipt). IsEarlier r.pid r.index b.pid b.index) receipt earlier))
    | inr (inl less) ↦ less
    | inr (inr less) ↦ absurd (elim (order k j b a less there at) [
      | inl lower ↦ omega (arith, lower, same)
      | inr both ↦ not_earlier_back (reason_at a never.TooHigh) (reason_at b never.TooHigh)
          earlier both.1
    ])
  ]

  -- if an earlier receipt has a receipt's count, so has the one right before it
  count_before : (j k : ℕ) (a b c : Receipt) → j < suc k → slice_get piece.receipts j ≡ Some a
      → slice_get piece.receipts k ≡ Some b → slice_get piece.receipts (suc k) ≡ Some c
      → a.event.serial.this ≡ c.event.serial.this → b.event.serial.this ≡ c.event.serial.this
  count_before j k a b c less at there last same =
      let climbs = counts_climb piece.receipts order k (suc k) b c (omega arith) there last in
      elim (cases_lt j k) [
        | inl before ↦
            omega (arith, counts_climb piece.receipts order j k a b before at there, climbs, same)
        | inr high ↦
            let one : j ≡ k = omega (arith, less, high) in
            let receipt = same_Some a b (sym at ∙ ap (slice_get piece.receipts) one ∙ there) in
            ap (λ (r : Receipt). r.event.serial.this) (sym receipt) ∙ same
      ]

  repeat_at : (r : PlacedReason) (here first : Receipt) (k j : ℕ)
      → slice_get piece.receipts k ≡ Some here → slice_get piece.receipts j ≡ Some first
      → first.event.serial.this ≡ here.event.serial.this → here.pid ≡ r.pid
      → here.index ≡ r.index → j < k
      → (c : PlacedReason) × IsRepeatBelow piece.receipts (length piece.receipts) c × IsBeside r c
  repeat_at r here first zero j at there same pid index less = absurd (omega (arith, less))
  repeat_at r here first (suc k) j at there same pid index less =
      let before = at_before piece.receipts k (suc k) here (omega arith) at in (
        reason_at here (never.Repeated before.0.pid before.0.index),
        record {
          is = record {
            first = k;
            place = suc k;
            next = omega arith;
            before = before.0;
            receipt = here;
            at_first = before.1;
            at = at;
            same = count_before j k first before.0 here less there before.1 at same;
            is = refl;
          };
          within = slice_get_within piece.receipts (suc k) here at;
        },
        record { pid = sym pid; index = sym index },
      )

  pub repeat_found : (r : PlacedReason) → HoldsOfRank top piece 2 r
      → (c : PlacedReason) × IsRepeatBelow piece.receipts (length piece.receipts) c × IsBeside r c
  repeat_found r h =
      let x = repeated top piece r h in
      let here : Receipt = record { pid = r.pid; index = r.index; event = h.event } in
      let first : Receipt = record { pid = x.0; index = x.1; event = x.2.2 } in
      repeat_at r here first x.2.0.place x.2.3.place x.2.0.at x.2.3.at x.2.4 refl refl
      (behind x.2.3.place x.2.0.place first here x.2.3.at x.2.0.at x.2.4 x.2.1)

module _ (receipts : List Receipt) (i : ℕ) (before receipt : Receipt) (positive : 1 ≤ i)
    (at_first : slice_get receipts (i - 1) ≡ Some before)
    (at : slice_get receipts i ≡ Some receipt) (least : Option PlacedReason)
    (first : IsEarliest (IsRepeatBelow receipts i) least) where
  at_both : (r : PlacedReason) (c : IsRepeat receipts r) → c.place ≡ i
      → (c.before ≡ before) × (c.receipt ≡ receipt)
  at_both r c one =
      let two : c.first ≡ i - 1 = omega (arith, c.next, one, positive) in (
        same_Some c.before before (sym c.at_first ∙ ap (slice_get receipts) two ∙ at_first),
        same_Some c.receipt receipt (sym c.at ∙ ap (slice_get receipts) one ∙ at),
      )

  pub repeat_still : (before.event.serial.this ≡ receipt.event.serial.this → ⊥)
      → IsEarliest (IsRepeatBelow receipts (i + 1)) least
  repeat_still other = found_still (IsRepeat receipts) (repeat_place receipts) i least first
      (λ r c one. let new = at_both r c one in
      other (ap (λ (x : Receipt). x.event.serial.this) (sym new.0) ∙ c.same
      ∙ ap (λ (x : Receipt). x.event.serial.this) new.1))

  pub repeat_more : (next result : PlacedReason)
      → before.event.serial.this ≡ receipt.event.serial.this
      → next ≡ reason_at receipt (never.Repeated before.pid before.index)
      → IsFirstWith least next result → IsEarliest (IsRepeatBelow receipts (i + 1)) (Some result)
  repeat_more next result same is with =
      found_more (IsRepeat receipts) (repeat_place receipts) i least first 2
      (λ r c. ap (λ (x : PlacedReason). reason_rank x.never) c.is) next result (record {
        first = i - 1;
        place = i;
        next = omega (arith, positive);
        before = before;
        receipt = receipt;
        at_first = at_first;
        at = at;
        same = same;
        is = is;
      }) refl (λ r c one. beside_at r next c.receipt receipt _ _ c.is is (at_both r c one).1) with

-- THE SEND OR PRINT OF A COUNT

none_first : (q : Pid) (this i : ℕ) (es : List Event)
    → ((k : ℕ) (f : Event) → slice_get es k ≡ Some f
    → is_stamp f ≡ true → f.serial.this ≡ this → ⊥) → first_from (own_rule this) q i es ≡ None
none_first q this i [] none = refl
none_first q this i (e ∷ es) none =
    elim (is_stamp e && e.serial.this == this) as (λ b. (is_stamp e && e.serial.this == this) ≡ b
    → or_else (cond b (Some (i, e)) None) (first_from (own_rule this) q (i + 1) es) ≡ None) [
      | true ↦ λ is. let both = and_parts (is_stamp e) (e.serial.this == this) is in
          absurd (none 0 e refl both.0 (eqb-true e.serial.this this both.1))
      | false ↦ λ is. none_first q this (i + 1) es (λ k f at. none (suc k) f at)
    ] refl

some_first : (q : Pid) (this i n : ℕ) (es : List Event) (e : Event) → slice_get es n ≡ Some e
    → is_stamp e ≡ true → e.serial.this ≡ this
    → ((k : ℕ) (f : Event) → k < n → slice_get es k ≡ Some f → is_stamp f ≡ true
    → f.serial.this ≡ this → ⊥) → first_from (own_rule this) q i es ≡ Some (i + n, e)
some_first q this i n [] e at stamps count none = absurd (cc)
some_first q this i zero (d ∷ es) e at stamps count none =
    let same = same_Some d e at in
    let test : (is_stamp d && d.serial.this == this) ≡ true =
    and_from (is_stamp d) (d.serial.this == this) (ap is_stamp same ∙ stamps)
    (eq-eqb d.serial.this this (ap (λ (x : Event). x.serial.this) same ∙ count)) in
    let index : i ≡ i + zero = omega arith in
    ap (λ b. or_else (cond b (Some (i, d)) None) (first_from (own_rule this) q (i + 1) es)) test
    ∙ ap (λ (n : ℕ). Some (n, d)) index ∙ ap (λ (x : Event). Some (i + zero, x)) same
some_first q this i (suc n) (d ∷ es) e at stamps count none =
    let index : (i + 1) + n ≡ i + suc n = omega arith in
    elim (is_stamp d && d.serial.this == this) as (λ b. (is_stamp d && d.serial.this == this) ≡ b
    → or_else (cond b (Some (i, d)) None) (first_from (own_rule this) q (i + 1) es)
    ≡ Some (i + suc n, e)) [
      | true ↦ λ is. let both = and_parts (is_stamp d) (d.serial.this == this) is in
          absurd (none 0 d (omega arith) refl both.0 (eqb-true d.serial.this this both.1))
      | false ↦ λ is. some_first q this (i + 1) n es e at stamps count
          (λ k f less there. none (suc k) f (omega (arith, less)) there)
          ∙ ap (λ (m : ℕ). Some (m, e)) index
    ] refl

module _ (piece : Piece) where
  -- the process has no send or print with the count
  abbrev pub HasNone : ℕ → Type 0
  HasNone count = (k : ℕ) (f : Event) → slice_get piece.events k ≡ Some f → is_stamp f ≡ true
      → f.serial.this ≡ count → ⊥

  pub stamp_none : (count : ℕ) → HasNone count → stamp_of (own_streams piece) piece.pid count ≡ None
  stamp_none count none = ap (λ es. first_from (own_rule count) piece.pid 0 es) (own_events piece)
      ∙ none_first piece.pid count 0 piece.events none

  pub stamp_some : StampsRise piece.events → (count n : ℕ) (e : Event)
      → slice_get piece.events n ≡ Some e → is_stamp e ≡ true → e.serial.this ≡ count
      → stamp_of (own_streams piece) piece.pid count ≡ Some (n, e)
  stamp_some rise count n e at stamps is =
      ap (λ es. first_from (own_rule count) piece.pid 0 es) (own_events piece)
      ∙ some_first piece.pid count 0 n piece.events e at stamps is (λ k f less there first same.
      let low = rise k n f e less there at first stamps in omega (arith, low, same, is))
      ∙ ap (λ (m : ℕ). Some (m, e)) (let zero_more : 0 + n ≡ n = omega arith in zero_more)

  pub stamp_there : (count j : ℕ) (f : Event)
      → stamp_of (own_streams piece) piece.pid count ≡ Some (j, f)
      → (slice_get piece.events j ≡ Some f) × (is_stamp f ≡ true) × (f.serial.this ≡ count)
  stamp_there count j f found =
      let g = given_from (own_rule count) piece.pid 0 piece.events (j, f)
      (sym (ap (λ es. first_from (own_rule count) piece.pid 0 es) (own_events piece)) ∙ found) in
      let k = g.0 in
      let d = g.1 in
      let test = some_if (is_stamp d && d.serial.this == count) (0 + k, d) (j, f) g.3 in
      let event : d ≡ f = ap (λ (x : ℕ × Event). x.1) test.1 in
      let index : k ≡ j = let raw : 0 + k ≡ j = ap (λ (x : ℕ × Event). x.0) test.1 in
      omega (arith, raw) in
      let both = and_parts (is_stamp d) (d.serial.this == count) test.0 in (
        subst (λ (n : ℕ). slice_get piece.events n ≡ Some f) index
            (g.2 ∙ ap (λ (x : Event). Some x) event),
        subst (λ (x : Event). is_stamp x ≡ true) event both.0,
        subst (λ (x : Event). x.serial.this ≡ count) event
            (eqb-true d.serial.this count both.1),
      )

pub one_stamp : (es : List Event) → StampsRise es → (j k : ℕ) (f e : Event)
    → slice_get es j ≡ Some f → slice_get es k ≡ Some e → is_stamp f ≡ true → is_stamp e ≡ true
    → f.serial.this ≡ e.serial.this → f ≡ e
one_stamp es rise j k f e at there first second same = elim (cases_order j k) [
  | inl one ↦ same_Some f e (sym at ∙ ap (slice_get es) one ∙ there)
  | inr (inl less) ↦ absurd (omega (arith, rise j k f e less at there first second, same))
  | inr (inr less) ↦ absurd (omega (arith, rise k j e f less there at second first, same))
]

-- THE NEXT SEND OR PRINT

-- each send or print before index `next` has a lower count than each receipt from place n on
abbrev pub IsPassed : List Event → List Receipt → ℕ → ℕ → Type 0
IsPassed events receipts next n = (k : ℕ) (f : Event) (m : ℕ) (r : Receipt) → k < next
    → slice_get events k ≡ Some f → is_stamp f ≡ true → n ≤ m → slice_get receipts m ≡ Some r
    → f.serial.this < r.event.serial.this

module _ (events : List Event) (receipts : List Receipt) (order : AreInOrder receipts) (n : ℕ)
    (receipt : Receipt) (at : slice_get receipts n ≡ Some receipt) (start next : ℕ)
    (passed : IsPassed events receipts start n)
    (is : IsNextStamp events start receipt.event.serial.this next) where
  -- the sends and prints before the next one have lower counts than the receipt
  pub below_next : (k : ℕ) (f : Event) → k < next → slice_get events k ≡ Some f → is_stamp f ≡ true
      → f.serial.this < receipt.event.serial.this
  below_next k f less there stamps = elim (cases_lt k start) [
    | inl before ↦ passed k f n receipt before there stamps (omega arith) at
    | inr after ↦ is.passed k f after less there stamps
  ]

  pub passed_next : IsPassed events receipts next (n + 1)
  passed_next k f m r less there stamps after here =
      let low = below_next k f less there stamps in
      omega (arith, low, counts_climb receipts order n m receipt r (omega (arith, after)) at here)

  -- if the next one doesn't have the receipt's count, none does
  pub none_has : StampsRise events → ((f : Event) → slice_get events next ≡ Some f
      → f.serial.this ≡ receipt.event.serial.this → ⊥)
      → (k : ℕ) (f : Event) → slice_get events k ≡ Some f → is_stamp f ≡ true
      → f.serial.this ≡ receipt.event.serial.this → ⊥
  none_has rise other k f there stamps same = elim (cases_order k next) [
    | inl one ↦ other f (subst (λ (i : ℕ). slice_get events i ≡ Some f) one there) same
    | inr (inl less) ↦ omega (arith, below_next k f less there stamps, same)
    | inr (inr less) ↦
        let here = at_before events next k f less there in
        let stamp = is.here here.0 here.1 in
        omega (arith, stamp.1, rise next k here.0 f less here.1 there stamp.0 stamps, same)
  ]

-- WHAT ISN'T THE SEND OF A RECEIPT

-- the process's send or print with a receipt's count isn't the receipt's send
pub record IsMismatch (piece : Piece) (found : PlacedReason) : Type 0 where
  pub place : ℕ
  pub receipt : Receipt
  pub at : slice_get piece.receipts place ≡ Some receipt
  pub index : ℕ
  pub event : Event
  pub own : slice_get piece.events index ≡ Some event
  pub stamps : is_stamp event ≡ true
  pub count : event.serial.this ≡ receipt.event.serial.this
  pub other : ¬ IsSendOf event receipt.event
  pub is : found ≡ reason_at receipt (never.Mismatch piece.pid index)

abbrev pub mismatch_place : (piece : Piece) (r : PlacedReason) → IsMismatch piece r → ℕ
mismatch_place piece r c = c.place

-- the mismatched receipt is before place n
abbrev pub IsMismatchBelow : Piece → ℕ → PlacedReason → Type 0
IsMismatchBelow piece n r = IsFoundBelow (IsMismatch piece) (mismatch_place piece) n r

module _ (top : ℕ) (piece : Piece) where
  pub mismatch_holds : StampsRise piece.events → (n : ℕ) (r : PlacedReason)
      → IsMismatchBelow piece n r → HoldsOfRank top piece 3 r
  mismatch_holds rise n r below =
      let c = below.is in
      subst (HoldsOfRank top piece 3) (sym c.is) (record {
        event = c.receipt.event;
        holds = (
          record { place = c.place; at = c.at },
          refl,
          c.event,
          stamp_some piece rise c.receipt.event.serial.this c.index c.event c.own c.stamps c.count,
          c.other,
        );
        of_rank = refl;
      })

  pub mismatch_found : (r : PlacedReason) → HoldsOfRank top piece 3 r
      → (c : PlacedReason) × IsMismatchBelow piece (length piece.receipts) c × IsBeside r c
  mismatch_found r h =
      let x = mismatch top piece r h in
      let receipt : Receipt = record { pid = r.pid; index = r.index; event = h.event } in
      let own = stamp_there piece h.event.serial.this x.1 x.2.2
      (subst (λ (q : Pid). stamp_of (own_streams piece) q h.event.serial.this
      ≡ Some (x.1, x.2.2)) x.2.1 x.2.3) in (
        reason_at receipt (never.Mismatch piece.pid x.1),
        record {
          is = record {
            place = x.2.0.place;
            receipt = receipt;
            at = x.2.0.at;
            index = x.1;
            event = x.2.2;
            own = own.0;
            stamps = own.1;
            count = own.2;
            other = x.2.4;
            is = refl;
          };
          within = slice_get_within piece.receipts x.2.0.place receipt x.2.0.at;
        },
        record { pid = refl; index = refl },
      )

module _ (piece : Piece) (n : ℕ) (receipt : Receipt)
    (at : slice_get piece.receipts n ≡ Some receipt) (least : Option PlacedReason)
    (first : IsEarliest (IsMismatchBelow piece n) least) where
  at_it : (r : PlacedReason) (c : IsMismatch piece r) → c.place ≡ n → c.receipt ≡ receipt
  at_it r c one =
      same_Some c.receipt receipt (sym c.at ∙ ap (slice_get piece.receipts) one ∙ at)

  pub mismatch_still : ((k : ℕ) (f : Event) → slice_get piece.events k ≡ Some f
      → is_stamp f ≡ true → f.serial.this ≡ receipt.event.serial.this
      → ¬ ¬ IsSendOf f receipt.event) → IsEarliest (IsMismatchBelow piece (n + 1)) least
  mismatch_still none = found_still (IsMismatch piece) (mismatch_place piece) n least first
      (λ r m one. let same = at_it r m one in none m.index m.event m.own m.stamps
      (m.count ∙ ap (λ (x : Receipt). x.event.serial.this) same)
      (subst (λ (x : Receipt). ¬ IsSendOf m.event x.event) same m.other))

  pub mismatch_more : (index : ℕ) (event : Event) (next result : PlacedReason)
      → slice_get piece.events index ≡ Some event → is_stamp event ≡ true
      → event.serial.this ≡ receipt.event.serial.this → ¬ IsSendOf event receipt.event
      → next ≡ reason_at receipt (never.Mismatch piece.pid index) → IsFirstWith least next result
      → IsEarliest (IsMismatchBelow piece (n + 1)) (Some result)
  mismatch_more index event next result own stamps count other is with =
      found_more (IsMismatch piece) (mismatch_place piece) n least first 3
      (λ r c. ap (λ (x : PlacedReason). reason_rank x.never) c.is) next result (record {
        place = n;
        receipt = receipt;
        at = at;
        index = index;
        event = event;
        own = own;
        stamps = stamps;
        count = count;
        other = other;
        is = is;
      }) refl (λ r c one. beside_at r next c.receipt receipt _ _ c.is is (at_it r c one)) with
