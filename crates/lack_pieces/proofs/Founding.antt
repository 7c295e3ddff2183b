-- A count is above some count with another prev than 0 exactly if it is above the lowest, and the
-- first that a walk meets is the lowest, since counts rise.
use Rattle.std.proofs.Common.{◌≡◌, ◌⊎◌, ℕ, ◌<◌, ◌≤◌, ◌+◌, zero, Bool, true, false, List, Option}
use Rattle.std.proofs.Common.{Some, None, inl, inr, slice_get, refl, sym, ◌∙◌, ap, subst, arith}
use Rattle.std.proofs.lemmas.Bool.{cases_lt, cases_order, false≢true}
use Rattle.std.proofs.lemmas.Option.{same_Some}
use Rattle.st_core.specs.declared.types.Pid.{Pid}
use Rattle.st_core.specs.declared.types.Event.{Event}
use Rattle.st_pair.specs.Laws.{IsEarlier}
use Rattle.st_pair.specs.Pairing.{stamp_of}
use Rattle.st_pair.specs.Places.{is_stamp}
use Rattle.lack_decide.specs.declared.answer.Never.TheVariants as never
use Rattle.lack_decide.specs.Answers.{reason_rank, IsAfterReceive}
use Rattle.lack_pieces.specs.declared.placed_reason.Receipt.{Receipt}
use Rattle.lack_pieces.specs.declared.placed_reason.PlacedReason.{PlacedReason}
use Rattle.lack_pieces.specs.declared.unfounded_events.Lowest.{Lowest}
use Rattle.lack_pieces.specs.Firsts.{HoldsOfRank, IsEarliest, IsFirstOfRank, IsFirstWith}
use Rattle.lack_pieces.specs.Firsts.{StampsRise}
use Rattle.lack_pieces.specs.Lowest.{IsKnownBelow, IsLowest, IsLowestIn, IsReceiptCounted}
use Rattle.lack_pieces.specs.Lowest.{IsStampCounted, IsUnfoundedReceipt, IsUnfoundedStamp}
use Rattle.lack_pieces.specs.Pieces.{Piece}
use Rattle.lack_pieces.specs.Reasons.{own_streams, HasStampBelow, IsAgainstIn}
use Rattle.lack_pieces.specs.Verdicts.{AreInOrder, ComesBefore}
use Rattle.lack_pieces.proofs.Candidates.{first_of_all, found_more, found_still, IsBeside}
use Rattle.lack_pieces.proofs.Candidates.{IsFoundBelow}
use Rattle.lack_pieces.proofs.Order.{not_earlier, not_earlier_back}
use Rattle.lack_pieces.proofs.Readings.{own_events}
use Rattle.lack_pieces.proofs.ReceivedCounts.{counts_climb, reason_at}
use Rattle.lack_pieces.proofs.Walks.{unfounded}
use Rattle.lack_needs.proofs.ForCallers.{more_passed}

-- THE LOWEST COUNT

below_lowest : (Is : ℕ → Type 0) (low : Option ℕ) (count : ℕ) → IsLowest Is low
    → IsKnownBelow low count → (n : ℕ) × Is n × (n < count)
below_lowest Is None count lowest known = absurd known
below_lowest Is (Some low) count lowest known = (low, lowest.0, known)

lowest_below : (Is : ℕ → Type 0) (low : Option ℕ) (n count : ℕ) → IsLowest Is low → Is n
    → n < count → IsKnownBelow low count
lowest_below Is None n count lowest is less = absurd (lowest n is)
lowest_below Is (Some low) n count lowest is less = let least = lowest.1 n is in
    omega (arith, less, least)

module _ (piece : Piece) (lowest : Lowest) (is : IsLowestIn piece lowest) (e : Event) where
  pub behind_known : IsKnownBelow lowest.stamps e.serial.this
      ⊎ IsKnownBelow lowest.receipts e.serial.this → HasStampBelow piece e
  behind_known (inl known) =
      let f = below_lowest (IsStampCounted piece.events) lowest.stamps e.serial.this
      is.stamps known in
      let s = f.1 in
      let less = f.2 in
      let same = s.is in
      record {
        pid = piece.pid;
        index = s.place;
        first = s.event;
        tells = inl (record { own = refl; at = s.at }, s.stamps);
        lower = omega (arith, less, same);
        above = s.above;
      }
  behind_known (inr known) =
      let f = below_lowest (IsReceiptCounted piece.receipts) lowest.receipts e.serial.this
      is.receipts known in
      let s = f.1 in
      let less = f.2 in
      let same = s.is in
      record {
        pid = s.receipt.pid;
        index = s.receipt.index;
        first = s.receipt.event;
        tells = inr (record { place = s.place; at = s.at });
        lower = omega (arith, less, same);
        above = s.above;
      }

  pub known_behind : HasStampBelow piece e → IsKnownBelow lowest.stamps e.serial.this
      ⊎ IsKnownBelow lowest.receipts e.serial.this
  known_behind b = elim b.tells [
    | inl stamp ↦ inl (lowest_below (IsStampCounted piece.events) lowest.stamps
        b.first.serial.this e.serial.this is.stamps (record {
          place = b.index;
          event = b.first;
          at = stamp.0.at;
          stamps = stamp.1;
          above = b.above;
          is = refl;
        }) b.lower)
    | inr receipt ↦ inr (lowest_below (IsReceiptCounted piece.receipts) lowest.receipts
        b.first.serial.this e.serial.this is.receipts (record {
          place = receipt.place;
          receipt = record { pid = b.pid; index = b.index; event = b.first };
          at = receipt.at;
          above = b.above;
          is = refl;
        }) b.lower)
  ]

-- THE FIRST UNFOUNDED EVENT

module _ (top : ℕ) (piece : Piece) where
  abbrev pub IsEither : PlacedReason → Type 0
  IsEither r = IsUnfoundedStamp piece r ⊎ IsUnfoundedReceipt piece r

  either_holds : (r : PlacedReason) → IsEither r → HoldsOfRank top piece 5 r
  either_holds r (inl s) = record {
    event = s.event;
    holds = subst (λ n. IsAgainstIn top piece r.pid r.index s.event n) (sym s.is) (
      s.zero,
      elim s.why [ inl after ↦ inl (s.own.0, after) | inr below ↦ inr (inl s.own, below) ],
    );
    of_rank = ap reason_rank s.is;
  }
  either_holds r (inr t) = record {
    event = t.event;
    holds = subst (λ n. IsAgainstIn top piece r.pid r.index t.event n) (sym t.is)
        (t.zero, inr (inr t.hidden, t.behind));
    of_rank = ap reason_rank t.is;
  }

  holds_either : (r : PlacedReason) → HoldsOfRank top piece 5 r → (c : PlacedReason) × IsEither c
      × IsBeside r c
  holds_either r h =
      let c : PlacedReason = record { pid = r.pid; index = r.index; never = never.Unfounded } in
      let x = unfounded top piece r h in
      let beside : IsBeside r c = record { pid = refl; index = refl } in
      elim x.1 [
        | inl own ↦ (
          c,
          inl (record {
            event = h.event;
            own = (own.0, own.1.0);
            zero = x.0;
            why = inl own.1;
            is = refl;
          }),
          beside,
        )
        | inr both ↦ elim both.0 [
          | inl stamp ↦ (
            c,
            inl (record { event = h.event; own = stamp; zero = x.0; why = inr both.1; is = refl }),
            beside,
          )
          | inr hidden ↦ (
            c,
            inr (record {
              event = h.event;
              hidden = hidden;
              zero = x.0;
              behind = both.1;
              is = refl;
            }),
            beside,
          )
        ]
      ]

  ranks : (a b : PlacedReason) → IsEither a → IsEither b → reason_rank a.never ≡ reason_rank b.never
  ranks a b first second = (either_holds a first).of_rank ∙ sym (either_holds b second).of_rank

  at_earlier : (a b : PlacedReason) → IsEither a → IsEither b → ComesBefore a b
      → IsEarlier a.pid a.index b.pid b.index
  at_earlier a b first second before = elim before [
    | inl less ↦ let same = ranks a b first second in absurd (omega (arith, less, same))
    | inr both ↦ both.1
  ]

  -- if no receipt is unfounded, the first unfounded stamp is the first
  pub first_stamp : (stamp : Option PlacedReason) → IsEarliest (IsUnfoundedStamp piece) stamp
      → IsEarliest (IsUnfoundedReceipt piece) None → IsFirstOfRank top piece 5 stamp
  first_stamp stamp first none =
      first_of_all (IsUnfoundedStamp piece) (HoldsOfRank top piece 5) stamp
      (λ r is. either_holds r (inl is))
      (λ r h. let c = holds_either r h in (
        c.0,
        elim c.1 [
          | inl is ↦ is
          | inr is ↦ absurd (none c.0 is)
        ],
        c.2,
      )) first

  -- else it is the first of stamp and receipt
  pub first_both : (stamp : Option PlacedReason) (receipt result : PlacedReason)
      → IsEarliest (IsUnfoundedStamp piece) stamp
      → IsEarliest (IsUnfoundedReceipt piece) (Some receipt) → IsFirstWith stamp receipt result
      → IsFirstOfRank top piece 5 (Some result)
  first_both None receipt result stamps receipts with =
      subst (λ (r : PlacedReason). IsFirstOfRank top piece 5 (Some r)) (sym with)
      (first_of_all (IsUnfoundedReceipt piece) (HoldsOfRank top piece 5) (Some receipt)
      (λ r is. either_holds r (inr is))
      (λ r h. let c = holds_either r h in (
        c.0,
        elim c.1 [
          | inl is ↦ absurd (stamps c.0 is)
          | inr is ↦ is
        ],
        c.2,
      )) receipts)
  first_both (Some stamp) receipt result stamps receipts with = elim with [
    | inl kept ↦ subst (λ (r : PlacedReason). IsFirstOfRank top piece 5 (Some r)) (sym kept.0)
        (first_of_all IsEither (HoldsOfRank top piece 5) (Some stamp) either_holds holds_either (
          inl stamps.0,
          λ other is. elim is [
            | inl s ↦ stamps.1 other s
            | inr t ↦ not_earlier other receipt stamp (receipts.1 other t)
                (λ earlier. kept.1 (inr (
                  ranks receipt stamp (inr receipts.0) (inl stamps.0),
                  earlier,
                )))
          ],
        ))
    | inr new ↦ subst (λ (r : PlacedReason). IsFirstOfRank top piece 5 (Some r)) (sym new.0)
        (first_of_all IsEither (HoldsOfRank top piece 5) (Some receipt) either_holds holds_either (
          inr receipts.0,
          λ other is. elim is [
            | inl s ↦ not_earlier other stamp receipt (stamps.1 other s)
                (not_earlier_back receipt stamp (at_earlier receipt stamp (inr receipts.0)
                (inl stamps.0) new.1))
            | inr t ↦ receipts.1 other t
          ],
        ))
  ]

-- THE WALKS

-- whether an event before index i is a receive
abbrev pub IsReceived : List Event → ℕ → Bool → Type 0
IsReceived es i true = (j : ℕ) × (f : Event) × (j < i) × (slice_get es j ≡ Some f)
    × (is_stamp f ≡ false)
IsReceived es i false = (j : ℕ) (f : Event) → j < i → slice_get es j ≡ Some f → is_stamp f ≡ true

-- no send or print before index i is unfounded
abbrev pub IsFoundedBelow : Piece → ℕ → Type 0
IsFoundedBelow piece i = (other : PlacedReason) → IsUnfoundedStamp piece other → other.index < i → ⊥

abbrev pub receipt_place : (piece : Piece) (r : PlacedReason) → IsUnfoundedReceipt piece r → ℕ
receipt_place piece r t = t.hidden.0.place

-- the unfounded receipt is before place n
abbrev pub IsUnfoundedBelow : Piece → ℕ → PlacedReason → Type 0
IsUnfoundedBelow piece n r = IsFoundBelow (IsUnfoundedReceipt piece) (receipt_place piece) n r

module _ (piece : Piece) (i : ℕ) (e : Event) (at : slice_get piece.events i ≡ Some e) where
  pub received_here : is_stamp e ≡ false → IsReceived piece.events (i + 1) true
  received_here receives = (i, e, omega arith, at, receives)

  pub received_kept : (b : Bool) → is_stamp e ≡ true → IsReceived piece.events i b
      → IsReceived piece.events (i + 1) b
  received_kept true stamps h = let less = h.2 in (h.0, h.1, omega (arith, less), h.3, h.4)
  received_kept false stamps none =
      more_passed (λ _ (f : Event). is_stamp f ≡ true) piece.events i e at none stamps

  pub after_receive : is_stamp e ≡ true → IsReceived piece.events i true
      → IsAfterReceive (own_streams piece) piece.pid i e
  after_receive stamps h = (
    stamps,
    h.0,
    h.1,
    h.2,
    subst (λ es. slice_get es h.0 ≡ Some h.1) (sym (own_events piece)) h.3,
    h.4,
  )

  pub not_after_receive : IsReceived piece.events i false
      → ¬ IsAfterReceive (own_streams piece) piece.pid i e
  not_after_receive none h =
      let there = subst (λ es. slice_get es h.1 ≡ Some h.2) (own_events piece) h.4 in
      false≢true (sym h.5 ∙ none h.1 h.2 h.3 there)

  pub founded_more : IsFoundedBelow piece i → (is_stamp e ≡ true → e.serial.prev ≡ 0
      → ¬ (IsAfterReceive (own_streams piece) piece.pid i e ⊎ HasStampBelow piece e))
      → IsFoundedBelow piece (i + 1)
  founded_more before here other s less = elim (cases_lt other.index i) [
    | inl below ↦ before other s below
    | inr high ↦
        let one : other.index ≡ i = omega (arith, less, high) in
        let same : s.event ≡ e = same_Some s.event e (sym s.own.0.at
        ∙ ap (slice_get piece.events) one ∙ at) in
        here (ap is_stamp (sym same) ∙ s.own.1)
        (ap (λ (x : Event). x.serial.prev) (sym same) ∙ s.zero)
        (subst (λ (x : Event). IsAfterReceive (own_streams piece) piece.pid i x
        ⊎ HasStampBelow piece x) same
        (subst (λ (n : ℕ). IsAfterReceive (own_streams piece) piece.pid n s.event
        ⊎ HasStampBelow piece s.event) one
        (subst (λ (q : Pid). IsAfterReceive (own_streams piece) q other.index s.event
        ⊎ HasStampBelow piece s.event) s.own.0.own s.why)))
  ]

-- THE LOWEST COUNT IS THE FIRST

-- no item with another prev has a lower count, if those before it have prev 0 and counts rise
-- after it
no_lower : {A : Type 0} (Counts : A → Type 0) (count prev : A → ℕ) (xs : List A) (i : ℕ) (x : A)
    → slice_get xs i ≡ Some x
    → ((k : ℕ) (y : A) → k < i → slice_get xs k ≡ Some y → Counts y → prev y ≡ 0)
    → ((k : ℕ) (y : A) → i < k → slice_get xs k ≡ Some y → Counts y → count x ≤ count y)
    → (k : ℕ) (y : A) → slice_get xs k ≡ Some y → Counts y → 0 < prev y → count x ≤ count y
no_lower Counts count prev xs i x at none climb k y there counts above = elim (cases_order i k) [
  | inl one ↦
      omega (arith, ap count (same_Some x y (sym at ∙ ap (slice_get xs) one ∙ there)))
  | inr (inl less) ↦ climb k y less there counts
  | inr (inr less) ↦
      absurd (omega (arith, none k y less there counts, above))
]

pub lowest_stamp : (es : List Event) (i : ℕ) (e : Event) → StampsRise es → slice_get es i ≡ Some e
    → is_stamp e ≡ true → 0 < e.serial.prev
    → ((k : ℕ) (f : Event) → k < i → slice_get es k ≡ Some f → is_stamp f ≡ true
    → f.serial.prev ≡ 0) → IsLowest (IsStampCounted es) (Some e.serial.this)
lowest_stamp es i e rise at stamps above none = (
  record { place = i; event = e; at = at; stamps = stamps; above = above; is = refl },
  λ count s.
      let same = s.is in
      let low = no_lower (λ f. is_stamp f ≡ true) (λ f. f.serial.this) (λ f. f.serial.prev) es i e
      at none (λ k f less there second.
      let more = rise i k e f less at there stamps second in omega (arith, more))
      s.place s.event s.at s.stamps s.above in
      omega (arith, low, same),
)

pub lowest_receipt : (rs : List Receipt) (i : ℕ) (r : Receipt) → AreInOrder rs
    → slice_get rs i ≡ Some r → 0 < r.event.serial.prev
    → ((k : ℕ) (s : Receipt) → k < i → slice_get rs k ≡ Some s → s.event.serial.prev ≡ 0)
    → IsLowest (IsReceiptCounted rs) (Some r.event.serial.this)
lowest_receipt rs i r order at above none = (
  record { place = i; receipt = r; at = at; above = above; is = refl },
  λ count s.
      let same = s.is in
      let low = no_lower (λ _. Unit {0}) (λ t. t.event.serial.this) (λ t. t.event.serial.prev) rs i
      r at (λ k t less there _. none k t less there)
      (λ k t less there _. counts_climb rs order i k r t less at there)
      s.place s.receipt s.at tt s.above in
      omega (arith, low, same),
)

-- ONE RECEIPT MORE

module _ (piece : Piece) (n : ℕ) (receipt : Receipt)
    (at : slice_get piece.receipts n ≡ Some receipt) (least : Option PlacedReason)
    (first : IsEarliest (IsUnfoundedBelow piece n) least) where
  at_it : (r : PlacedReason) (t : IsUnfoundedReceipt piece r) → t.hidden.0.place ≡ n
      → record { pid = r.pid; index = r.index; event = t.event } ≡ receipt
  at_it r t one =
      let here : Receipt = record { pid = r.pid; index = r.index; event = t.event } in
      same_Some here receipt (sym t.hidden.0.at ∙ ap (slice_get piece.receipts) one ∙ at)

  pub unfounded_still : (receipt.event.serial.prev ≡ 0
      → stamp_of (own_streams piece) piece.pid receipt.event.serial.this ≡ None
      → ¬ HasStampBelow piece receipt.event) → IsEarliest (IsUnfoundedBelow piece (n + 1)) least
  unfounded_still none =
      found_still (IsUnfoundedReceipt piece) (receipt_place piece) n least first (λ r t one.
      let event : t.event ≡ receipt.event = ap (λ (x : Receipt). x.event) (at_it r t one) in
      none (ap (λ (x : Event). x.serial.prev) (sym event) ∙ t.zero)
      (subst (λ (x : Event). stamp_of (own_streams piece) piece.pid x.serial.this ≡ None)
      event t.hidden.1)
      (subst (λ (x : Event). HasStampBelow piece x) event t.behind))

  pub unfounded_more : (next result : PlacedReason) → receipt.event.serial.prev ≡ 0
      → stamp_of (own_streams piece) piece.pid receipt.event.serial.this ≡ None
      → HasStampBelow piece receipt.event → next ≡ reason_at receipt never.Unfounded
      → IsFirstWith least next result → IsEarliest (IsUnfoundedBelow piece (n + 1)) (Some result)
  unfounded_more next result zero_prev hidden behind is with =
      let here : IsUnfoundedReceipt piece (reason_at receipt never.Unfounded) = record {
        event = receipt.event;
        hidden = (record { place = n; at = at }, hidden);
        zero = zero_prev;
        behind = behind;
        is = refl;
      } in
      subst (λ (r : PlacedReason). IsFirstWith least r result
      → IsEarliest (IsUnfoundedBelow piece (n + 1)) (Some result)) (sym is)
      (found_more (IsUnfoundedReceipt piece) (receipt_place piece) n least first 5
      (λ r t. ap reason_rank t.is) (reason_at receipt never.Unfounded) result here refl
      (λ r t one. let same = at_it r t one in record {
        pid = ap (λ (x : Receipt). x.pid) same;
        index = ap (λ (x : Receipt). x.index) same;
      })) with
