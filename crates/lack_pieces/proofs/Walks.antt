-- The reasons of a rank are facts about single events of a piece, so a walk that has passed no
-- event with the fact finds the first one.
use Rattle.std.proofs.Common.{◌≡◌, ℕ, ◌<◌, ◌≤◌, ◌+◌, zero, suc, Bool, true, false, List, Option}
use Rattle.std.proofs.Common.{Some, None, inl, inr, slice_get, refl, sym, ◌∙◌, ap, subst, arith}
use Rattle.std.proofs.lemmas.Bool.{cases_lt, cases_order}
use Rattle.std.proofs.lemmas.Option.{same_Some}
use Rattle.st_core.specs.declared.types.Pid.{Pid}
use Rattle.st_core.specs.declared.types.Event.{Event}
use Rattle.st_core.proofs.ForCallers.{not_below_itself}
use Rattle.st_core.specs.Pid.{IsBelow}
use Rattle.st_pair.specs.Places.{event_at, is_stamp}
use Rattle.lack_decide.specs.declared.answer.Never.{Never}
use Rattle.lack_decide.specs.declared.answer.Never.TheVariants as never
use Rattle.lack_decide.specs.Answers.{reason_rank}
use Rattle.lack_pieces.specs.declared.placed_reason.PlacedReason.{PlacedReason}
use Rattle.lack_pieces.specs.Firsts.{HoldsOfRank, IsEarliest, IsFirstOfRank, IsLastReceive}
use Rattle.lack_pieces.specs.Firsts.{IsLastReceiveAt}
use Rattle.lack_pieces.specs.Pieces.{Piece}
use Rattle.lack_pieces.specs.Reasons.{own_streams, IsAgainstIn}
use Rattle.lack_pieces.specs.Verdicts.{IsFirstIn, IsVerdictIn}
use Rattle.lack_pieces.proofs.Readings.{own_events}
use Rattle.lack_needs.proofs.ForCallers.{more_passed}

-- THE REASON OF A RANK

abbrev pub IsOfKind : ℕ → Never → Type 0
IsOfKind zero r = r ≡ never.PrevNotBefore
IsOfKind (suc zero) r = (j : ℕ) × (r ≡ never.NotRising j)
IsOfKind (suc (suc zero)) r = (q : Pid) × (j : ℕ) × (r ≡ never.Repeated q j)
IsOfKind (suc (suc (suc zero))) r = (q : Pid) × (j : ℕ) × (r ≡ never.Mismatch q j)
IsOfKind (suc (suc (suc (suc zero)))) r = (j : ℕ) × (r ≡ never.Late j)
IsOfKind (suc (suc (suc (suc (suc zero))))) r = r ≡ never.Unfounded
IsOfKind (suc (suc (suc (suc (suc (suc n)))))) r = r ≡ never.TooHigh

pub kind_of : (r : Never) → IsOfKind (reason_rank r) r
kind_of never.PrevNotBefore = refl
kind_of (never.NotRising j) = (j, refl)
kind_of (never.Repeated q j) = (q, j, refl)
kind_of (never.Mismatch q j) = (q, j, refl)
kind_of (never.Late j) = (j, refl)
kind_of never.Unfounded = refl
kind_of never.TooHigh = refl

rank_below : (r : Never) → reason_rank r < 7
rank_below never.PrevNotBefore = omega arith
rank_below (never.NotRising j) = omega arith
rank_below (never.Repeated q j) = omega arith
rank_below (never.Mismatch q j) = omega arith
rank_below (never.Late j) = omega arith
rank_below never.Unfounded = omega arith
rank_below never.TooHigh = omega arith

module _ (top : ℕ) (piece : Piece) where
  of_kind : (rank : ℕ) (r : PlacedReason) → HoldsOfRank top piece rank r → IsOfKind rank r.never
  of_kind rank r h = subst (λ (n : ℕ). IsOfKind n r.never) h.of_rank (kind_of r.never)

  pub as_reason : (rank : ℕ) (r : PlacedReason) (h : HoldsOfRank top piece rank r) (reason : Never)
      → r.never ≡ reason → IsAgainstIn top piece r.pid r.index h.event reason
  as_reason rank r h reason same =
      subst (IsAgainstIn top piece r.pid r.index h.event) same h.holds

  pub prev_not_before : (r : PlacedReason) (h : HoldsOfRank top piece 0 r)
      → IsAgainstIn top piece r.pid r.index h.event never.PrevNotBefore
  prev_not_before r h = as_reason 0 r h never.PrevNotBefore (of_kind 0 r h)

  pub not_rising : (r : PlacedReason) (h : HoldsOfRank top piece 1 r)
      → (j : ℕ) × IsAgainstIn top piece r.pid r.index h.event (never.NotRising j)
  not_rising r h = let k = of_kind 1 r h in (k.0, as_reason 1 r h (never.NotRising k.0) k.1)

  pub repeated : (r : PlacedReason) (h : HoldsOfRank top piece 2 r)
      → (q : Pid) × (j : ℕ) × IsAgainstIn top piece r.pid r.index h.event (never.Repeated q j)
  repeated r h = let k = of_kind 2 r h in
      (k.0, k.1, as_reason 2 r h (never.Repeated k.0 k.1) k.2)

  pub mismatch : (r : PlacedReason) (h : HoldsOfRank top piece 3 r)
      → (q : Pid) × (j : ℕ) × IsAgainstIn top piece r.pid r.index h.event (never.Mismatch q j)
  mismatch r h = let k = of_kind 3 r h in
      (k.0, k.1, as_reason 3 r h (never.Mismatch k.0 k.1) k.2)

  pub late : (r : PlacedReason) (h : HoldsOfRank top piece 4 r)
      → (j : ℕ) × IsAgainstIn top piece r.pid r.index h.event (never.Late j)
  late r h = let k = of_kind 4 r h in (k.0, as_reason 4 r h (never.Late k.0) k.1)

  pub unfounded : (r : PlacedReason) (h : HoldsOfRank top piece 5 r)
      → IsAgainstIn top piece r.pid r.index h.event never.Unfounded
  unfounded r h = as_reason 5 r h never.Unfounded (of_kind 5 r h)

  pub too_high : (r : PlacedReason) (h : HoldsOfRank top piece 6 r)
      → IsAgainstIn top piece r.pid r.index h.event never.TooHigh
  too_high r h = as_reason 6 r h never.TooHigh (of_kind 6 r h)

  -- THE FIRST OF ALL KINDS

  -- no reason of a lower rank holds
  abbrev pub HasNoneBelow : ℕ → Type 0
  HasNoneBelow rank = (other : PlacedReason) (e : Event)
      → IsAgainstIn top piece other.pid other.index e other.never
      → reason_rank other.never < rank → ⊥

  pub none_below : HasNoneBelow 0
  none_below other e against less = omega (arith, less)

  pub none_more : (rank : ℕ) → HasNoneBelow rank → IsFirstOfRank top piece rank None
      → HasNoneBelow (suc rank)
  none_more rank below none other e against less =
      elim (cases_lt (reason_rank other.never) rank) [
        | inl lower ↦ below other e against lower
        | inr high ↦ none other (record {
          event = e;
          holds = against;
          of_rank = omega (arith, less, high);
        })
      ]

  pub first_in : (rank : ℕ) (found : PlacedReason) → HasNoneBelow rank
      → IsFirstOfRank top piece rank (Some found) → IsFirstIn top piece found
  first_in rank found below first = record {
    event = first.0.event;
    holds = first.0.holds;
    first = λ other e against before. elim before [
      | inl less ↦ below other e against (let is = first.0.of_rank in omega (arith, less, is))
      | inr both ↦ first.1 other (record {
        event = e;
        holds = against;
        of_rank = both.0 ∙ first.0.of_rank;
      }) both.1
    ];
  }

  -- the first reason of the last rank is the verdict, if no lower rank has one
  pub verdict_in : (found : Option PlacedReason) → HasNoneBelow 6 → IsFirstOfRank top piece 6 found
      → IsVerdictIn top piece found
  verdict_in None below none = λ other e against. none_more 6 below none other e against
      (rank_below other.never)
  verdict_in (Some found) below first = first_in 6 found below first

-- THE FIRST OF A WALK OVER OWN EVENTS

-- the reason with the lowest index is the first, since all are of one process
pub first_own : (Is : PlacedReason → Type 0) (pid : Pid) (found : PlacedReason) → Is found
    → ((other : PlacedReason) → Is other → other.pid ≡ pid) → found.pid ≡ pid
    → ((other : PlacedReason) → Is other → other.index < found.index → ⊥)
    → IsEarliest Is (Some found)
first_own Is pid found is own here none = (
  is,
  λ other holds earlier. elim earlier [
    | inl below ↦ not_below_itself pid (subst (λ (q : Pid). IsBelow q pid) (own other holds)
        (subst (IsBelow other.pid) here below))
    | inr both ↦ none other holds both.1
  ],
)

pub at_same : (es : List Event) (k : ℕ) (f e : Event) → slice_get es k ≡ Some f
    → slice_get es k ≡ Some e → f ≡ e
at_same es k f e at there = same_Some f e (sym at ∙ there)

-- SENDS AND PRINTS THAT RISE ABOVE EARLIER ONES, OR ABOVE RECEIVES

-- each send or print before index n has a greater count than each send or print before it (stamp)
-- or than each receive before it
abbrev pub RiseBelow : Bool → List Event → ℕ → Type 0
RiseBelow stamp es n = (j k : ℕ) (f e : Event) → j < k → k < n → slice_get es j ≡ Some f
    → slice_get es k ≡ Some e → is_stamp f ≡ stamp → is_stamp e ≡ true
    → f.serial.this < e.serial.this

-- one event more keeps that, if it is a receive, or has a greater count than those
pub rise_more : (stamp : Bool) (es : List Event) (n : ℕ) (e : Event) → slice_get es n ≡ Some e
    → RiseBelow stamp es n
    → (is_stamp e ≡ true → (j : ℕ) (f : Event) → j < n → slice_get es j ≡ Some f
    → is_stamp f ≡ stamp → f.serial.this < e.serial.this) → RiseBelow stamp es (n + 1)
rise_more stamp es n e at before here j k f d less within there is first second =
    elim (cases_lt k n) [
      | inl below ↦ before j k f d less below there is first second
      | inr high ↦
          let same : k ≡ n = omega (arith, within, high) in
          let event = at_same es n e d at (subst (λ (m : ℕ). slice_get es m ≡ Some d) same is) in
          let stamps = ap is_stamp event ∙ second in
          let low = here stamps j f (omega (arith, less, same)) there first in
          subst (λ (x : Event). f.serial.this < x.serial.this) event low
    ]

module _ (piece : Piece) (k : ℕ) (f : Event) where
  own_there : slice_get piece.events k ≡ Some f → event_at (own_streams piece) piece.pid k ≡ Some f
  own_there at = subst (λ es. slice_get es k ≡ Some f) (sym (own_events piece)) at

  there_own : event_at (own_streams piece) piece.pid k ≡ Some f → slice_get piece.events k ≡ Some f
  there_own at = subst (λ es. slice_get es k ≡ Some f) (own_events piece) at

module _ (top : ℕ) (piece : Piece) (n : ℕ) where
  pub none_falls : RiseBelow true piece.events n → (r : PlacedReason) → HoldsOfRank top piece 1 r
      → r.index < n → ⊥
  none_falls rise r h less =
      let k = not_rising top piece r h in
      let own = k.1.0 in
      let l = k.1.1.1 in
      let high = k.1.1.2 in
      let at = there_own piece k.0 l.event (subst (λ (q : Pid). event_at (own_streams piece) q k.0
      ≡ Some l.event) own.own l.at) in
      omega (arith, rise k.0 r.index l.event h.event l.before less at own.at l.is k.1.1.0, high)

  pub none_late : RiseBelow false piece.events n → (r : PlacedReason) → HoldsOfRank top piece 4 r
      → r.index < n → ⊥
  none_late rise r h less =
      let k = late top piece r h in
      let own = k.1.0 in
      let l = k.1.1.1 in
      let high = l.is.1 in
      let at = there_own piece k.0 l.event (subst (λ (q : Pid). event_at (own_streams piece) q k.0
      ≡ Some l.event) own.own l.at) in
      omega (arith, rise k.0 r.index l.event h.event l.before less at own.at l.is.0 k.1.1.0, high)

-- the last send or print before an index, with its count
pub record IsLastStampAt (es : List Event) (i : ℕ) (found : ℕ × ℕ) : Type 0 where
  pub event : Event
  pub at : slice_get es found.0 ≡ Some event
  pub stamps : is_stamp event ≡ true
  pub before : found.0 < i
  pub count : event.serial.this ≡ found.1
  pub last : (k : ℕ) (f : Event) → found.0 < k → k < i → slice_get es k ≡ Some f
      → is_stamp f ≡ false

abbrev pub IsLastStamp : List Event → ℕ → Option (ℕ × ℕ) → Type 0
IsLastStamp es i None = (k : ℕ) (f : Event) → k < i → slice_get es k ≡ Some f → is_stamp f ≡ false
IsLastStamp es i (Some last) = IsLastStampAt es i last

-- a send or print whose count isn't above that of the last one before it is not rising
pub falls_at : (top : ℕ) (piece : Piece) (i : ℕ) (e : Event) (found : ℕ × ℕ)
    → slice_get piece.events i ≡ Some e → is_stamp e ≡ true
    → IsLastStampAt piece.events i found → e.serial.this ≤ found.1
    → IsAgainstIn top piece piece.pid i e (never.NotRising found.0)
falls_at top piece i e found at stamps l low = (
  record { own = refl; at = at },
  (
    stamps,
    record {
      event = l.event;
      at = own_there piece found.0 l.event l.at;
      before = l.before;
      is = l.stamps;
      last = λ k f after within there stamps.
          let clash : true ≡ false =
          sym stamps ∙ l.last k f after within (there_own piece k f there) in
          cc;
    },
    let count = l.count in omega (arith, low, count),
  ),
)

-- a send or print whose count isn't above that of a receive before it is late
pub late_at : (top : ℕ) (piece : Piece) (i : ℕ) (e : Event) (j : ℕ)
    → slice_get piece.events i ≡ Some e → is_stamp e ≡ true
    → IsLastReceiveAt piece.events i e.serial.this j
    → IsAgainstIn top piece piece.pid i e (never.Late j)
late_at top piece i e j at stamps l = (
  record { own = refl; at = at },
  (
    stamps,
    record {
      event = l.event;
      at = own_there piece j l.event l.at;
      before = l.before;
      is = (l.receives, l.reaches);
      last = λ k f after within there both.
          omega (arith, l.last k f after within (there_own piece k f there) both.0, both.1);
    },
  ),
)

module _ (es : List Event) (i : ℕ) (e : Event) (here : slice_get es i ≡ Some e) where
  pub stamp_kept : (last : Option (ℕ × ℕ)) → is_stamp e ≡ false → IsLastStamp es i last
      → IsLastStamp es (i + 1) last
  stamp_kept None receives none = more_passed (λ _ (f : Event). is_stamp f ≡ false) es i e here none
      receives
  stamp_kept (Some found) receives l = let less = l.before in
      record {
        event = l.event;
        at = l.at;
        stamps = l.stamps;
        before = omega (arith, less);
        count = l.count;
        last = λ k f after within at. more_passed
            (λ k (f : Event). found.0 < k → is_stamp f ≡ false) es i e here
            (λ k f low at after. l.last k f after low at) (λ _. receives) k f within at after;
      }

  pub stamp_here : is_stamp e ≡ true → IsLastStamp es (i + 1) (Some (i, e.serial.this))
  stamp_here stamps = record {
    event = e;
    at = here;
    stamps = stamps;
    before = omega arith;
    count = refl;
    last = λ k f after within at. absurd (omega (arith, after, within));
  }

  pub above_last : (last : Option (ℕ × ℕ)) → IsLastStamp es i last → RiseBelow true es i
      → ((found : ℕ × ℕ) → last ≡ Some found → found.1 < e.serial.this)
      → (j : ℕ) (f : Event) → j < i → slice_get es j ≡ Some f → is_stamp f ≡ true
      → f.serial.this < e.serial.this
  above_last None none rise above j f less at stamps =
      absurd (let clash : true ≡ false = sym stamps ∙ none j f less at in cc)
  above_last (Some found) l rise above j f less at stamps =
      let high = above found refl in
      let count = l.count in
      elim (cases_order j found.0) [
        | inl one ↦
            let same = ap (λ (x : Event). x.serial.this) (at_same es found.0 f l.event
            (subst (λ (n : ℕ). slice_get es n ≡ Some f) one at) l.at) in
            omega (arith, same, high, count)
        | inr (inl before) ↦
            let low = rise j found.0 f l.event before l.before at l.at stamps l.stamps in
            omega (arith, low, high, count)
        | inr (inr behind) ↦
            absurd (let clash : true ≡ false = sym stamps ∙ l.last j f behind less at in cc)
      ]

  -- THE LAST RECEIVE THAT COUNTS NO LOWER

  pub receive_here : (count : ℕ) → is_stamp e ≡ false → count ≤ e.serial.this
      → IsLastReceive es (i + 1) count (Some i)
  receive_here count receives reaches = record {
    event = e;
    at = here;
    before = omega arith;
    receives = receives;
    reaches = reaches;
    last = λ k f after within at first. absurd (omega (arith, after, within));
  }

  pub receive_kept : (count : ℕ) (last : Option ℕ)
      → (is_stamp e ≡ false → e.serial.this < count) → IsLastReceive es i count last
      → IsLastReceive es (i + 1) count last
  receive_kept count None low none = more_passed
      (λ _ (f : Event). is_stamp f ≡ false → f.serial.this < count) es i e here none low
  receive_kept count (Some j) low l = let less = l.before in
      record {
        event = l.event;
        at = l.at;
        before = omega (arith, less);
        receives = l.receives;
        reaches = l.reaches;
        last = λ k f after within at. more_passed (λ k (f : Event). j < k → is_stamp f ≡ false
            → f.serial.this < count) es i e here (λ k f less at after. l.last k f after less at)
            (λ _. low) k f within at after;
      }
