-- A reason speaks of one process's events and of the receives of its messages, and a piece has
-- both: so it says the same in the piece as in the streams.
use Rattle.std.proofs.Common.{◌≡◌, ◌⊎◌, ℕ, ◌≤◌, ◌||◌, Bool, true, false, cond, List, Option, Some}
use Rattle.std.proofs.Common.{None, inl, inr, slice_get, refl, sym, ◌∙◌, ap, subst}
use Rattle.std.specs.Prelude.{is_none}
use Rattle.st_core.specs.declared.types.Pid.{Pid}
use Rattle.st_core.specs.declared.types.Event.{Event}
use Rattle.st_core.specs.Run.{Stream}
use Rattle.st_core.specs.Streams.{events_of}
use Rattle.st_core.proofs.ForCallers.{pid_eq-refl}
use Rattle.st_pair.specs.Pairing.{stamp_of}
use Rattle.st_pair.specs.Places.{event_at, first_from, is_stamp}
use Rattle.st_pair.proofs.ForCallers.{events_in, own_rule}
use Rattle.lack_decide.specs.declared.answer.Never.{Never}
use Rattle.lack_decide.specs.declared.answer.Never.TheVariants as never
use Rattle.lack_decide.specs.Answers.{IsAfterReceive, IsAfterStamp, IsAgainst, IsLast}
use Rattle.lack_pieces.specs.Pieces.{IsOwnEvent, IsPieceOf, IsReceipt, IsReceiveFrom, Piece}
use Rattle.lack_pieces.specs.Reasons.{own_streams, IsAgainstIn, IsHiddenReceipt, IsOwnStamp}

-- ONE PROCESS'S EVENTS, IN ANY STREAMS

module _ (here there : List Stream) (p : Pid) (same : events_of here p ≡ events_of there p) where
  pub moved : (k : ℕ) (f : Event) → event_at here p k ≡ Some f → event_at there p k ≡ Some f
  moved k f at = subst (λ es. slice_get es k ≡ Some f) same at

  pub back : (k : ℕ) (f : Event) → event_at there p k ≡ Some f → event_at here p k ≡ Some f
  back k f at = subst (λ es. slice_get es k ≡ Some f) (sym same) at

  abbrev pub last_moved : (i : ℕ) (Is : Event → Type 0) (j : ℕ) → IsLast here p i Is j
      → IsLast there p i Is j
  last_moved i Is j l = record {
    event = l.event;
    at = moved j l.event l.at;
    before = l.before;
    is = l.is;
    last = λ k f after within at. l.last k f after within (back k f at);
  }

  pub after_moved : (i : ℕ) (e : Event) → IsAfterReceive here p i e → IsAfterReceive there p i e
  after_moved i e h = (h.0, h.1, h.2, h.3, moved h.1 h.2 h.4, h.5)

  pub stamp_moved : (this : ℕ) → stamp_of here p this ≡ stamp_of there p this
  stamp_moved this = ap (λ es. first_from (own_rule this) p 0 es) same

-- the kind of reason shows in a process's own events alone
abbrev pub IsOfOwn : Never → Type 0
IsOfOwn (never.Repeated q j) = ⊥
IsOfOwn (never.Mismatch q j) = ⊥
IsOfOwn never.Unfounded = ⊥
IsOfOwn reason = Unit {0}

none_if : {A : Type 0} (o : Option A) → is_none o ≡ true → o ≡ None
none_if None h = refl
none_if (Some x) h = absurd (cc)

-- A PIECE OF STREAMS

pub own_events : (piece : Piece) → events_of (own_streams piece) piece.pid ≡ piece.events
own_events piece =
    let own : Stream = record { pid = piece.pid; events = piece.events } in
    ap (λ (b : Bool). events_in (cond b (Some own) None)) (pid_eq-refl piece.pid)

module _ (top : ℕ) (streams : List Stream) (piece : Piece) (is : IsPieceOf streams piece) where
  same_events : (p : Pid) → p ≡ piece.pid → events_of (own_streams piece) p ≡ events_of streams p
  same_events p own = subst (λ (q : Pid). events_of (own_streams piece) q ≡ events_of streams q)
      (sym own) (own_events piece ∙ is.events)

  own_at : (p : Pid) (i : ℕ) (e : Event) → IsOwnEvent piece p i e → event_at streams p i ≡ Some e
  own_at p i e own = subst (λ (q : Pid). event_at streams q i ≡ Some e) (sym own.own)
      (subst (λ es. slice_get es i ≡ Some e) is.events own.at)

  at_own : (p : Pid) (i : ℕ) (e : Event) → p ≡ piece.pid → event_at streams p i ≡ Some e
      → IsOwnEvent piece p i e
  at_own p i e own at = record {
    own = own;
    at = subst (λ es. slice_get es i ≡ Some e) (sym is.events)
        (subst (λ (q : Pid). event_at streams q i ≡ Some e) own at);
  }

  received : (p : Pid) (i : ℕ) (e : Event) → IsReceipt piece p i e
      → IsReceiveFrom streams piece.pid p i e
  received p i e = (is.receipts p i e).0

  -- FROM THE PIECE TO THE STREAMS

  module _ (from_own : (p : Pid) (i : ℕ) (e : Event) → event_at streams p i ≡ Some e
      → is_stamp e ≡ true → e.from ≡ p) where
    -- a send or print of the process, or the receive of its message, is from the process
    told_at : (p : Pid) (i : ℕ) (e : Event) → IsOwnStamp piece p i e ⊎ IsReceipt piece p i e
        → (event_at streams p i ≡ Some e) × (e.from ≡ piece.pid)
    told_at p i e (inl stamp) =
        let at = own_at p i e stamp.0 in
        (at, from_own p i e at stamp.1 ∙ stamp.0.own)
    told_at p i e (inr receipt) = let r = received p i e receipt in (r.at, r.from)

    tells : (p : Pid) (i : ℕ) (e : Event) → IsOwnStamp piece p i e ⊎ IsHiddenReceipt piece p i e
        → (is_stamp e || is_none (stamp_of streams e.from e.serial.this)) ≡ true
    tells p i e (inl stamp) =
        ap (λ b. b || is_none (stamp_of streams e.from e.serial.this)) stamp.1
    tells p i e (inr hidden) =
        let r = received p i e hidden.0 in
        let none : stamp_of streams e.from e.serial.this ≡ None =
        subst (λ (q : Pid). stamp_of streams q e.serial.this ≡ None) (sym r.from)
        (sym (stamp_moved (own_streams piece) streams piece.pid
        (same_events piece.pid refl) e.serial.this) ∙ hidden.1) in
        ap (λ b. b || is_none (stamp_of streams e.from e.serial.this)) r.receives ∙ ap is_none none

    first_at : (p : Pid) (i : ℕ) (e : Event) → IsOwnStamp piece p i e ⊎ IsHiddenReceipt piece p i e
        → (event_at streams p i ≡ Some e) × (e.from ≡ piece.pid)
    first_at p i e (inl stamp) = told_at p i e (inl stamp)
    first_at p i e (inr hidden) = told_at p i e (inr hidden.0)

    abbrev Stands : Pid → ℕ → Event → Never → Type 0
    Stands p i e reason = (event_at streams p i ≡ Some e) × IsAgainst top streams p i e reason

    pub stands : (p : Pid) (i : ℕ) (e : Event) (reason : Never)
        → IsAgainstIn top piece p i e reason → Stands p i e reason
    stands p i e never.PrevNotBefore h = (own_at p i e h.0, h.1)
    stands p i e (never.NotRising j) h =
        let l = last_moved (own_streams piece) streams p (same_events p h.0.own) i
        (λ f. is_stamp f ≡ true) j h.1.1 in
        (own_at p i e h.0, (h.1.0, l, h.1.2))
    stands p i e (never.Repeated q j) h =
        let r = received p i e h.0 in
        let first = received q j h.2 h.3 in
        (r.at, (r.receives, h.1, h.2, first.at, first.receives, first.from ∙ sym r.from, h.4))
    stands p i e (never.Mismatch q j) h =
        let r = received p i e h.0 in
        let stamp = sym (stamp_moved (own_streams piece) streams q (same_events q h.1)
        e.serial.this) ∙ h.3 in
        (r.at, (r.receives, h.1 ∙ sym r.from, h.2, stamp, h.4))
    stands p i e (never.Late j) h =
        let l = last_moved (own_streams piece) streams p (same_events p h.0.own) i
        (λ f. (is_stamp f ≡ false) × (e.serial.this ≤ f.serial.this)) j h.1.1 in
        (own_at p i e h.0, (h.1.0, l))
    stands p i e never.Unfounded h = elim h.1 [
      | inl own ↦ (
        own_at p i e own.0,
        (
          h.0,
          inl (after_moved (own_streams piece) streams p
              (same_events p own.0.own) i e own.1),
        ),
      )
      | inr told ↦
          let at = first_at p i e told.0 in
          let b = told.1 in
          let first = told_at b.pid b.index b.first b.tells in (
            at.0,
            (
              h.0,
              inr (
                tells p i e told.0,
                b.pid,
                b.index,
                b.first,
                first.0,
                first.1 ∙ sym at.1,
                b.lower,
                b.above,
              ),
            ),
          )
    ]
    stands p i e never.TooHigh h = (own_at p i e h.0, h.1)

  -- FROM THE STREAMS TO THE PIECE

  -- the facts about an event that its own process shows
  module _ (p : Pid) (i : ℕ) (e : Event) (at : event_at streams p i ≡ Some e) (own : p ≡ piece.pid)
    where
      here : IsOwnEvent piece p i e
      here = at_own p i e own at

      kept : events_of streams p ≡ events_of (own_streams piece) p
      kept = sym (same_events p own)

      pub in_own : (reason : Never) → IsOfOwn reason → IsAgainst top streams p i e reason
          → IsAgainstIn top piece p i e reason
      in_own never.PrevNotBefore kind h = (here, h)
      in_own (never.NotRising j) kind h = (
        here,
        (
          h.0,
          last_moved streams (own_streams piece) p kept i (λ f. is_stamp f ≡ true) j h.1,
          h.2,
        ),
      )
      in_own (never.Repeated q j) kind h = absurd kind
      in_own (never.Mismatch q j) kind h = absurd kind
      in_own (never.Late j) kind h = (
        here,
        (
          h.0,
          last_moved streams (own_streams piece) p kept i
              (λ f. (is_stamp f ≡ false) × (e.serial.this ≤ f.serial.this)) j h.1,
        ),
      )
      in_own never.Unfounded kind h = absurd kind
      in_own never.TooHigh kind h = (here, h)

      pub after_own : e.serial.prev ≡ 0 → IsAfterReceive streams p i e
          → IsAgainstIn top piece p i e never.Unfounded
      after_own zero after =
          (zero, inl (here, after_moved streams (own_streams piece) p kept i e after))

  -- the facts about a receive that the receives from its sender show
  module _ (p : Pid) (i : ℕ) (e : Event) (at : event_at streams p i ≡ Some e)
      (from : e.from ≡ piece.pid) where
    receipt : (q : Pid) (j : ℕ) (f : Event) → event_at streams q j ≡ Some f → is_stamp f ≡ false
        → f.from ≡ e.from → IsReceipt piece q j f
    receipt q j f there receives same = (is.receipts q j f).1 (record {
      at = there;
      receives = receives;
      from = same ∙ from;
    })

    stamps_kept : (q : Pid) → q ≡ e.from → stamp_of streams q e.serial.this
        ≡ stamp_of (own_streams piece) q e.serial.this
    stamps_kept q same = stamp_moved streams (own_streams piece) q
        (sym (same_events q (same ∙ from))) e.serial.this

    pub repeated_in : (q : Pid) (j : ℕ) → IsAgainst top streams p i e (never.Repeated q j)
        → IsAgainstIn top piece p i e (never.Repeated q j)
    repeated_in q j h =
        (receipt p i e at h.0 refl, h.1, h.2, receipt q j h.2 h.3 h.4 h.5, h.6)

    pub mismatch_in : (q : Pid) (j : ℕ) → IsAgainst top streams p i e (never.Mismatch q j)
        → IsAgainstIn top piece p i e (never.Mismatch q j)
    mismatch_in q j h =
        (receipt p i e at h.0 refl, h.1 ∙ from, h.2, sym (stamps_kept q h.1) ∙ h.3, h.4)

    module _ (from_own : (q : Pid) (j : ℕ) (f : Event) → event_at streams q j ≡ Some f
        → is_stamp f ≡ true → f.from ≡ q) where
      -- an event from the process is its send or print, or the receive of its message
      told_in : (q : Pid) (j : ℕ) (f : Event) → event_at streams q j ≡ Some f → f.from ≡ e.from
          → IsOwnStamp piece q j f ⊎ IsReceipt piece q j f
      told_in q j f there same = elim (is_stamp f) as (λ b. is_stamp f ≡ b
          → IsOwnStamp piece q j f ⊎ IsReceipt piece q j f) [
            | true ↦ λ stamps. inl (
              at_own q j f (sym (from_own q j f there stamps) ∙ (same ∙ from)) there,
              stamps,
            )
            | false ↦ λ receives. inr (receipt q j f there receives same)
          ] refl

      first_in : (is_stamp e || is_none (stamp_of streams e.from e.serial.this)) ≡ true
          → IsOwnStamp piece p i e ⊎ IsHiddenReceipt piece p i e
      first_in tells = elim (told_in p i e at refl) [
        | inl stamp ↦ inl stamp
        | inr taken ↦ inr (
          taken,
          subst (λ (q : Pid). stamp_of (own_streams piece) q e.serial.this ≡ None) from
              (sym (stamps_kept e.from refl) ∙ none_if (stamp_of streams e.from e.serial.this)
              (sym (ap (λ b. b || is_none (stamp_of streams e.from e.serial.this))
              (received p i e taken).receives) ∙ tells)),
        )
      ]

      pub after_in : e.serial.prev ≡ 0 → IsAfterStamp streams e
          → IsAgainstIn top piece p i e never.Unfounded
      after_in zero h = (
        zero,
        inr (
          first_in h.0,
          record {
            pid = h.1;
            index = h.2;
            first = h.3;
            tells = told_in h.1 h.2 h.3 h.4 h.5;
            lower = h.6;
            above = h.7;
          },
        ),
      )
