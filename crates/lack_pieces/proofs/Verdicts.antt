-- Each reason of the streams is in a piece, whose verdict is that reason or an earlier one: so the
-- first of all pieces' reasons is the first of the streams.
use Rattle.std.proofs.Common.{◌≡◌, ◌↔◌, ℕ, zero, suc, true, List, [], ◌∷◌, Option}
use Rattle.std.proofs.Common.{Some, None, length, inl, inr, slice_get, refl, sym, ◌∙◌, arith}
use Rattle.std.specs.Option.{option_map_or}
use Rattle.std.proofs.lemmas.Bool.{cases_lt}
use Rattle.st_core.specs.declared.types.Kind.TheVariants as kind
use Rattle.st_core.specs.declared.types.Pid.{Pid}
use Rattle.st_core.specs.declared.types.Event.{Event}
use Rattle.st_core.specs.Run.{Stream}
use Rattle.st_core.specs.Streams.{lists, IsStreams}
use Rattle.st_core.proofs.ForCallers.{both_of, lists_among}
use Rattle.st_pair.specs.Places.{event_at, is_stamp}
use Rattle.st_pair.proofs.ForCallers.{listed_if}
use Rattle.st_plan.proofs.ForCallers.{named}
use Rattle.lack_laws.proofs.ForCallers.{own_at, stamper}
use Rattle.lack_decide.specs.declared.answer.Never.{Never}
use Rattle.lack_decide.specs.declared.answer.Never.TheVariants as never
use Rattle.lack_decide.specs.Answers.{reason_rank, IsAgainst}
use Rattle.lack_pieces.specs.declared.placed_reason.PlacedReason.{PlacedReason}
use Rattle.lack_pieces.specs.Pieces.{ArePieces, HasPiece, Piece}
use Rattle.lack_pieces.specs.Reasons.{IsAgainstIn, IsAgainstInSome}
use Rattle.lack_pieces.specs.Verdicts.{AreVerdicts, ComesBefore, IsVerdictAmong, IsFirstAmong}
use Rattle.lack_pieces.specs.Verdicts.{IsVerdictIn, IsVerdictOn}
use Rattle.lack_pieces.proofs.Order.{not_before}
use Rattle.lack_pieces.proofs.Readings.{after_in, after_own, in_own, mismatch_in, repeated_in}
use Rattle.lack_pieces.proofs.Readings.{stands}

at_both : {A B : Type 0} (xs : List A) (ys : List B) (k : ℕ) (x : A) → length ys ≡ length xs
    → slice_get xs k ≡ Some x → (y : B) × (slice_get ys k ≡ Some y)
at_both [] ys k x even at = absurd (cc)
at_both (x ∷ xs) [] k z even at = absurd (omega arith)
at_both (x ∷ xs) (y ∷ ys) zero z even at = (y, refl)
at_both (x ∷ xs) (y ∷ ys) (suc k) z even at = at_both xs ys k z (omega arith) at

module _ (top : ℕ) (streams : List Stream) (pieces : List Piece) (sound : IsStreams streams)
    (are : ArePieces streams pieces) where
  from_own : (p : Pid) (i : ℕ) (e : Event) → event_at streams p i ≡ Some e → is_stamp e ≡ true
      → e.from ≡ p
  from_own p i e at stamps = stamper e.kind e.from e.to p stamps
      (own_at streams p i e sound.draft.own at)

  -- EACH REASON IS IN A PIECE

  module _ (p : Pid) (i : ℕ) (e : Event) (at : event_at streams p i ≡ Some e) where
    its_own : HasPiece pieces p
    its_own = are.all p (lists_among streams p ∙ listed_if streams p i e at)

    its_sender : HasPiece pieces e.from
    its_sender = are.all e.from (both_of (lists streams e.from)
        (option_map_or (lists streams) e.to true) (named streams sound p i e at)).0

    in_piece : (q : Pid) (has : HasPiece pieces q) (reason : Never)
        → IsAgainstIn top has.piece p i e reason → IsAgainstInSome top pieces p i e reason
    in_piece q has reason against = record {
      place = has.place;
      piece = has.piece;
      at = has.at;
      against = against;
    }

    own_piece : (reason : Never)
        → IsAgainstIn top its_own.piece p i e reason → IsAgainstInSome top pieces p i e reason
    own_piece = in_piece p its_own

    pub against_some : (reason : Never) → IsAgainst top streams p i e reason
        → IsAgainstInSome top pieces p i e reason
    against_some (never.Repeated q j) h = let x = its_sender in
        in_piece e.from x (never.Repeated q j)
        (repeated_in top streams x.piece (are.each x.place x.piece x.at) p i e at (sym x.of) q j h)
    against_some (never.Mismatch q j) h = let x = its_sender in
        in_piece e.from x (never.Mismatch q j)
        (mismatch_in top streams x.piece (are.each x.place x.piece x.at) p i e at (sym x.of) q j h)
    against_some never.Unfounded h = elim h.1 [
      | inl after ↦ let x = its_own in
          own_piece never.Unfounded (after_own top streams x.piece
          (are.each x.place x.piece x.at) p i e at (sym x.of) h.0 after)
      | inr after ↦ let x = its_sender in
          in_piece e.from x never.Unfounded (after_in top streams x.piece
          (are.each x.place x.piece x.at) p i e at (sym x.of) from_own h.0 after)
    ]
    against_some never.PrevNotBefore h = let x = its_own in
        own_piece never.PrevNotBefore (in_own top streams x.piece
        (are.each x.place x.piece x.at) p i e at (sym x.of) never.PrevNotBefore tt h)
    against_some (never.NotRising j) h = let x = its_own in
        own_piece (never.NotRising j) (in_own top streams x.piece
        (are.each x.place x.piece x.at) p i e at (sym x.of) (never.NotRising j) tt h)
    against_some (never.Late j) h = let x = its_own in
        own_piece (never.Late j) (in_own top streams x.piece
        (are.each x.place x.piece x.at) p i e at (sym x.of) (never.Late j) tt h)
    against_some never.TooHigh h = let x = its_own in
        own_piece never.TooHigh (in_own top streams x.piece
        (are.each x.place x.piece x.at) p i e at (sym x.of) never.TooHigh tt h)

  stands_in : (p : Pid) (i : ℕ) (e : Event) (reason : Never)
      → IsAgainstInSome top pieces p i e reason
      → (event_at streams p i ≡ Some e) × IsAgainst top streams p i e reason
  stands_in p i e reason some = stands top streams some.piece
      (are.each some.place some.piece some.at) from_own p i e reason some.against

  pub law : (p : Pid) (i : ℕ) (e : Event) (reason : Never)
      → (((event_at streams p i ≡ Some e) × IsAgainst top streams p i e reason)
      ↔ IsAgainstInSome top pieces p i e reason)
  law p i e reason = (
    λ h. against_some p i e h.0 reason h.1,
    λ some. stands_in p i e reason some,
  )

  -- THE FIRST OF ALL

  module _ (verdicts : List (Option PlacedReason)) (judged : AreVerdicts top pieces verdicts) where
    -- the verdict on a reason's piece names the reason, or one that it doesn't come before
    record IsNamed (other : PlacedReason) : Type 0 where
      found : PlacedReason
      among : IsVerdictAmong verdicts found
      first : ¬ ComesBefore other found

    named_by : (other : PlacedReason) (e : Event)
        → IsAgainstInSome top pieces other.pid other.index e other.never → IsNamed other
    named_by other e some =
        let v = at_both pieces verdicts some.place some.piece judged.even some.at in
        elim v.0 as (λ o. slice_get verdicts some.place ≡ Some o
        → IsVerdictIn top some.piece o → IsNamed other) [
          | None ↦ λ at none. absurd (none other e some.against)
          | Some found ↦ λ at is. record {
            found = found;
            among = record { place = some.place; at = at };
            first = is.first other e some.against;
          }
        ] v.1 (judged.each some.place some.piece v.0 some.at v.1)

    -- a reason that a verdict names is one of the streams
    record StandsAt (found : PlacedReason) : Type 0 where
      event : Event
      at : event_at streams found.pid found.index ≡ Some event
      against : IsAgainst top streams found.pid found.index event found.never

    stands_at : (found : PlacedReason) → IsVerdictAmong verdicts found → StandsAt found
    stands_at found among =
        let piece = at_both verdicts pieces among.place (Some found) (sym judged.even) among.at in
        let is = judged.each among.place piece.0 (Some found) piece.1 among.at in
        let h = stands_in found.pid found.index is.event found.never (record {
          place = among.place;
          piece = piece.0;
          at = piece.1;
          against = is.holds;
        }) in
        record { event = is.event; at = h.0; against = h.1 }

    -- no reason of the streams comes before the first of the verdicts
    none_before : (found : PlacedReason) → IsFirstAmong verdicts (Some found)
        → (other : PlacedReason)
        (e : Event) → event_at streams other.pid other.index ≡ Some e
        → IsAgainst top streams other.pid other.index e other.never → ¬ ComesBefore other found
    none_before found first other e at against =
        let named = named_by other e
        (against_some other.pid other.index e at other.never against) in
        not_before other named.found found named.first (first.1 named.found named.among)

    pub verdict : (first : Option PlacedReason) → IsFirstAmong verdicts first
        → IsVerdictOn top streams first
    verdict None none = λ p i e reason at against.
        let other : PlacedReason = record { pid = p; index = i; never = reason } in
        let named = named_by other e (against_some p i e at reason against) in
        none named.found named.among
    verdict (Some found) first =
        let here = stands_at found first.0 in
        record {
          event = here.event;
          at = here.at;
          holds = here.against;
          first = λ other q j f at against. elim (cases_lt (reason_rank other)
              (reason_rank found.never)) [
                | inl less ↦ absurd (none_before found first
                    (record { pid = q; index = j; never = other }) f at against (inl less))
                | inr least ↦ omega (arith, least)
              ];
          least = λ other q j f at against same earlier. none_before found first
              (record { pid = q; index = j; never = other }) f at against
              (inr (sym same, earlier));
        }
