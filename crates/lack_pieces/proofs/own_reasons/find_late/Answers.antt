-- Either the next send or print has no greater count than a receive before it, or none so far is
-- late.
use Rattle.std.proofs.Common.{◌≡◌, ◌≤◌, ◌<◌, ◌+◌, ℕ, true, false, get_or, slice_get, Some, refl}
use Rattle.std.proofs.Common.{sym, ◌∙◌, subst, arith}
use Rattle.std.proofs.lemmas.Bool.{false≢true}
use Rattle.std.proofs.lemmas.Option.{slice_get_within}
use Rattle.st_core.specs.declared.types.Event.{Event}
use Rattle.st_pair.specs.Places.{is_stamp}
use Rattle.st_pair.proofs.ForCallers.{at_get_or, blank}
use Rattle.lack_pieces.specs.Firsts.{HoldsOfRank}
use Rattle.lack_pieces.specs.Pieces.{Piece}
use Rattle.lack_pieces.proofs.Walks.{first_own, late, late_at, none_late, rise_more}
use Rattle.lack_needs.proofs.ForCallers.{more_passed}
use Rattle.lack_pieces.proofs.own_reasons.find_late.Goals as goal

pub returns-in-Some : goal.returns-in-Some
returns-in-Some c = λ top receipts.
    let es = c.args.events.now in
    let i = c.loop-i.i in
    let e = get_or es i blank in
    let piece : Piece = record { pid = c.args.pid; events = es; receipts = receipts } in
    first_own (HoldsOfRank top piece 4) c.args.pid _ (record {
      event = e;
      holds = late_at top piece i e c.in-Some.index (at_get_or es i blank c.loop-i-test.true)
          (sym c.is_stamp.ensures ∙ c.if-not-is_stamp.false) c.in-Some.ensures;
      of_rank = refl;
    }) (λ other h. (late top piece other h).1.0.own) refl
    (none_late top piece i c.loop-i.invariant.rise)

pub loop-i-preserved : goal.loop-i-preserved
loop-i-preserved c =
    let es = c.args.events.now in
    let i = c.loop-i.i in
    let e = get_or es i blank in
    let at = at_get_or es i blank c.loop-i-test.true in
    let IsHigh : ℕ → Type 0 = λ high. (k : ℕ) (f : Event) → k < i + 1 → slice_get es k ≡ Some f
    → is_stamp f ≡ false → f.serial.this ≤ high in
    let kept : is_stamp e ≡ true → IsHigh c.loop-i.highest = λ stamps.
    more_passed (λ _ (f : Event). is_stamp f ≡ false → f.serial.this ≤ c.loop-i.highest) es i e
    at c.loop-i.invariant.high (λ receives. absurd (false≢true (sym receives ∙ stamps))) in
    record {
      rise = rise_more false es i e at c.loop-i.invariant.rise (λ stamps j f less there receives.
          elim c.if-not-is_stamp.branch [
            | goal.then-not-is_stamp w ↦ absurd (false≢true (sym w.if-not-is_stamp.true
                ∙ (c.is_stamp.ensures ∙ stamps)))
            | goal.else-not-is_stamp+then-count-highest+in_default w ↦
                w.in_default.ensures j f less there receives
            | goal.else-not-is_stamp+else-count-highest w ↦
                let low = c.loop-i.invariant.high j f less there receives in
                let high = w.if-count-highest.false in
                omega (arith, low, high)
          ]);
      high = elim c.if-not-is_stamp.branch [
        | goal.then-not-is_stamp w ↦
            let greatest = w.max-highest.ensures in
            subst IsHigh (sym w.highest-is)
            (more_passed (λ _ (f : Event). is_stamp f ≡ false
            → f.serial.this ≤ w.max-highest.result) es i e at
            (λ k f less there receives.
            omega (arith, c.loop-i.invariant.high k f less there receives, greatest))
            (λ receives. omega (arith, greatest)))
        | goal.else-not-is_stamp+then-count-highest+in_default w ↦ subst IsHigh (sym w.highest-is)
            (kept (sym c.is_stamp.ensures ∙ w.if-not-is_stamp.false))
        | goal.else-not-is_stamp+else-count-highest w ↦ subst IsHigh (sym w.highest-is)
            (kept (sym c.is_stamp.ensures ∙ w.if-not-is_stamp.false))
      ];
    }

pub returns : goal.returns
returns c = λ top receipts other h.
    let es = c.args.events.now in
    let piece : Piece = record { pid = c.args.pid; events = es; receipts = receipts } in
    let within = slice_get_within es other.index h.event (late top piece other h).1.0.at in
    none_late top piece c.loop-i.i c.loop-i.invariant.rise other h (omega (arith, within))
