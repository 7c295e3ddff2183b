-- A send or print is unfounded, or none so far is.
use Rattle.std.proofs.Common.{◌+◌, true, false, [], get_or, inl, inr, refl, sym, ◌∙◌, subst, arith}
use Rattle.std.proofs.lemmas.Bool.{false≢true}
use Rattle.std.proofs.lemmas.Option.{slice_get_within}
use Rattle.st_pair.proofs.ForCallers.{at_get_or, blank}
use Rattle.lack_pieces.specs.Lowest.{IsUnfoundedStamp}
use Rattle.lack_pieces.specs.Pieces.{Piece}
use Rattle.lack_pieces.proofs.Founding.{after_receive, founded_more, not_after_receive}
use Rattle.lack_pieces.proofs.Founding.{received_here, received_kept, IsReceived}
use Rattle.lack_pieces.proofs.Walks.{first_own}
use Rattle.lack_pieces.proofs.unfounded_events.find_unfounded_stamp.Goals as goal

pub returns-then-is_behind_stamp : goal.returns-then-is_behind_stamp
returns-then-is_behind_stamp c = λ receipts is.
    let es = c.args.events.now in
    let i = c.loop-i.i in
    let e = get_or es i blank in
    let piece : Piece = record { pid = c.args.pid; events = es; receipts = receipts } in
    let at = at_get_or es i blank c.loop-i-test.true in
    let stamps = sym c.is_stamp.ensures ∙ c.if-not-is_stamp.false in
    first_own (IsUnfoundedStamp piece) c.args.pid _ (record {
      event = e;
      own = (record { own = refl; at = at }, stamps);
      zero = c.if-event-eq0.true;
      why = elim c.if-received.branch [
        | goal.then-received w ↦ inl (after_receive piece i e at stamps
            (subst (IsReceived es i) w.if-received.true c.loop-i.invariant.received))
        | goal.else-received w ↦ inr ((w.is_behind_stamp.ensures piece is).0
            (sym w.value-is ∙ c.if-is_behind_stamp.true))
      ];
      is = refl;
    }) (λ other s. s.own.0.own) refl
    (λ other s less. c.loop-i.invariant.founded receipts is other s less)

pub loop-i-preserved : goal.loop-i-preserved
loop-i-preserved c =
    let es = c.args.events.now in
    let i = c.loop-i.i in
    let e = get_or es i blank in
    let at = at_get_or es i blank c.loop-i-test.true in
    record {
      founded = λ receipts is.
          let piece : Piece = record { pid = c.args.pid; events = es; receipts = receipts } in
          founded_more piece i e at (c.loop-i.invariant.founded receipts is)
          (λ stamps zero_prev why. elim c.if-not-is_stamp.branch [
            | goal.then-not-is_stamp w ↦ false≢true (sym w.if-not-is_stamp.true
                ∙ (c.is_stamp.ensures ∙ stamps))
            | goal.else-not-is_stamp+else-event-eq0 w ↦ elim w.else-event-eq0.branch [
              | goal.else-event-eq0-via-then-event-eq0+else-is_behind_stamp v ↦
                  elim v.if-received.branch [
                    | goal.then-received u ↦ false≢true (sym v.if-is_behind_stamp.false
                        ∙ (u.value-is ∙ u.if-received.true))
                    | goal.else-received u ↦ elim why [
                      | inl after ↦ not_after_receive piece i e at
                          (subst (IsReceived es i) u.if-received.false
                          c.loop-i.invariant.received) after
                      | inr behind ↦ false≢true (sym v.if-is_behind_stamp.false
                          ∙ (u.value-is ∙ (u.is_behind_stamp.ensures piece is).1 behind))
                    ]
                  ]
              | goal.else-event-eq0-via-else-event-eq0 v ↦ v.if-event-eq0.false zero_prev
            ]
          ]);
      received =
          let piece : Piece = record { pid = c.args.pid; events = es; receipts = [] } in
          elim c.if-not-is_stamp.branch [
            | goal.then-not-is_stamp w ↦ subst (IsReceived es (i + 1)) (sym w.received-is)
                (received_here piece i e at (sym c.is_stamp.ensures ∙ w.if-not-is_stamp.true))
            | goal.else-not-is_stamp+else-event-eq0 w ↦
                subst (IsReceived es (i + 1)) (sym w.received-is)
                (received_kept piece i e at c.loop-i.received
                (sym c.is_stamp.ensures ∙ w.if-not-is_stamp.false) c.loop-i.invariant.received)
          ];
    }

pub returns : goal.returns
returns c = λ receipts is other s.
    let within = slice_get_within c.args.events.now other.index s.event s.own.0.at in
    c.loop-i.invariant.founded receipts is other s (omega (arith, within))
