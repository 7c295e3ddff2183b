-- Each receive joins the table, unless an earlier one has its key; a send or print gives the table
-- nothing.
use Rattle.std.proofs.Common.{◌≡◌, ◌+◌, ◌∙◌, ap, arith, drop, get_or, length, Some, sym, true}
use Rattle.st_pair.specs.Pairing.{repeated}
use Rattle.st_pair.specs.Places.{first_from, is_stamp, or_else}
use Rattle.st_pair.specs.declared.receives.Key.{Key}
use Rattle.st_pair.specs.declared.receives.Receives.{Receives}
use Rattle.st_pair.specs.Tables.{here, key_in, link_back, place_for, receive_rule, sent_in}
use Rattle.st_pair.specs.Tables.{stamp_index}
use Rattle.std.proofs.lemmas.Grind.{common_steps}
use Rattle.std.proofs.lemmas.Option.{slice_get-get_or}
use Rattle.st_pair.proofs.Firsts.{first_from-end, first_from-given, first_from-passed}
use Rattle.st_pair.proofs.BackLinks.{sent_back}
use Rattle.st_pair.proofs.StreamTables.{read_made}
use Rattle.st_pair.proofs.Received.{first_fault, noted_more, own_place, repeated_at}
use Rattle.st_pair.proofs.Received.{stamp_unrepeated, unnoted_passed}
use Rattle.st_pair.proofs.Stamps.{blank, receive_unstamped}
use Rattle.st_pair.proofs.receives.note_receives.Goals.{in-Send}
use Rattle.st_pair.proofs.receives.note_receives.Goals.{in-Receive+in-Ok+in_default-repetition_at}
use Rattle.st_pair.proofs.receives.note_receives.Goals as goal

pub note-requires-clause-sent : goal.note-requires-clause-sent
note-requires-clause-sent c =
    let streams = c.args.streams.now in
    let es = c.args.events.now in
    let i = c.loop-i.i in
    let e = get_or es i blank in
    let at = slice_get-get_or es i blank c.loop-i-test.true in
    let link = read_made (link_back streams) es i e _ c.args.links.now c.requires.links at in
    ap (stamp_index streams) c.of-key.ensures ∙ sym (sent_back streams e c.in-Receive.is)
    ∙ sym (c.sent.ensures ∙ ap sent_in link)

pub returns-in-Some-clause-fault : goal.returns-in-Some-clause-fault
returns-in-Some-clause-fault c = λ rest all.
    let streams = c.args.streams.now in
    let es = c.args.events.now in
    let i = c.loop-i.i in
    let e = get_or es i blank in
    let at = slice_get-get_or es i blank c.loop-i-test.true in
    let receives = receive_unstamped e c.in-Receive.is in
    let first = c.in-Ok.ensures.first
    ∙ ap (λ k. or_else (place_for streams c.loop-i.receives k) (Some (c.args.pid, i)))
    c.of-key.ensures in
    let given = repeated_at (place_for streams c.args.receives.now)
    (place_for streams c.loop-i.receives) c.args.pid i es
    e at receives c.loop-i.invariant.noted streams rest c.in-Ok.first all first in
    first_fault _ c.in-Some.fault
    (first_from-given (repeated streams) c.args.pid i es e c.in-Some.fault at
    (given ∙ sym c.in-Some.ensures) (c.loop-i.invariant.once rest all))

pub loop-i-preserved : goal.loop-i-preserved
loop-i-preserved c =
    let streams = c.args.streams.now in
    let es = c.args.events.now in
    let i = c.loop-i.i in
    let p = c.args.pid in
    let e = get_or es i blank in
    let at = slice_get-get_or es i blank c.loop-i-test.true in
    elim c.match-event.branch [
      | in-Send w ↦
          let stamps : is_stamp e ≡ true = grind (arith, common_steps, w.in-Send.is) in
          record {
            noted = λ k. ap (λ (r : Receives). or_else (place_for streams r k)
                (first_from (receive_rule k) p (i + 1) (drop (i + 1) es))) w.receives-is
                ∙ sym (ap (or_else (place_for streams c.loop-i.receives k))
                (unnoted_passed k p i es e at stamps))
                ∙ c.loop-i.invariant.noted k;
            once = λ rest all. first_from-passed (repeated streams) p i es e at
                (stamp_unrepeated streams p i e stamps) (c.loop-i.invariant.once rest all);
          }
      | in-Receive+in-Ok+in_default-repetition_at w ↦
          let receives = receive_unstamped e w.in-Receive.is in
          let accepted = sym w.repetition_at.ensures ∙ w.in_default-repetition_at.is in
          let own = own_place w.in-Ok.first p i accepted in
          let first = w.in-Ok.ensures.first
          ∙ ap (λ k. or_else (place_for streams c.loop-i.receives k) (Some (p, i)))
          w.of-key.ensures in
          let added : (k : Key) → place_for streams c.match-event.receives k
          ≡ or_else (place_for streams c.loop-i.receives k) (here (key_in e) (p, i) k) =
          λ k. ap (λ (r : Receives). place_for streams r k) w.receives-is
          ∙ w.in-Ok.ensures.noted own k
          ∙ ap (λ l. or_else (place_for streams c.loop-i.receives k) (here l (p, i) k))
          w.of-key.ensures in
          record {
            noted = noted_more (place_for streams c.args.receives.now)
                (place_for streams c.loop-i.receives) p i es e at
                receives c.loop-i.invariant.noted (place_for streams c.match-event.receives) added;
            once = λ rest all. first_from-passed (repeated streams) p i es e at
                (repeated_at (place_for streams c.args.receives.now)
                (place_for streams c.loop-i.receives) p i es e at
                receives c.loop-i.invariant.noted streams rest w.in-Ok.first all first ∙ accepted)
                (c.loop-i.invariant.once rest all);
          }
    ]

pub returns-clause-once : goal.returns-clause-once
returns-clause-once c = λ rest all.
    let streams = c.args.streams.now in
    let len : length c.args.events.now ≡ c.loop-i.i =
    omega (arith, c.loop-i-test.false, c.loop-i.auto.i-end) in
    c.loop-i.invariant.once rest all ∙ first_from-end (repeated streams) c.args.pid c.loop-i.i
    c.loop-i.i _ len
