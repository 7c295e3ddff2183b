-- Each call's bytes go after those before, and at the source's end the feed's result is that of
-- all the bytes.
use Rattle.std.proofs.Common.{◌≡◌, ◌<◌, ◌≤◌, ◌+◌, ◌∙◌, [], ◌++◌, List, ℕ, Some, None, take, drop}
use Rattle.std.proofs.Common.{length, refl, sym, subst, arith}
use Rattle.std.proofs.lemmas.List.{length-append, length-take, length-drop, take-append-le}
use Rattle.st_core.specs.Device.{NoCall, OneMore}
use Rattle.st_text.specs.declared.fault.ReadFault.TheVariants as faults
use Rattle.st_text.specs.declared.limits.Limits.{Limits}
use Rattle.st_text.specs.Answer.{IsReadResultOrMemory, IsReadResult}
use Rattle.st_text.specs.Growth.{Grows}
use Rattle.st_text.specs.Fed.{WasFed, fed_refusal}
use Rattle.st_text.proofs.Puts.{put_none}
use Rattle.st_text.proofs.TextFaults.{reads_end}
use Rattle.st_text.proofs.ReaderSteps.{growth_after, growth_at_end, never_fresh}
use Rattle.st_text.proofs.reader.read_within.Goals as goal

pub loop-feed-init : goal.loop-feed-init
loop-feed-init g c =
    record {
      bytes = [];
      given = NoCall _;
      fed = c.within-feed.ensures.fed;
      counted = omega arith;
      limits_are = c.within-feed.ensures.limits;
      size = refl;
      mark = refl;
      memory = λ ran. absurd (never_fresh _ faults.Memory c.within-feed.ensures.fresh ran);
    }

pub loop-feed-preserved : goal.loop-feed-preserved
loop-feed-preserved g c =
    let i = c.loop-feed.invariant in
    let gives = g.S.ByteSource.gives in
    let piece = c.take.new.piece in
    let given : List ℕ = take c.in-Ok.n piece in
    let within : c.in-Ok.n ≤ length piece = c.in-Ok.ensures.bound in
    let asked = length-take c.min-room.result c.loop-feed.buffer in
    let left = length-drop c.min-room.result c.loop-feed.buffer in
    let room : length piece ≤ c.min-room.result = omega (arith, c.take.auto.piece, asked) in
    let len : length (i.bytes ++ given) ≡ length i.bytes + c.in-Ok.n =
    omega (arith, length-append i.bytes given, length-take c.in-Ok.n piece, within) in
    let back = drop c.min-room.result c.loop-feed.buffer in
    let same : take c.in-Ok.n (piece ++ back) ≡ given =
    take-append-le c.in-Ok.n piece back within in
    let feed = c.piece-answer.new.self in
    let memory : (fed_refusal c.loop-feed.feed ≡ None) → fed_refusal feed ≡ Some faults.Memory
    → Grows c.args.limits i.bytes given =
    λ fresh ran. subst (λ (l : Limits). Grows l i.bytes given) i.limits_are
    (subst (λ (x : List ℕ). Grows c.loop-feed.feed.limits i.bytes x) same
    (c.piece-answer.ensures.memory i.bytes i.fed fresh ran)) in
    record {
      bytes = i.bytes ++ given;
      given = OneMore _ _ _ i.bytes given i.given c.in-Ok.ensures.given;
      fed = subst (λ (x : List ℕ). WasFed (i.bytes ++ x) feed) same
          (c.piece-answer.ensures.fed i.bytes i.fed);
      counted = omega (arith, len, i.counted);
      limits_are = c.piece-answer.ensures.limits ∙ i.limits_are;
      size = omega (
        arith,
        length-append piece back,
        left,
        c.take.auto.piece,
        asked,
        c.min-room.ensures,
        i.size,
      );
      mark = c.in-Ok.ensures.mark.1 ∙ sym c.in-Ok.ensures.mark.0 ∙ i.mark;
      memory =
          growth_after c.args.limits gives _ _ _ i.bytes given (fed_refusal c.loop-feed.feed)
          (fed_refusal feed)
          i.given
          c.in-Ok.ensures.given i.memory
          memory c.piece-answer.ensures.again;
    }

pub returns-in-Err : goal.returns-in-Err
returns-in-Err g c =
    let i = c.loop-feed.invariant in
    record {
      bytes = i.bytes;
      given = put_none g.S.ByteSource.gives i.given c.in-Err.ensures.given;
      answer = record { mark = c.in-Err.ensures.mark; small = omega (arith, i.counted) };
      memory = λ e. absurd cc;
    }

pub returns-in-Ok-eq0 : goal.returns-in-Ok-eq0
returns-in-Ok-eq0 g c =
    let i = c.loop-feed.invariant in
    let e = c.in-Ok-eq0.ensures in
    let gives = g.S.ByteSource.gives in
    let failed = g.S.ByteSource.failed in
    let piece = c.take.new.piece in
    let asked = length-take c.min-room.result c.loop-feed.buffer in
    let room : 0 < length piece =
    omega (arith, c.take.auto.piece, c.min-room.ensures, asked, i.size) in
    let zero = c.in-Ok-eq0.field-0-test in
    let none = subst (λ (k : ℕ). gives c.loop-feed.source (take k piece) c.take.new.self) zero
    e.given in
    let small : length i.bytes ≤ c.args.limits.bytes = omega (arith, i.counted) in
    record {
      bytes = i.bytes;
      given = put_none gives i.given none;
      answer = reads_end c.args.limits g.S.ByteSource.ended failed i.bytes _ _ c.end.result small
          (record {
            end = e.end zero room;
            small = small;
            before = sym i.mark ∙ e.mark.0;
            after = e.mark.1;
            answer =
                subst (λ (l : Limits). IsReadResultOrMemory l i.bytes c.end.result) i.limits_are
                (c.end.ensures.answers i.bytes i.fed);
          });
      memory = growth_at_end c.args.limits gives _ i.bytes (fed_refusal c.loop-feed.feed)
          c.end.result small i.memory
          (λ fresh. subst (λ (l : Limits). IsReadResult l i.bytes c.end.result) i.limits_are
          (c.end.ensures.exact i.bytes i.fed fresh)) c.end.ensures.again;
    }

pub returns-then-n-left : goal.returns-then-n-left
returns-then-n-left g c =
    let i = c.loop-feed.invariant in
    let given : List ℕ = take c.in-Ok.n c.take.new.piece in
    let within : c.in-Ok.n ≤ length c.take.new.piece = c.in-Ok.ensures.bound in
    let asked = length-take c.min-room.result c.loop-feed.buffer in
    let room : length c.take.new.piece ≤ c.min-room.result =
    omega (arith, c.take.auto.piece, asked) in
    record {
      bytes = i.bytes ++ given;
      given = OneMore _ _ _ i.bytes given i.given c.in-Ok.ensures.given;
      answer = record {
        count =
            omega (
              arith,
              length-append i.bytes given,
              length-take c.in-Ok.n c.take.new.piece,
              i.counted,
              within,
              room,
              c.min-room.ensures,
            );
        before = sym i.mark ∙ c.in-Ok.ensures.mark.0;
        after = c.in-Ok.ensures.mark.1;
      };
      memory = λ e. absurd cc;
    }
