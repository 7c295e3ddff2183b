-- Each call of the sink puts the front of what is left, so that the calls put all of it in a row.
use Rattle.std.proofs.Common.{◌∙◌, [], refl, sym, arith}
use Rattle.st_core.specs.Device.{NoCall}
use Rattle.st_text.proofs.Puts.{put_more, put_none}
use Rattle.st_text.proofs.sink.put_all.Goals as goal

pub loop-rest-init : goal.loop-rest-init
loop-rest-init g c =
    record {
      done = [];
      parts = refl;
      put = NoCall _;
      mark = refl;
      alive =
          λ some. absurd (omega arith);
    }

pub loop-rest-preserved : goal.loop-rest-preserved
loop-rest-preserved g c =
    let i = c.loop-rest.invariant in
    let rest = c.loop-rest.rest.now in
    let wrote = c.in-Ok.ensures.wrote in
    let m = put_more g.S.ByteSink.puts rest c.in-Ok.n i.parts i.put wrote in
    rw c.split_at.ensures.back (record {
      done = _;
      parts = m.0;
      put = m.1;
      mark = c.in-Ok.ensures.mark.1 ∙ sym c.in-Ok.ensures.mark.0 ∙ i.mark;
      alive = λ _. sym i.mark ∙ c.in-Ok.ensures.mark.0;
    })

pub returns-in-Err : goal.returns-in-Err
returns-in-Err g c =
    let i = c.loop-rest.invariant in
    record {
      written = i.done;
      rest = c.loop-rest.rest.now;
      prefix = i.parts;
      put = put_none g.S.ByteSink.puts i.put c.in-Err.ensures.wrote;
      after = c.in-Err.ensures.mark;
    }
