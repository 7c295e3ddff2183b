-- The line is judged after the good lines before it.
use Rattle.st_text.proofs.CutterSteps.{line_goes, line_stops, line_halts, not_out}
use Rattle.st_text.proofs.cutter.Cutter.pass_line.Goals as goal

pub returns-in-Goes : goal.returns-in-Goes
returns-in-Goes c = λ bytes rest long kept plain says h.
    let s = c.args.self.now in
    record {
      holds =
          line_goes c.args.limits s.out s.fault bytes rest long s.long kept s.tail.items s.builder
          c.pass_on.new.builder
          c.args.said.now
          c.requires.going c.requires.good c.requires.short plain c.requires.empty says
          c.in-Goes.ensures h;
      growth = not_out s.out c.requires.going;
    }

pub returns-in-Stops : goal.returns-in-Stops
returns-in-Stops c = λ bytes rest long kept plain says h.
    let s = c.args.self.now in
    record {
      holds =
          line_stops c.args.limits s.out s.fault bytes rest long s.long kept s.tail.items s.builder
          c.pass_on.new.builder
          c.args.said.now
          c.in-Stops.fault c.requires.going c.requires.good plain says c.in-Stops.ensures h;
      growth = not_out s.out c.requires.going;
    }

pub returns-in-Halts : goal.returns-in-Halts
returns-in-Halts c = λ bytes rest long kept plain says h.
    let s = c.args.self.now in
    record {
      holds = tt;
      growth = λ _. line_halts c.args.limits s.out s.fault bytes rest long kept s.builder
          c.pass_on.new.builder
          c.args.said.now
          c.requires.going c.requires.good plain says c.in-Halts.ensures h;
    }
