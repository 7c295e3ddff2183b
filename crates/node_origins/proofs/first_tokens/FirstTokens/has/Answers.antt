-- The table has the least number for each token.
use Rattle.std.proofs.Common.{sym}
use Rattle.std.proofs.lemmas.Bool.{false≢true, le-leb, leb-true}
use Rattle.node_origins.proofs.TokenTables.{since_held, since_least, since_none}
use Rattle.node_origins.proofs.first_tokens.FirstTokens.has.Goals as goal

pub returns-in-Some : goal.returns-in-Some
returns-in-Some c = λ es are within.
    let t = c.args.self.now in
    let prev = c.args.stamp.serial.prev in
    let this = c.args.stamp.serial.this in
    let n = c.args.events in
    let m = c.in-Some.number in
    let is = sym c.in-Some.ensures in (
      λ yes. since_held es t are prev this n within m is (leb-true m n yes),
      λ there. le-leb m n (since_least es t are prev this n within m is there),
    )

pub returns-in-None : goal.returns-in-None
returns-in-None c = λ es are within. (
  λ yes. absurd (false≢true yes),
  λ there. absurd (since_none es c.args.self.now are c.args.stamp.serial.prev
      c.args.stamp.serial.this c.args.events within (sym c.in-None.ensures) there),
)
