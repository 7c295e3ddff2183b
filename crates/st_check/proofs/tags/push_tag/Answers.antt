-- The receiver's list alone grows, by the number.
use Rattle.std.proofs.Common.{arith}
use Rattle.std.proofs.lemmas.Option.{slice_get_within}
use Rattle.st_check.proofs.TagLists.{push_missing, push_found}
use Rattle.st_core.specs.Run.{pids_of}
use Rattle.st_check.proofs.tags.push_tag.Goals as goal

pub returns-in_default : goal.returns-in_default
returns-in_default c =
    push_missing c.args.tags.now.lists (pids_of c.args.streams.now) c.args.to c.args.number
    c.in_default.ensures.missing

pub push_back-requires : goal.push_back-requires
push_back-requires c =
    let even = c.requires.even in
    let within = slice_get_within (pids_of c.args.streams.now) c.in-Some.list c.args.to
    c.in-Some.ensures.found in
    omega arith

pub returns : goal.returns
returns c =
    push_found c.args.tags.now.lists c.push_back.new.self.lists (pids_of c.args.streams.now)
    c.in-Some.list c.args.to
    c.args.number c.requires.rising c.in-Some.ensures.found c.in_ok-push_back.ensures.pushed
