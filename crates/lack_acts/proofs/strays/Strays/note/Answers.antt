-- The receiver is listed, and two events are noted to be taken out.
use Rattle.std.proofs.Common.{◌<◌, All, length, sym, subst, arith}
use Rattle.std.proofs.lemmas.List.Elements.{All-push}
use Rattle.std.proofs.lemmas.Option.{slice_get_within}
use Rattle.st_core.specs.Run.{pids_of}
use Rattle.lack_acts.specs.declared.strays.Stray.{Stray}
use Rattle.lack_acts.proofs.strays.Strays.note.Goals as goal

pub returns : goal.returns
returns c =
    let pids = pids_of c.args.streams.now in
    let listed = λ (stray : Stray). stray.to < length pids in
    let within = slice_get_within pids _ _ c.in-Some-place_of.ensures.found in
    let stray = c.in_ok-push.ensures.len in
    let one = c.in_ok-push-2.ensures.len in
    let two = c.in_ok-push-3.ensures.len in
    let was = c.requires.removals in
    record {
      listed = subst (All listed) (sym c.in_ok-push.ensures.items)
          (All-push listed c.args.self.now.strays.items _ c.requires.listed within);
      removals = omega (arith, stray, one, two, was);
    }
