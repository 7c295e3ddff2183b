-- A send is the only one with its process and count, so that what is noted of it is the first
-- receive with them.
use Rattle.std.proofs.Common.{◌∙◌}
use Rattle.st_pair.specs.declared.receives.Key.{Key}
use Rattle.st_pair.proofs.BackLinks.{own_index}
use Rattle.st_pair.proofs.Matches.{linked_send}
use Rattle.st_pair.proofs.Stamps.{send_stamped}
use Rattle.st_pair.proofs.pairing.link_of.Goals as goal

pub first_of-requires-clause-index : goal.first_of-requires-clause-index
first_of-requires-clause-index c =
    own_index c.args.streams.now c.args.pid c.args.index c.args.event.now
    c.requires.got.counts c.requires.event (send_stamped c.args.event.now c.in-Send.is)

pub returns-in-None : goal.returns-in-None
returns-in-None c =
    let key : Key = record { from = c.args.pid; this = c.args.event.now.serial.this } in
    linked_send c.args.streams.now c.args.pid c.args.event.now _ c.in-Send.is
    (c.in-None.ensures ∙ c.requires.got.receives key)

pub returns-in-Some : goal.returns-in-Some
returns-in-Some c =
    let key : Key = record { from = c.args.pid; this = c.args.event.now.serial.this } in
    linked_send c.args.streams.now c.args.pid c.args.event.now _ c.in-Send.is
    (c.in-Some.ensures ∙ c.requires.got.receives key)
