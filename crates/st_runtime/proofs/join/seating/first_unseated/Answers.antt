-- A pid without a log and without a seat is seated, so only the pids of these are asked.
use Rattle.st_runtime.proofs.Seated.{first_of_both}
use Rattle.st_runtime.proofs.join.seating.first_unseated.Goals as goal

pub returns : goal.returns
returns g c =
    first_of_both (record { processes = c.args.processes.now; seats = c.args.seats.now })
    c.least_of_seats.result
    c.least_of_seats.ensures.logs c.least_of_seats.ensures.seats
