-- Pieces whose entries are whole and whose pids are seated fit, and the run of their logs is
-- theirs: each seat is one that a log tells of, so its calls are its process's in the run.
use Rattle.std.proofs.Common.{◌≡◌, ℕ, List, [], ◌∷◌, map, refl, sym, ◌∙◌, ap, subst, inl, inr}
use Rattle.std.proofs.Common.{⊎_elim}
use Rattle.std.specs.Prelude.{filter}
use Rattle.st_core.specs.declared.types.Pid.{Pid}
use Rattle.st_core.specs.Pid.{pid_eq}
use Rattle.st_core.proofs.ForCallers.{pid_eq-same}
use Rattle.st_log.specs.declared.entry.Entry.{Entry}
use Rattle.st_runtime.specs.declared.join.record.Record.{Record}
use Rattle.st_runtime.specs.Joined.{IsOneRun, IsJoined}
use Rattle.st_runtime.specs.Joining.{IsLogged}
use Rattle.st_runtime.specs.Pcb.{Control}
use Rattle.st_runtime.specs.Pieces.{Parts, calls_of, seat_of, seats_told, IsSeated, IsFit}
use Rattle.st_runtime.specs.Seat.{Calls}
use Rattle.st_runtime.proofs.Members.{In, All-In, In-All, In-filter, In-to_filter}

In-map : {X Y : Type 0} (f : X → Y) (y : Y) (xs : List X) → In y (map f xs)
    → (x : X) × (In x xs × (y ≡ f x))
In-map f y [] i = absurd i
In-map f y (x ∷ xs) i =
    ⊎_elim (λ first. (x, (inl refl, first)))
    (λ later. let r = In-map f y xs later in (r.0, (inr r.1.0, r.1.1))) i

-- a seat's calls in the run, if its pid is seated
pub seat_calls : (top : ℕ) (pieces : Parts) (es : List Entry) (s : Calls)
    → IsOneRun top pieces.processes es
    → ((p : Pid) → IsSeated pieces p) → In s pieces.seats → calls_of s.pid es ≡ s.mine
seat_calls top pieces es s run seated i =
    let xs = pieces.processes in
    let here = In-to_filter (λ (t : Calls). pid_eq t.pid s.pid) s pieces.seats i
    (pid_eq-same s.pid) in
    let told : In s (seats_told xs s.pid) = subst (In s) (seated s.pid) here in
    let from = In-map seat_of s (filter (λ (x : Control). pid_eq x.process.pid s.pid) xs) told in
    let x = from.0 in
    let is : s ≡ seat_of x = from.1.1 in
    let among = (In-filter (λ (y : Control). pid_eq y.process.pid s.pid) x xs from.1.0).0 in
    ap (λ (t : Calls). calls_of t.pid es) is
    ∙ All-In (λ (y : Control). calls_of y.process.pid es ≡ calls_of y.process.pid y.log) xs x
    run.calls among
    ∙ ap (λ (t : Calls). t.mine) (sym is)

pub joined : (top : ℕ) (pieces : Parts) (r : Record) → IsFit pieces
    → IsLogged top pieces.processes r
    → IsJoined top pieces r
joined top pieces r fit logged = record {
  fit = fit;
  entries = logged.entries;
  merged = logged.merged;
  run = logged.run;
  streams = logged.streams;
  acts = logged.acts;
  replies = logged.replies;
  seats = In-All (λ (s : Calls). calls_of s.pid logged.entries ≡ s.mine) pieces.seats
      (λ s i. seat_calls top pieces logged.entries s logged.run fit.seated i);
}
