-- The rows that are found are those of the definition: the rows of a process come after those of
-- the processes before it.
use Rattle.std.proofs.Common.{◌≡◌, ℕ, ◌+◌, suc, ◌<◌, List, [], ◌++◌, length, drop}
use Rattle.std.proofs.Common.{get_or, sym, ◌∙◌, ap, arith}
use Rattle.std.proofs.lemmas.List.{append_assoc}
use Rattle.st_core.specs.declared.types.Pid.{Pid}
use Rattle.st_core.specs.declared.types.Event.{Event}
use Rattle.st_core.specs.Pid.{IsRising}
use Rattle.st_core.specs.Run.{Stream, pids_of}
use Rattle.st_core.specs.Streams.{events_of}
use Rattle.st_pair.proofs.ForCallers.{drop_next, stream_here}
use Rattle.st_pair.specs.declared.filter.Filter.{Filter}
use Rattle.st_pair.specs.declared.rows.Row.{Row}
use Rattle.st_pair.specs.Rows.{listed_at, listed_from}

-- the rows of the next process, whose line is n, and whose first event is on line n + 1
pub process_listed : (f : Filter) (all now more : List Row) (streams : List Stream)
    (pids : List Pid)
    (k n first next : ℕ) (d : Pid) (es : List Event) → IsRising (pids_of streams)
    → pids ≡ pids_of streams
    → k < length pids → es ≡ events_of streams (get_or pids k d)
    → first ≡ n + 1 → next ≡ first + length es
    → more ≡ now ++ listed_at f (get_or pids k d) 0 first es
    → now ++ listed_from f n (drop k streams) ≡ all
    → more ++ listed_from f next (drop (k + 1) streams) ≡ all
process_listed f all now more streams pids k n first next d es rising are within is line end listed
    so_far =
    let at = stream_here streams pids k d es rising are within is in
    let on : suc k ≡ k + 1 = omega arith in
    let here = λ (m : ℕ). listed_at f (get_or pids k d) 0 m es in
    let rest = λ (m j : ℕ). listed_from f (m + length es) (drop j streams) in
    ap (λ rows. rows ++ listed_from f next (drop (k + 1) streams)) listed
    ∙ ap (λ m. (now ++ here first) ++ listed_from f m (drop (k + 1) streams)) end
    ∙ append_assoc now (here first) (rest first (k + 1))
    ∙ ap (λ m. now ++ (here m ++ rest m (k + 1))) line
    ∙ ap (λ j. now ++ (here (n + 1) ++ rest (n + 1) j)) (sym on)
    ∙ sym (ap (λ xs. now ++ listed_from f n xs) (drop_next streams k _ at))
    ∙ so_far
