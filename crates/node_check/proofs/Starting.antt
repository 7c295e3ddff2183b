-- At the start no row is stale, and each process is at zero.
use Rattle.std.proofs.Common.{◌≡◌, ◌^◌, List, [], length, get_or, replicate, ◌∙◌, ap, arith}
use Rattle.std.proofs.lemmas.List.{length-replicate}
use Rattle.st_core.specs.declared.types.Pid.{Pid}
use Rattle.st_core.specs.State.{zero_state}
use Rattle.node_check.specs.declared.processes.NodeMark.{NodeMark}
use Rattle.node_check.specs.declared.processes.Processes.{Processes}
use Rattle.node_check.specs.declared.processes.Row.{Row}
use Rattle.node_check.specs.Kept.{IsKeptAt, kept_state, no_mark, processes_of, zero_row}
use Rattle.node_check.proofs.Rows.{rows_zero, zero_marks_at, zero_rows_at}

module _ (pids : List Pid) (x : Processes)
    (rows : x.rows.items ≡ replicate (length pids) zero_row)
    (queues : x.queues.boxes ≡ replicate (length pids) [])
    (nodes : x.nodes.items ≡ replicate (2 ^ 16) no_mark) where
  pub new_kept : IsKeptAt pids 0 x
  new_kept = record {
    rows_len = ap length rows ∙ length-replicate (length pids) zero_row;
    queues_len = ap length queues ∙ length-replicate (length pids) [];
    nodes_len = ap length nodes ∙ length-replicate (2 ^ 16) no_mark;
    written = λ i.
        let none : (get_or x.rows.items i zero_row).written ≡ 0 =
        ap (λ (xs : List Row). (get_or xs i zero_row).written) rows
        ∙ ap (λ (r : Row). r.written) (zero_rows_at (length pids) i) in
        omega arith;
    reset = λ i.
        let none : (get_or x.nodes.items i no_mark).reset ≡ 0 =
        ap (λ (xs : List NodeMark). (get_or xs i no_mark).reset) nodes
        ∙ ap (λ (m : NodeMark). m.reset) (zero_marks_at (2 ^ 16) i) in
        omega arith;
  }

  pub new_state : kept_state pids x ≡ zero_state pids
  new_state =
      ap (λ ms. processes_of ms pids x.rows.items x.queues.boxes) nodes
      ∙ ap (λ rs. processes_of (replicate (2 ^ 16) no_mark) pids rs x.queues.boxes) rows
      ∙ ap (processes_of (replicate (2 ^ 16) no_mark) pids (replicate (length pids) zero_row))
      queues
      ∙ rows_zero (2 ^ 16) pids
