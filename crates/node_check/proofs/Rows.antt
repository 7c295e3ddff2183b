-- The rows, queues and pids are of one length, so reading or writing a place of them reads or
-- writes that place of the state.
use Rattle.std.proofs.Common.{◌≡◌, ℕ, ◌≤◌, zero, suc, false, List, [], ◌∷◌, length, get_or, set}
use Rattle.std.proofs.Common.{slice_get, replicate, Some, refl, sym, ◌∙◌, ap, arith}
use Rattle.std.proofs.lemmas.Bool.{le-ltb}
use Rattle.std.proofs.lemmas.List.{set-get_or}
use Rattle.std.proofs.lemmas.Option.{same_Some}
use Rattle.st_core.specs.declared.types.Pid.{Pid}
use Rattle.st_core.specs.declared.types.Message.{Message}
use Rattle.st_core.specs.State.{LocalState, Process, zero_local, zero_state}
use Rattle.st_mail.specs.Actor.{process_of}
use Rattle.node_check.specs.declared.processes.NodeMark.{NodeMark}
use Rattle.node_check.specs.declared.processes.Row.{Row}
use Rattle.node_check.specs.Kept.{is_stale, local_by, node_mark_of, no_mark, processes_of, queue_by}
use Rattle.node_check.specs.Kept.{zero_row}
use Rattle.node_check.proofs.States.{pids_in}

-- the process of a row and a queue
abbrev pub process_by : List NodeMark → Pid → Row → List Message → Process
process_by marks p row queue =
    process_of p (local_by (node_mark_of marks p) row) (queue_by (node_mark_of marks p) row queue)

module _ (marks : List NodeMark) where
  pub rows_pids : (ps : List Pid) (rows : List Row) (bs : List (List Message))
      → length rows ≡ length ps → length bs ≡ length ps
      → pids_in (processes_of marks ps rows bs) ≡ ps
  rows_pids [] rows bs e f = refl
  rows_pids (p ∷ ps) [] bs e f = absurd (omega arith)
  rows_pids (p ∷ ps) (row ∷ rows) [] e f = absurd (omega arith)
  rows_pids (p ∷ ps) (row ∷ rows) (b ∷ bs) e f =
      ap (λ qs. p ∷ qs) (rows_pids ps rows bs (omega arith) (omega arith))

  pub rows_at : (ps : List Pid) (rows : List Row) (bs : List (List Message)) (i : ℕ) (p : Pid)
      → length rows ≡ length ps → length bs ≡ length ps → slice_get ps i ≡ Some p
      → slice_get (processes_of marks ps rows bs) i
      ≡ Some (process_by marks p (get_or rows i zero_row) (get_or bs i []))
  rows_at [] rows bs i p e f at = absurd (cc)
  rows_at (q ∷ ps) [] bs i p e f at = absurd (omega arith)
  rows_at (q ∷ ps) (row ∷ rows) [] i p e f at = absurd (omega arith)
  rows_at (q ∷ ps) (row ∷ rows) (b ∷ bs) zero p e f at =
      ap (λ x. Some (process_by marks x row b)) (same_Some q p at)
  rows_at (q ∷ ps) (row ∷ rows) (b ∷ bs) (suc i) p e f at =
      rows_at ps rows bs i p (omega arith) (omega arith) at

  -- a write at one place of rows and queues
  pub rows_set : (ps : List Pid) (rows : List Row) (bs : List (List Message)) (i : ℕ) (p : Pid)
      (row : Row) (b : List Message)
      → length rows ≡ length ps → length bs ≡ length ps → slice_get ps i ≡ Some p
      → processes_of marks ps (set rows i row) (set bs i b)
      ≡ set (processes_of marks ps rows bs) i (process_by marks p row b)
  rows_set [] rows bs i p row b e f at = absurd (cc)
  rows_set (q ∷ ps) [] bs i p row b e f at = absurd (omega arith)
  rows_set (q ∷ ps) (x ∷ rows) [] i p row b e f at = absurd (omega arith)
  rows_set (q ∷ ps) (x ∷ rows) (y ∷ bs) zero p row b e f at =
      ap (λ z. process_by marks z row b ∷ processes_of marks ps rows bs) (same_Some q p at)
  rows_set (q ∷ ps) (x ∷ rows) (y ∷ bs) (suc i) p row b e f at =
      ap (λ s. process_by marks q x y ∷ s)
      (rows_set ps rows bs i p row b (omega arith) (omega arith) at)

  -- a write at one place of the rows alone
  pub rows_set_row : (ps : List Pid) (rows : List Row) (bs : List (List Message)) (i : ℕ) (p : Pid)
      (row : Row)
      → length rows ≡ length ps → length bs ≡ length ps → slice_get ps i ≡ Some p
      → processes_of marks ps (set rows i row) bs
      ≡ set (processes_of marks ps rows bs) i (process_by marks p row (get_or bs i []))
  rows_set_row ps rows bs i p row e f at =
      ap (processes_of marks ps (set rows i row)) (sym (set-get_or bs i []))
      ∙ rows_set ps rows bs i p row (get_or bs i []) e f at

  -- a write at one place of the queues alone
  pub rows_set_queue : (ps : List Pid) (rows : List Row) (bs : List (List Message)) (i : ℕ)
      (p : Pid) (b : List Message)
      → length rows ≡ length ps → length bs ≡ length ps → slice_get ps i ≡ Some p
      → processes_of marks ps rows (set bs i b)
      ≡ set (processes_of marks ps rows bs) i (process_by marks p (get_or rows i zero_row) b)
  rows_set_queue ps rows bs i p b e f at =
      ap (λ xs. processes_of marks ps xs (set bs i b)) (sym (set-get_or rows i zero_row))
      ∙ rows_set ps rows bs i p (get_or rows i zero_row) b e f at

-- A ROW THAT ISN'T STALE

-- a row that isn't stale is seen as it is, if it has its node's tracer
pub fresh_local : (mark : NodeMark) (row : Row) → is_stale mark row ≡ false
    → row.local.traced ≡ mark.traced → local_by mark row ≡ row.local
fresh_local mark row fresh traced = rw (fresh, sym traced) refl

pub fresh_queue : (mark : NodeMark) (row : Row) (b : List Message) → is_stale mark row ≡ false
    → queue_by mark row b ≡ b
fresh_queue mark row b fresh = rw fresh refl

-- a row that was written after each reset isn't stale
pub written_fresh : (mark : NodeMark) (l : LocalState) (number : ℕ) → mark.reset ≤ number
    → is_stale mark (record { local = l; written = number }) ≡ false
written_fresh mark l number before = le-ltb number mark.reset before

-- THE START

pub zero_marks_at : (n : ℕ) (k : ℕ) → get_or (replicate n no_mark) k no_mark ≡ no_mark
zero_marks_at zero k = refl
zero_marks_at (suc n) zero = refl
zero_marks_at (suc n) (suc k) = zero_marks_at n k

pub zero_rows_at : (n : ℕ) (k : ℕ) → get_or (replicate n zero_row) k zero_row ≡ zero_row
zero_rows_at zero k = refl
zero_rows_at (suc n) zero = refl
zero_rows_at (suc n) (suc k) = zero_rows_at n k

pub rows_zero : (n : ℕ) (ps : List Pid)
    → processes_of (replicate n no_mark) ps (replicate (length ps) zero_row)
    (replicate (length ps) []) ≡ zero_state ps
rows_zero n [] = refl
rows_zero n (p ∷ ps) =
    let mark = zero_marks_at n p.node in
    ap (λ (m : NodeMark). process_of p (local_by m zero_row) (queue_by m zero_row [])
    ∷ processes_of (replicate n no_mark) ps (replicate (length ps) zero_row)
    (replicate (length ps) [])) mark
    ∙ ap (λ s. process_of p zero_local [] ∷ s) (rows_zero n ps)
