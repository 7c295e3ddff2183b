-- A write at one place keeps a table's other rows, and a row that isn't stale is seen as it is
-- written.
use Rattle.std.proofs.Common.{◌≡◌, ℕ, ◌<◌, ◌≤◌, ◌+◌, false, List, [], length, get_or, set, inl, inr}
use Rattle.std.proofs.Common.{slice_get, Option, Some, refl, sym, ◌∙◌, ap, subst, arith}
use Rattle.std.proofs.lemmas.Bool.{cases_eq}
use Rattle.std.proofs.lemmas.List.{get_or-set_other, get_or-set_same, get_or_default, length-set}
use Rattle.std.proofs.lemmas.Option.{slice_get_within}
use Rattle.st_core.specs.declared.types.Event.{Event}
use Rattle.st_core.specs.declared.types.Message.{Message}
use Rattle.st_core.specs.declared.types.Pid.{Pid}
use Rattle.st_core.specs.Pid.{IsRising}
use Rattle.st_core.specs.State.{LocalState, Process, State}
use Rattle.st_mail.specs.Actor.{process_of}
use Rattle.node_machine.specs.Node.{machine_act, node_actor, NodeAct}
use Rattle.node_check.specs.declared.processes.NodeMark.{NodeMark}
use Rattle.node_check.specs.declared.processes.Processes.{Processes}
use Rattle.node_check.specs.declared.processes.Row.{Row}
use Rattle.node_check.specs.Kept.{IsKeptAt, is_stale, IsDone, IsFresh, IsRefreshed, kept_state}
use Rattle.node_check.specs.Kept.{local_by, node_mark_of, no_mark, processes_of, queue_by, zero_row}
use Rattle.node_check.specs.Steps.{IsNodePart, IsStepOnNode}
use Rattle.node_check.proofs.NodeSteps.{IsAlone, step_by_part}
use Rattle.node_check.proofs.Rows.{fresh_local, fresh_queue, process_by, rows_at, rows_pids}
use Rattle.node_check.proofs.Rows.{rows_set, written_fresh}
use Rattle.node_check.proofs.States.{pids_in, set_back}
use Rattle.node_check.proofs.Traced.{part_traced}

written_set : (rows : List Row) (place : ℕ) (row : Row) (n : ℕ) → place < length rows
    → row.written ≤ n → ((i : ℕ) → (get_or rows i zero_row).written ≤ n)
    → (i : ℕ) → (get_or (set rows place row) i zero_row).written ≤ n
written_set rows place row n within here each i = elim (cases_eq i place) [
  | inl same ↦
      subst (λ k. (get_or (set rows place row) k zero_row).written ≤ n) (sym same)
      (subst (λ (r : Row). r.written ≤ n)
      (sym (get_or-set_same rows place row zero_row within)) here)
  | inr other ↦
      subst (λ (r : Row). r.written ≤ n)
      (sym (get_or-set_other rows place i row zero_row other)) (each i)
]

-- writing a row keeps the tables
pub kept_after : {pids : List Pid} {number : ℕ} {old : Processes} (m : ℕ) (new : Processes)
    (place : ℕ) (row : Row)
    → IsKeptAt pids number old → number ≤ m → place < length pids → row.written ≤ m
    → new.rows.items ≡ set old.rows.items place row
    → length new.queues.boxes ≡ length old.queues.boxes
    → new.nodes.items ≡ old.nodes.items → IsKeptAt pids m new
kept_after {pids} {number} {old} m new place row kept more within here rows queues nodes = record {
  rows_len = ap length rows ∙ length-set old.rows.items place row ∙ kept.rows_len;
  queues_len = queues ∙ kept.queues_len;
  nodes_len = ap length nodes ∙ kept.nodes_len;
  written = λ i.
      let len = kept.rows_len in
      subst (λ (xs : List Row). (get_or xs i zero_row).written ≤ m) (sym rows)
      (written_set old.rows.items place row m (omega arith) here
      (λ j. let before = kept.written j in omega arith) i);
  reset = λ i.
      subst (λ (xs : List NodeMark). (get_or xs i no_mark).reset ≤ m) (sym nodes)
      (let before = kept.reset i in omega arith);
}

pub row_within : {pids : List Pid} {number : ℕ} {x : Processes} {place : ℕ} {p : Pid}
    → IsKeptAt pids number x → slice_get pids place ≡ Some p → place < length x.rows.items
row_within {pids} {place} {p} kept at =
    let len = kept.rows_len in let within = slice_get_within pids place p at in omega arith

pub queue_within : {pids : List Pid} {number : ℕ} {x : Processes} {place : ℕ} {p : Pid}
    → IsKeptAt pids number x → slice_get pids place ≡ Some p → place < length x.queues.boxes
queue_within {pids} {place} {p} kept at =
    let len = kept.queues_len in let within = slice_get_within pids place p at in omega arith

-- REFRESHED

module _ {pids : List Pid} {number : ℕ} {old : Processes} (new : Processes) (place : ℕ) (p : Pid)
    (kept : IsKeptAt pids number old) (at : slice_get pids place ≡ Some p) where
  within : place < length pids
  within = slice_get_within pids place p at

  abbrev pub mark : NodeMark
  mark = node_mark_of old.nodes.items p

  abbrev pub was : Row
  was = get_or old.rows.items place zero_row

  abbrev pub written : Row
  written = record { local = local_by mark was; written = number }

  module _ (rows : new.rows.items ≡ set old.rows.items place written)
      (queues : new.queues.boxes
      ≡ set old.queues.boxes place (queue_by mark was (get_or old.queues.boxes place [])))
      (nodes : new.nodes.items ≡ old.nodes.items) where
    len : length old.rows.items ≡ length pids
    len = kept.rows_len

    fresh : is_stale mark written ≡ false
    fresh = written_fresh mark written.local number (kept.reset p.node)

    row_here : get_or new.rows.items place zero_row ≡ written
    row_here =
        ap (λ (xs : List Row). get_or xs place zero_row) rows
        ∙ get_or-set_same old.rows.items place written zero_row
        (let n = len in let w = within in omega arith)

    abbrev pub before : State
    before = kept_state pids old

    abbrev pub box : List Message
    box = get_or old.queues.boxes place []

    shown : process_by old.nodes.items p written (queue_by mark was box)
        ≡ process_by old.nodes.items p was box
    shown =
        ap (λ l. process_of p l (queue_by mark written (queue_by mark was box)))
        (fresh_local mark written fresh refl)
        ∙ ap (process_of p (local_by mark was))
        (fresh_queue mark written (queue_by mark was box) fresh)

    same_state : kept_state pids new ≡ kept_state pids old
    same_state =
        ap (λ ms. processes_of ms pids new.rows.items new.queues.boxes) nodes
        ∙ ap (λ xs. processes_of old.nodes.items pids xs new.queues.boxes) rows
        ∙ ap (processes_of old.nodes.items pids (set old.rows.items place written)) queues
        ∙ rows_set old.nodes.items pids old.rows.items old.queues.boxes place p written
        (queue_by mark was box) kept.rows_len kept.queues_len at
        ∙ ap (set before place) shown
        ∙ set_back before place (process_by old.nodes.items p was box)
        (rows_at old.nodes.items pids old.rows.items old.queues.boxes place p kept.rows_len
        kept.queues_len at)

    still : (j : ℕ) (q : Pid) → IsFresh old j q → IsFresh new j q
    still j q was_fresh =
        ap (λ (ms : List NodeMark).
        is_stale (node_mark_of ms q) (get_or new.rows.items j zero_row)) nodes
        ∙ ap (λ (xs : List Row). is_stale (node_mark_of old.nodes.items q) (get_or xs j zero_row))
        rows
        ∙ elim (cases_eq j place) [
          | inl same ↦
              ap (λ k. is_stale (node_mark_of old.nodes.items q)
              (get_or (set old.rows.items place written) k zero_row)) same
              ∙ ap (is_stale (node_mark_of old.nodes.items q))
              (get_or-set_same old.rows.items place written zero_row
              (let n = len in let w = within in omega arith))
              ∙ written_fresh (node_mark_of old.nodes.items q) written.local number
              (kept.reset q.node)
          | inr other ↦
              ap (is_stale (node_mark_of old.nodes.items q))
              (get_or-set_other old.rows.items place j written zero_row other)
              ∙ was_fresh
        ]

    pub refreshed : IsRefreshed pids number place p old new
    refreshed = record {
      kept = kept_after number new place written kept (omega arith) within (omega arith) rows
          (ap length queues
          ∙ length-set old.queues.boxes place (queue_by mark was box)) nodes;
      same = same_state;
      fresh =
          ap (λ (ms : List NodeMark).
          is_stale (node_mark_of ms p) (get_or new.rows.items place zero_row)) nodes
          ∙ ap (is_stale mark) row_here ∙ fresh;
      traced =
          ap (λ (r : Row). r.local.traced) row_here
          ∙ ap (λ (ms : List NodeMark). (node_mark_of ms p).traced) (sym nodes);
      others = still;
    }

-- as above, by the row and the mark that the code read
module _ {pids : List Pid} {number : ℕ} {old : Processes} (new : Processes) (place : ℕ) (p : Pid)
    (kept : IsKeptAt pids number old) (at : slice_get pids place ≡ Some p) (m : NodeMark) (r : Row)
    (m_is : m ≡ node_mark_of old.nodes.items p) (r_is : r ≡ get_or old.rows.items place zero_row)
    (nodes : new.nodes.items ≡ old.nodes.items) where
  pub refreshed_by : (l : LocalState) → l ≡ local_by m r
      → new.rows.items ≡ set old.rows.items place (record { local = l; written = number })
      → new.queues.boxes
      ≡ set old.queues.boxes place (queue_by m r (get_or old.queues.boxes place []))
      → IsRefreshed pids number place p old new
  refreshed_by l l_is rows queues =
      let row : Row = get_or old.rows.items place zero_row in
      let local : l ≡ local_by (node_mark_of old.nodes.items p) row =
      l_is ∙ ap (λ x. local_by x r) m_is ∙ ap (local_by (node_mark_of old.nodes.items p)) r_is in
      let box : List Message = get_or old.queues.boxes place [] in
      refreshed new place p kept at
      (rows ∙ ap (λ k. set old.rows.items place (record { local = k; written = number })) local)
      (queues
      ∙ ap (λ x. set old.queues.boxes place (queue_by x r box)) m_is
      ∙ ap (λ x. set old.queues.boxes place (queue_by (node_mark_of old.nodes.items p) x box)) r_is)
      nodes

-- DONE

module _ {pids : List Pid} {number : ℕ} {old x : Processes} (new : Processes) (place : ℕ) (p : Pid)
    (a : NodeAct) (told : Option Event) (rising : IsRising pids)
    (at : slice_get pids place ≡ Some p) (own : p ≡ node_actor a)
    (ready : IsRefreshed pids number place p old x) where
  abbrev pub row : Row
  row = get_or x.rows.items place zero_row

  abbrev pub marked : NodeMark
  marked = node_mark_of x.nodes.items p

  abbrev pub queue : List Message
  queue = get_or x.queues.boxes place []

  -- the actor's process, ready for its act
  abbrev pub ready_process : Process
  ready_process = process_of p row.local queue

  pub ready_at : slice_get (kept_state pids x) place ≡ Some ready_process
  ready_at =
      rows_at x.nodes.items pids x.rows.items x.queues.boxes place p ready.kept.rows_len
      ready.kept.queues_len at
      ∙ ap (λ l. Some (process_of p l (queue_by marked row queue)))
      (fresh_local marked row ready.fresh ready.traced)
      ∙ ap (λ b. Some (process_of p row.local b)) (fresh_queue marked row queue ready.fresh)

  pub ready_rising : IsRising (pids_in (kept_state pids x))
  ready_rising =
      subst IsRising (sym (rows_pids x.nodes.items pids x.rows.items x.queues.boxes
      ready.kept.rows_len ready.kept.queues_len)) rising

  -- writing the actor's part at its place does the act
  pub done_alone : (l : LocalState) (b : List Message) → IsAlone (machine_act a)
      → IsNodePart ready_process a l b told
      → new.rows.items ≡ set x.rows.items place (record row { local = l })
      → new.queues.boxes ≡ set x.queues.boxes place b
      → new.nodes.items ≡ x.nodes.items → IsDone pids number a told old new
  done_alone l b alone part rows queues nodes =
      let row2 : Row = record row { local = l } in
      let mark_kept : l.traced ≡ marked.traced =
      ap (λ (k : LocalState). k.traced) (sym part.is_local) ∙ part_traced ready_process a
      ∙ ready.traced in
      let after : kept_state pids new ≡ set (kept_state pids x) place (process_of p l b) =
      ap (λ ms. processes_of ms pids new.rows.items new.queues.boxes) nodes
      ∙ ap (λ xs. processes_of x.nodes.items pids xs new.queues.boxes) rows
      ∙ ap (processes_of x.nodes.items pids (set x.rows.items place row2)) queues
      ∙ rows_set x.nodes.items pids x.rows.items x.queues.boxes place p row2 b
      ready.kept.rows_len ready.kept.queues_len at
      ∙ ap (λ k. set (kept_state pids x) place (process_of p k (queue_by marked row2 b)))
      (fresh_local marked row2 ready.fresh mark_kept)
      ∙ ap (λ c. set (kept_state pids x) place (process_of p l c))
      (fresh_queue marked row2 b ready.fresh) in
      let step = step_by_part (kept_state pids x) place ready_process a ready_rising ready_at own
      l b told alone part in
      record {
        step = subst (λ s. IsStepOnNode s a told (kept_state pids new)) ready.same
            (subst (IsStepOnNode (kept_state pids x) a told) (sym after) step);
        kept = kept_after (number + 1) new place row2 ready.kept (omega arith)
            (slice_get_within pids place p at)
            (let before = ready.kept.written place in omega arith) rows
            (ap length queues ∙ length-set x.queues.boxes place b) nodes;
      }

  -- as above, by the row that the code read
  pub done_by : (w : Row) → w ≡ get_or x.rows.items place w → (l : LocalState) (b : List Message)
      → IsAlone (machine_act a) → IsNodePart (process_of p w.local queue) a l b told
      → new.rows.items ≡ set x.rows.items place (record w { local = l })
      → new.queues.boxes ≡ set x.queues.boxes place b
      → new.nodes.items ≡ x.nodes.items → IsDone pids number a told old new
  done_by w is l b alone part rows queues nodes =
      let len = ready.kept.rows_len in
      let within = slice_get_within pids place p at in
      let w_is : w ≡ row = is ∙ get_or_default x.rows.items place w zero_row (omega arith) in
      done_alone l b alone
      (subst (λ (y : Row). IsNodePart (process_of p y.local queue) a l b told) w_is part)
      (rows ∙ ap (λ (y : Row). set x.rows.items place (record y { local = l })) w_is)
      queues nodes
