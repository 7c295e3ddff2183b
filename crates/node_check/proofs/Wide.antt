-- A reset makes each row of its node stale, and a stale row shows what a reset leaves; a tracer
-- change is seen through the node's mark.
use Rattle.std.proofs.Common.{◌≡◌, ◌≢◌, ◌⊎◌, ℕ, ◌<◌, ◌≤◌, ◌+◌, ◌^◌, suc, true, false, Bool, cond}
use Rattle.std.proofs.Common.{List, [], ◌∷◌, length, get_or, map, set, slice_get, Option, Some}
use Rattle.std.proofs.Common.{None, refl, sym, ◌∙◌, ap, subst, arith, inl, inr}
use Rattle.std.proofs.lemmas.Bool.{cases_eq, eqb-true, eq-eqb, false≢true, lt-ltb}
use Rattle.std.proofs.lemmas.List.{get_or-set_other, get_or-set_same, get_or_default, length-set}
use Rattle.std.proofs.lemmas.Simd.{map-map}
use Rattle.st_core.specs.declared.types.Act.TheVariants as act
use Rattle.st_core.specs.declared.types.Message.{Message}
use Rattle.st_core.specs.declared.types.Pid.{Pid}
use Rattle.st_core.specs.declared.types.Token.{Token}
use Rattle.st_core.specs.Local.{wiped}
use Rattle.st_core.specs.Pid.{IsRising, node_eq}
use Rattle.st_core.specs.State.{LocalState, Process, State, process}
use Rattle.st_core.specs.Step.{reached, untraced}
use Rattle.st_mail.specs.Actor.{process_of}
use Rattle.node_machine.specs.Node.{Common}
use Rattle.node_check.specs.declared.processes.NodeMark.{NodeMark}
use Rattle.node_check.specs.declared.processes.Processes.{Processes}
use Rattle.node_check.specs.declared.processes.Row.{Row}
use Rattle.node_check.specs.Kept.{IsKeptAt, is_stale, IsDone, kept_state, local_by, node_mark_of}
use Rattle.node_check.specs.Kept.{no_mark, processes_of, queue_by, zero_row}
use Rattle.node_check.proofs.NodeSteps.{step_is}
use Rattle.node_check.proofs.Rows.{process_by, rows_at, rows_pids}
use Rattle.node_check.proofs.States.{found, pids_in, set_back}

-- MARKS

-- `later` has the mark for the node of me, and the old marks for other nodes
pub record AreMarked (marks later : List NodeMark) (me : Pid) (mark : NodeMark) : Type 0 where
  pub here : (p : Pid) → node_eq p me ≡ true → node_mark_of later p ≡ mark
  pub there : (p : Pid) → node_eq p me ≡ false → node_mark_of later p ≡ node_mark_of marks p

pub marked : (marks : List NodeMark) (me : Pid) (mark : NodeMark) → me.node < length marks
    → AreMarked marks (set marks me.node mark) me mark
marked marks me mark within = record {
  here = λ p same.
      let is : p.node ≡ me.node = eqb-true p.node me.node same in
      ap (λ k. get_or (set marks me.node mark) k no_mark) is
      ∙ get_or-set_same marks me.node mark no_mark within;
  there = λ p other.
      get_or-set_other marks me.node p.node mark no_mark
      (λ is. false≢true (sym other ∙ eq-eqb p.node me.node is));
}

-- A RESET

untraced_twice : (b : List Message) → map untraced (map untraced b) ≡ map untraced b
untraced_twice b = map-map untraced untraced b

stale_local : (stale : Bool) (l : LocalState) (traced : Bool)
    → record (wiped l) { traced = traced }
    ≡ wiped (record (cond stale (wiped l) l) { traced = traced })
stale_local true l traced = refl
stale_local false l traced = refl

stale_queue : (stale : Bool) (b : List Message)
    → map untraced b ≡ map untraced (cond stale (map untraced b) b)
stale_queue true b = sym (untraced_twice b)
stale_queue false b = refl

module _ (me : Pid) (number : ℕ) (old : NodeMark) where
  abbrev pub reset_mark : NodeMark
  reset_mark = record old { reset = number + 1 }

  -- a process of the node, after the reset
  reset_process : (p : Pid) (row : Row) (b : List Message) → row.written ≤ number
      → process_of p (local_by reset_mark row) (queue_by reset_mark row b)
      ≡ record (process_of p (local_by old row) (queue_by old row b)) {
        local = wiped (local_by old row);
        queue = map untraced (queue_by old row b);
      }
  reset_process p row b before =
      let stale : is_stale reset_mark row ≡ true = lt-ltb row.written (number + 1) (omega arith) in
      ap (λ c. process_of p (record (cond c (wiped row.local) row.local) { traced = old.traced })
      (cond c (map untraced b) b)) stale
      ∙ ap (λ l. process_of p l (map untraced b))
      (stale_local (is_stale old row) row.local old.traced)
      ∙ ap (process_of p (wiped (local_by old row))) (stale_queue (is_stale old row) b)

-- each process of the node is reset, and no other
pub reset_rows : (marks later : List NodeMark) (me : Pid) (number : ℕ)
    → AreMarked marks later me (record (node_mark_of marks me) { reset = number + 1 })
    → (ps : List Pid) (rows : List Row) (bs : List (List Message)) (t : Option Token)
    → ((i : ℕ) → (get_or rows i zero_row).written ≤ number)
    → processes_of later ps rows bs
    ≡ map (reached (act.Reset me) t) (processes_of marks ps rows bs)
reset_rows marks later me number are [] rows bs t before = refl
reset_rows marks later me number are (p ∷ ps) [] bs t before = refl
reset_rows marks later me number are (p ∷ ps) (row ∷ rows) [] t before = refl
reset_rows marks later me number are (p ∷ ps) (row ∷ rows) (b ∷ bs) t before =
    ap (λ x. x ∷ processes_of later ps rows bs) (one (node_eq p me) refl)
    ∙ ap (λ s. reached (act.Reset me) t (process_by marks p row b) ∷ s)
    (reset_rows marks later me number are ps rows bs t (λ i. before (suc i)))
  where
    one : (here : Bool) → node_eq p me ≡ here
        → process_by later p row b ≡ reached (act.Reset me) t (process_by marks p row b)
    one true here =
        let old : node_mark_of marks p ≡ node_mark_of marks me =
        ap (λ k. get_or marks k no_mark) (eqb-true p.node me.node here) in
        ap (λ m. process_of p (local_by m row) (queue_by m row b)) (are.here p here)
        ∙ reset_process me number (node_mark_of marks me) p row b (before 0)
        ∙ ap (λ m. record (process_of p (local_by m row) (queue_by m row b)) {
          local = wiped (local_by m row);
          queue = map untraced (queue_by m row b);
        }) (sym old)
        ∙ sym (ap (λ c. cond c (record (process_by marks p row b) {
          local = wiped (process_by marks p row b).local;
          queue = map untraced (process_by marks p row b).queue;
        }) (process_by marks p row b)) here)
    one false other =
        ap (λ m. process_of p (local_by m row) (queue_by m row b)) (are.there p other)
        ∙ sym (ap (λ c. cond c (record (process_by marks p row b) {
          local = wiped (process_by marks p row b).local;
          queue = map untraced (process_by marks p row b).queue;
        }) (process_by marks p row b)) other)

-- A TRACER CHANGE

pub traced_rows : (marks later : List NodeMark) (me : Pid) (on : Bool)
    → AreMarked marks later me (record (node_mark_of marks me) { traced = on })
    → (ps : List Pid) (rows : List Row) (bs : List (List Message)) (t : Option Token)
    → processes_of later ps rows bs
    ≡ map (reached (act.Tracer me on) t) (processes_of marks ps rows bs)
traced_rows marks later me on are [] rows bs t = refl
traced_rows marks later me on are (p ∷ ps) [] bs t = refl
traced_rows marks later me on are (p ∷ ps) (row ∷ rows) [] t = refl
traced_rows marks later me on are (p ∷ ps) (row ∷ rows) (b ∷ bs) t =
    ap (λ x. x ∷ processes_of later ps rows bs) (one (node_eq p me) refl)
    ∙ ap (λ s. reached (act.Tracer me on) t (process_by marks p row b) ∷ s)
    (traced_rows marks later me on are ps rows bs t)
  where
    changed : Process
    changed = record (process_by marks p row b) {
      local = record (process_by marks p row b).local { traced = on };
    }

    one : (here : Bool) → node_eq p me ≡ here
        → process_by later p row b ≡ reached (act.Tracer me on) t (process_by marks p row b)
    one true here =
        let old : node_mark_of marks me ≡ node_mark_of marks p =
        sym (ap (λ k. get_or marks k no_mark) (eqb-true p.node me.node here)) in
        ap (λ m. process_of p (local_by m row) (queue_by m row b)) (are.here p here)
        ∙ ap (λ (m : NodeMark). process_of p (local_by (record m { traced = on }) row)
        (queue_by (record m { traced = on }) row b)) old
        ∙ sym (ap (λ c. cond c changed (process_by marks p row b)) here)
    one false other =
        ap (λ m. process_of p (local_by m row) (queue_by m row b)) (are.there p other)
        ∙ sym (ap (λ c. cond c changed (process_by marks p row b)) other)

-- DONE

module _ {pids : List Pid} {number : ℕ} {old : Processes} (new : Processes) (place : ℕ) (me : Pid)
    (rising : IsRising pids) (kept : IsKeptAt pids number old) (at : slice_get pids place ≡ Some me)
    (rows : new.rows.items ≡ old.rows.items) (queues : new.queues.boxes ≡ old.queues.boxes) where
  abbrev pub s : State
  s = kept_state pids old

  abbrev pub first : Process
  first = process_by old.nodes.items me (get_or old.rows.items place zero_row)
      (get_or old.queues.boxes place [])

  first_at : slice_get s place ≡ Some first
  first_at = rows_at old.nodes.items pids old.rows.items old.queues.boxes place me kept.rows_len
      kept.queues_len at

  s_rising : IsRising (pids_in s)
  s_rising =
      subst IsRising (sym (rows_pids old.nodes.items pids old.rows.items old.queues.boxes
      kept.rows_len kept.queues_len)) rising

  there : process s me ≡ Some first
  there = found s place first s_rising first_at

  marks_kept : (mark : NodeMark) → me.node < 2 ^ 16 → mark.reset ≤ number + 1
      → new.nodes.items ≡ set old.nodes.items me.node mark → IsKeptAt pids (number + 1) new
  marks_kept mark node before nodes = record {
    rows_len = ap length rows ∙ kept.rows_len;
    queues_len = ap length queues ∙ kept.queues_len;
    nodes_len = ap length nodes ∙ length-set old.nodes.items me.node mark ∙ kept.nodes_len;
    written = λ i.
        subst (λ (xs : List Row). (get_or xs i zero_row).written ≤ number + 1) (sym rows)
        (let early = kept.written i in omega arith);
    reset = λ i.
        subst (λ (xs : List NodeMark). (get_or xs i no_mark).reset ≤ number + 1) (sym nodes)
        (reset_set i (cases_eq i me.node));
  }
    where
      reset_set : (i : ℕ) → (i ≡ me.node) ⊎ (i ≢ me.node)
          → (get_or (set old.nodes.items me.node mark) i no_mark).reset ≤ number + 1
      reset_set i (inl same) =
          let len = kept.nodes_len in
          subst (λ k. (get_or (set old.nodes.items me.node mark) k no_mark).reset ≤ number + 1)
          (sym same)
          (subst (λ (m : NodeMark). m.reset ≤ number + 1)
          (sym (get_or-set_same old.nodes.items me.node mark no_mark (omega arith))) before)
      reset_set i (inr other) =
          subst (λ (m : NodeMark). m.reset ≤ number + 1)
          (sym (get_or-set_other old.nodes.items me.node i mark no_mark other))
          (let early = kept.reset i in omega arith)

  pub done_reset : me.node < 2 ^ 16
      → new.nodes.items
      ≡ set old.nodes.items me.node
      (record (node_mark_of old.nodes.items me) { reset = number + 1 })
      → IsDone pids number (Common (act.Reset me)) None old new
  done_reset node nodes =
      let mark = record (node_mark_of old.nodes.items me) { reset = number + 1 } in
      let len = kept.nodes_len in
      let are = marked old.nodes.items me mark (omega arith) in
      let after : kept_state pids new ≡ map (reached (act.Reset me) first.local.token) s =
      ap (λ ms. processes_of ms pids new.rows.items new.queues.boxes) nodes
      ∙ ap (λ rs. processes_of (set old.nodes.items me.node mark) pids rs new.queues.boxes) rows
      ∙ ap (processes_of (set old.nodes.items me.node mark) pids old.rows.items) queues
      ∙ reset_rows old.nodes.items (set old.nodes.items me.node mark) me number are pids
      old.rows.items old.queues.boxes first.local.token kept.written in
      let back = ap (map (reached (act.Reset me) first.local.token))
      (set_back s place first first_at) in
      record {
        step = step_is s place first (Common (act.Reset me)) s_rising first_at refl first there
            (kept_state pids new) (back ∙ sym after);
        kept = marks_kept mark node (omega arith) nodes;
      }

  pub done_trace : (on : Bool) → me.node < 2 ^ 16
      → new.nodes.items
      ≡ set old.nodes.items me.node (record (node_mark_of old.nodes.items me) { traced = on })
      → IsDone pids number (Common (act.Tracer me on)) None old new
  done_trace on node nodes =
      let mark = record (node_mark_of old.nodes.items me) { traced = on } in
      let len = kept.nodes_len in
      let are = marked old.nodes.items me mark (omega arith) in
      let after : kept_state pids new ≡ map (reached (act.Tracer me on) first.local.token) s =
      ap (λ ms. processes_of ms pids new.rows.items new.queues.boxes) nodes
      ∙ ap (λ rs. processes_of (set old.nodes.items me.node mark) pids rs new.queues.boxes) rows
      ∙ ap (processes_of (set old.nodes.items me.node mark) pids old.rows.items) queues
      ∙ traced_rows old.nodes.items (set old.nodes.items me.node mark) me on are pids
      old.rows.items old.queues.boxes first.local.token in
      let back = ap (map (reached (act.Tracer me on) first.local.token))
      (set_back s place first first_at) in
      record {
        step = step_is s place first (Common (act.Tracer me on)) s_rising first_at refl first there
            (kept_state pids new) (back ∙ sym after);
        kept = marks_kept mark node (let early = kept.reset me.node in omega arith) nodes;
      }

  -- the mark that the code read is that of the node of me
  read_mark : (k : ℕ) (m : NodeMark) → k ≡ me.node → k < length old.nodes.items
      → m ≡ get_or old.nodes.items k m → m ≡ node_mark_of old.nodes.items me
  read_mark k m k_is within is =
      is ∙ get_or_default old.nodes.items k m no_mark within
      ∙ ap (λ j. get_or old.nodes.items j no_mark) k_is

  pub done_reset_by : (k : ℕ) (m : NodeMark) → k ≡ me.node → k < length old.nodes.items
      → m ≡ get_or old.nodes.items k m
      → new.nodes.items ≡ set old.nodes.items k (record m { reset = number + 1 })
      → IsDone pids number (Common (act.Reset me)) None old new
  done_reset_by k m k_is within is nodes =
      let len = kept.nodes_len in
      done_reset (omega arith)
      (nodes ∙ ap (λ j. set old.nodes.items j (record m { reset = number + 1 })) k_is
      ∙ ap (λ (x : NodeMark). set old.nodes.items me.node (record x { reset = number + 1 }))
      (read_mark k m k_is within is))

  pub done_trace_by : (on : Bool) (k : ℕ) (m : NodeMark) → k ≡ me.node
      → k < length old.nodes.items → m ≡ get_or old.nodes.items k m
      → new.nodes.items ≡ set old.nodes.items k (record m { traced = on })
      → IsDone pids number (Common (act.Tracer me on)) None old new
  done_trace_by on k m k_is within is nodes =
      let len = kept.nodes_len in
      done_trace on (omega arith)
      (nodes ∙ ap (λ j. set old.nodes.items j (record m { traced = on })) k_is
      ∙ ap (λ (x : NodeMark). set old.nodes.items me.node (record x { traced = on }))
      (read_mark k m k_is within is))
