-- A send writes its actor's row, and then puts its message, with the stamped token, at the end of
-- the receiver's queue, which may be the actor's own.
use Rattle.std.proofs.Common.{◌≡◌, ℕ, ◌+◌, false, List, [], ◌∷◌, ◌++◌, length, get_or, map, set}
use Rattle.std.proofs.Common.{slice_get, Option, Some, refl, sym, ◌∙◌, ap, subst, arith, inl, inr}
use Rattle.std.proofs.lemmas.Bool.{cases_eq}
use Rattle.std.proofs.lemmas.List.{get_or-set_other, get_or-set_same, get_or_default, length-set}
use Rattle.std.proofs.lemmas.Option.{slice_get_within}
use Rattle.st_core.specs.declared.types.Act.TheVariants as act
use Rattle.st_core.specs.declared.types.Event.{Event}
use Rattle.st_core.specs.declared.types.Kind.TheVariants as kind
use Rattle.st_core.specs.declared.types.Message.{Message}
use Rattle.st_core.specs.declared.types.Pid.{Pid}
use Rattle.st_core.specs.declared.types.Token.{Token}
use Rattle.st_core.specs.Pid.{IsRising}
use Rattle.st_core.specs.Report.{report}
use Rattle.st_core.specs.State.{LocalState, Process, State}
use Rattle.st_core.specs.Step.{reached}
use Rattle.st_core.proofs.ForCallers.{pid_eq-same}
use Rattle.st_mail.specs.Actor.{process_of}
use Rattle.node_machine.specs.Node.{after_stamp, Common, machine_act, NodeAct}
use Rattle.node_check.specs.declared.processes.NodeMark.{NodeMark}
use Rattle.node_check.specs.declared.processes.Processes.{Processes}
use Rattle.node_check.specs.declared.processes.Row.{Row}
use Rattle.node_check.specs.Kept.{is_stale, IsDone, IsFresh, IsRefreshed, kept_state, local_by}
use Rattle.node_check.specs.Kept.{node_mark_of, processes_of, zero_row}
use Rattle.node_check.specs.Steps.{IsStepOnNode}
use Rattle.node_check.proofs.Keeping.{kept_after, ready_at, ready_process, ready_rising}
use Rattle.node_check.proofs.NodeSteps.{step_is}
use Rattle.node_check.proofs.Rows.{fresh_local, fresh_queue, process_by, rows_at, rows_pids}
use Rattle.node_check.proofs.Rows.{rows_set_queue, rows_set_row, written_fresh}
use Rattle.node_check.proofs.States.{found, map_one, pids_in}
use Rattle.node_check.proofs.Traced.{stamp_traced}

-- the message of a send
abbrev pub mail : Pid → ℕ → LocalState → Message
mail p v l = record { from = p; value = v; token = l.token }

module _ {pids : List Pid} {number : ℕ} {old x : Processes} (new : Processes) (place : ℕ) (me : Pid)
    (other : ℕ) (to : Pid) (value : ℕ) (rising : IsRising pids)
    (at : slice_get pids place ≡ Some me) (to_at : slice_get pids other ≡ Some to)
    (ready : IsRefreshed pids number place me old x) (to_fresh : IsFresh x other to) where
  abbrev pub a : NodeAct
  a = Common (act.Send me to value)

  abbrev pub marks : List NodeMark
  marks = x.nodes.items

  abbrev pub row : Row
  row = get_or x.rows.items place zero_row

  abbrev pub stamped : LocalState
  stamped = after_stamp me row.local

  abbrev pub row2 : Row
  row2 = record { local = stamped; written = number }

  abbrev pub rows2 : List Row
  rows2 = set x.rows.items place row2

  rows2_len : length rows2 ≡ length pids
  rows2_len = length-set x.rows.items place row2 ∙ ready.kept.rows_len

  abbrev pub box : List Message
  box = get_or x.queues.boxes other []

  abbrev pub more : List Message
  more = box ++ mail me value stamped ∷ []

  abbrev pub told : Option Event
  told = report row.local.traced kind.Send stamped.token (Some to) value

  -- the state once the actor's row is written
  abbrev pub between : State
  between = processes_of marks pids rows2 x.queues.boxes

  abbrev pub first : Process
  first = ready_process new place me a told rising at refl ready

  first_at : slice_get (kept_state pids x) place ≡ Some first
  first_at = ready_at new place me a told rising at refl ready

  first_rising : IsRising (pids_in (kept_state pids x))
  first_rising = ready_rising new place me a told rising at refl ready

  row_fresh : (q : Pid) → is_stale (node_mark_of marks q) row2 ≡ false
  row_fresh q = written_fresh (node_mark_of marks q) stamped number (ready.kept.reset q.node)

  first_written : between ≡ set (kept_state pids x) place (record first { local = stamped })
  first_written =
      rows_set_row marks pids x.rows.items x.queues.boxes place me row2 ready.kept.rows_len
      ready.kept.queues_len at
      ∙ ap (λ k. set (kept_state pids x) place (record (process_by marks me row2
      (get_or x.queues.boxes place [])) { local = k }))
      (fresh_local (node_mark_of marks me) row2 (row_fresh me)
      (stamp_traced me row.local row.local.token refl ∙ ready.traced))
      ∙ ap (λ b. set (kept_state pids x) place (process_of me stamped b))
      (fresh_queue (node_mark_of marks me) row2 (get_or x.queues.boxes place []) (row_fresh me))

  -- the receiver's row
  abbrev pub to_row : Row
  to_row = get_or rows2 other zero_row

  to_row_fresh : is_stale (node_mark_of marks to) to_row ≡ false
  to_row_fresh = elim (cases_eq other place) [
    | inl same ↦
        let len = ready.kept.rows_len in
        let within = slice_get_within pids place me at in
        ap (λ k. is_stale (node_mark_of marks to) (get_or rows2 k zero_row)) same
        ∙ ap (is_stale (node_mark_of marks to))
        (get_or-set_same x.rows.items place row2 zero_row (omega arith))
        ∙ row_fresh to
    | inr apart ↦
        ap (is_stale (node_mark_of marks to))
        (get_or-set_other x.rows.items place other row2 zero_row apart)
        ∙ to_fresh
  ]

  abbrev pub second : Process
  second = process_of to (local_by (node_mark_of marks to) to_row) box

  second_at : slice_get between other ≡ Some second
  second_at =
      rows_at marks pids rows2 x.queues.boxes other to rows2_len ready.kept.queues_len to_at
      ∙ ap (λ b. Some (process_of to (local_by (node_mark_of marks to) to_row) b))
      (fresh_queue (node_mark_of marks to) to_row box to_row_fresh)

  between_rising : IsRising (pids_in between)
  between_rising =
      subst IsRising (sym (rows_pids marks pids rows2 x.queues.boxes rows2_len
      ready.kept.queues_len)) rising

  abbrev pub reach : Process → Process
  reach = reached (machine_act a) stamped.token

  reaches : map reach between ≡ set between other (record second { queue = more })
  reaches =
      map_one between other second reach between_rising second_at
      (λ y apart. rw apart refl)
      ∙ ap (set between other) (rw (pid_eq-same to) refl)

  module _ (rows : new.rows.items ≡ rows2)
      (queues : new.queues.boxes ≡ set x.queues.boxes other more)
      (nodes : new.nodes.items ≡ marks) where
    after : kept_state pids new ≡ set between other (record second { queue = more })
    after =
        ap (λ ms. processes_of ms pids new.rows.items new.queues.boxes) nodes
        ∙ ap (λ rs. processes_of marks pids rs new.queues.boxes) rows
        ∙ ap (processes_of marks pids rows2) queues
        ∙ rows_set_queue marks pids rows2 x.queues.boxes other to more rows2_len
        ready.kept.queues_len to_at
        ∙ ap (λ b. set between other (process_of to (local_by (node_mark_of marks to) to_row) b))
        (fresh_queue (node_mark_of marks to) to_row more to_row_fresh)

    -- the receiver before the act
    abbrev pub to_first : Process
    to_first = process_by marks to (get_or x.rows.items other zero_row) box

    pub done_send : IsDone pids number a told old new
    done_send =
        let receiver_there = found (kept_state pids x) other to_first first_rising
        (rows_at marks pids x.rows.items x.queues.boxes other to ready.kept.rows_len
        ready.kept.queues_len to_at) in
        let leads : map reach (set (kept_state pids x) place (record first { local = stamped }))
        ≡ kept_state pids new =
        ap (map reach) (sym first_written) ∙ reaches ∙ sym after in
        let step = step_is (kept_state pids x) place first a first_rising first_at refl to_first
        receiver_there (kept_state pids new) leads in
        record {
          step = subst (λ s. IsStepOnNode s a told (kept_state pids new)) ready.same step;
          kept = kept_after (number + 1) new place row2 ready.kept (omega arith)
              (slice_get_within pids place me at) (omega arith) rows
              (ap length queues ∙ length-set x.queues.boxes other more) nodes;
        }

    -- as above, by what the code read and made of it
    pub done_send_by : (e : Option Event) → e ≡ told → IsDone pids number a e old new
    done_send_by e is =
        subst (λ (y : Option Event). IsDone pids number a y old new) (sym is) done_send

  pub sent_rows : (w : Row) (l : LocalState) → w ≡ get_or x.rows.items place w
      → l ≡ after_stamp me w.local → l ≡ stamped
  sent_rows w l is l_is =
      let len = ready.kept.rows_len in
      let within = slice_get_within pids place me at in
      l_is ∙ ap (λ (y : Row). after_stamp me y.local)
      (is ∙ get_or_default x.rows.items place w zero_row (omega arith))

  -- the send is done by what the code read and wrote
  pub sent : (w : Row) (l : LocalState) (t : Option Token) (e : Option Event)
      → w ≡ get_or x.rows.items place w → l ≡ after_stamp me w.local → t ≡ l.token
      → e ≡ report l.traced kind.Send t (Some to) value
      → new.rows.items ≡ set x.rows.items place (record { local = l; written = number })
      → new.queues.boxes
      ≡ set x.queues.boxes other (box ++ record { from = me; value = value; token = t } ∷ [])
      → new.nodes.items ≡ marks → IsDone pids number a e old new
  sent w l t e is l_is t_is e_is rows queues nodes =
      let same = sent_rows w l is l_is in
      let token : t ≡ stamped.token = t_is ∙ ap (λ (k : LocalState). k.token) same in
      let traced : l.traced ≡ row.local.traced =
      ap (λ (k : LocalState). k.traced) same ∙ stamp_traced me row.local row.local.token refl in
      done_send_by
      (rows ∙ ap (λ k. set x.rows.items place (record { local = k; written = number })) same)
      (queues
      ∙ ap (λ (k : Option Token). set x.queues.boxes other
      (box ++ record { from = me; value = value; token = k } ∷ [])) token)
      nodes e
      (e_is ∙ ap (λ k. report k kind.Send t (Some to) value) traced
      ∙ ap (λ k. report row.local.traced kind.Send k (Some to) value) token)
