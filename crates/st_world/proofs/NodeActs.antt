-- An act on a node is the definition's: a reset changes the listed processes of the node, and its
-- others are clean; a tracer change sets the mark of the node, which is that of each of its
-- processes.
use Rattle.std.proofs.Common.{◌≡◌, ◌≢◌, ℕ, ◌<◌, ◌==◌, Bool, true, false, if◌then◌else◌, List}
use Rattle.std.proofs.Common.{length, map, get_or, Some}
use Rattle.std.proofs.Common.{None, inl, inr, position, refl, sym, ◌∙◌, ap, subst, arith}
use Rattle.std.proofs.lemmas.Bool.{cases_eq, eq-eqb, eqb-true, false≢true}
use Rattle.std.proofs.lemmas.List.{get_or_default}
use Rattle.std.proofs.lemmas.List.Quantifiers.{position-Some}
use Rattle.st_core.specs.declared.types.Pid.{Pid}
use Rattle.st_core.specs.declared.types.Message.{Message}
use Rattle.st_core.specs.declared.types.Act.TheVariants as act
use Rattle.st_core.specs.declared.types.Reply.{Reply}
use Rattle.st_core.specs.declared.types.Reply.TheVariants as reply
use Rattle.st_core.specs.Pid.{pid_eq}
use Rattle.st_core.specs.State.{LocalState, State, zero_local}
use Rattle.st_core.specs.Step.{reached, step}
use Rattle.st_core.proofs.ForCallers.{pid_eq-true}
use Rattle.st_mail.specs.declared.outcome.Outcome.{Outcome as Told}
use Rattle.st_world.specs.Nodes.{Groups, tracers, traced_at, are_traced, flagged, AreByNode}
use Rattle.st_world.specs.Nodes.{IsClean, IsListed, IsCleanOrListed}
use Rattle.st_world.specs.Rows.{state_of, AreKept}
use Rattle.st_world.specs.World.{outcome_to}
use Rattle.st_world.proofs.Answering.{rows_after}
use Rattle.st_world.proofs.Kept.{flag_at, length-flagged, length-flags, marked_at, marks_len}
use Rattle.st_world.proofs.Kept.{reset_flagged, same_flags, trace_flagged}
use Rattle.st_world.proofs.RowLemmas.{number_within}
use Rattle.st_world.proofs.Steps.{step_node}

-- the outcome of an act on a node, which has only a reply
abbrev pub told_of : Reply → Told
told_of y = record { reply = y; report = None; place = None }

module _ (top : ℕ) (ps : List Pid) (g : Groups) (raw : List LocalState) (bs : List (List Message))
    (kept : AreKept top ps g raw bs) (me : Pid) (i : ℕ)
    (at : position (λ p. pid_eq p me) ps ≡ Some i) (h : Groups)
    (places : h.places ≡ g.places) where
  abbrev Locals : List LocalState
  Locals = flagged (are_traced g) raw

  pub own_pid : me ≡ get_or ps i me
  own_pid = sym (pid_eq-true (get_or ps i me) me (position-Some (λ p. pid_eq p me) ps i me at).1)

  pub within : i < length ps
  within = number_within ps me i at

  -- the actor's row in the state, read with itself as the default
  pub actor_at : get_or (flagged (are_traced g) raw) i zero_local
      ≡ get_or (flagged (are_traced g) raw) i (get_or (flagged (are_traced g) raw) i zero_local)
  actor_at =
      get_or_default (flagged (are_traced g) raw) i zero_local
      (get_or (flagged (are_traced g) raw) i zero_local)
      (omega (arith, within, kept.rows.aligned.locals_len))

  flags_len : length (are_traced h) ≡ length ps
  flags_len = length-flags h ∙ ap length places ∙ kept.by_node.len

  by_places : AreByNode ps h.places
  by_places = subst (AreByNode ps) (sym places) kept.by_node

  -- A RESET

  module _ (same : tracers h ≡ tracers g) (ls2 : List LocalState) (bs2 : List (List Message))
      (locals_len : length ls2 ≡ length raw) (queues_len : length bs2 ≡ length ps)
      (reset : state_of ps ls2 bs2 ≡ map (reached (act.Reset me) None) (state_of ps raw bs)) where
    whole_reset : state_of ps (flagged (are_traced h) ls2) bs2
        ≡ map (reached (act.Reset me) None) (state_of ps (flagged (are_traced g) raw) bs)
    whole_reset =
        ap (λ fs. state_of ps (flagged fs ls2) bs2) (same_flags g h places same)
        ∙ reset_flagged me ps (are_traced g) raw ls2 bs bs2
        (marks_len top ps g raw bs kept ∙ kept.locals_len) kept.locals_len
        (locals_len ∙ kept.locals_len) kept.rows.aligned.queues_len queues_len reset

    pub reset_step : step top (state_of ps (flagged (are_traced g) raw) bs) (act.Reset me)
        ≡ Some (outcome_to (told_of reply.Done) (state_of ps (flagged (are_traced h) ls2) bs2))
    reset_step =
        step_node top ps Locals bs kept.rows.aligned (act.Reset me) i (get_or Locals i zero_local)
        reply.Done refl
        (λ t x. refl) at actor_at refl
        ∙ ap (λ (x : State). Some (outcome_to (told_of reply.Done) x)) (sym whole_reset)

    pub reset_kept : ((j : ℕ) → j < length ps → IsCleanOrListed h ls2 bs2 j)
        → AreKept top ps h ls2 bs2
    reset_kept listed = record {
      rows =
          rows_after top ps Locals (flagged (are_traced h) ls2) bs bs2 (act.Reset me)
          (told_of reply.Done) kept.rows
          (length-flagged (are_traced h) ls2 (flags_len ∙ sym (locals_len ∙ kept.locals_len))
          ∙ locals_len
          ∙ kept.locals_len
          ∙ sym kept.rows.aligned.locals_len)
          (queues_len ∙ sym kept.rows.aligned.queues_len) reset_step;
      locals_len = locals_len ∙ kept.locals_len;
      by_node = by_places;
      listed = listed;
    }

  -- after the reset, each process is clean or listed
  pub reset_listed : (ls2 : List LocalState) (bs2 : List (List Message))
      → ((j : ℕ) → j < length g.places → get_or g.places j 0 ≡ get_or g.places i 0
      → IsCleanOrListed g raw bs j → IsClean ls2 bs2 j)
      → ((j : ℕ) → IsClean raw bs j → IsClean ls2 bs2 j)
      → ((j : ℕ) → get_or g.places j 0 ≢ get_or g.places i 0 → IsListed g j → IsListed h j)
      → (j : ℕ) → j < length ps → IsCleanOrListed h ls2 bs2 j
  reset_listed ls2 bs2 wiped clean listed j below =
      elim (cases_eq (get_or g.places j 0) (get_or g.places i 0)) [
        | inl e ↦ inl (wiped j (omega (arith, below, kept.by_node.len)) e (kept.listed j below))
        | inr other ↦ elim (kept.listed j below) [
          | inl old ↦ inl (clean j old)
          | inr old ↦ inr (listed j other old)
        ]
      ]

  -- A TRACER CHANGE

  module _ (on : Bool)
      (here : (j : ℕ) → get_or g.places j 0 ≡ get_or g.places i 0 → traced_at h j ≡ on)
      (elsewhere : (j : ℕ) → get_or g.places j 0 ≢ get_or g.places i 0
      → traced_at h j ≡ traced_at g j) where
    marks : (j : ℕ) → j < length ps
        → get_or (are_traced h) j false ≡
        (if (get_or ps j me).node == me.node then on else get_or (are_traced g) j false)
    marks j below = by ((get_or ps j me).node == me.node) refl
      where
        new : get_or (are_traced h) j false ≡ traced_at h j
        new = flag_at h j false (omega (arith, below, by_places.len))

        old : get_or (are_traced g) j false ≡ traced_at g j
        old = flag_at g j false (omega (arith, below, kept.by_node.len))

        by : (t : Bool) → ((get_or ps j me).node == me.node) ≡ t
            → get_or (are_traced h) j false ≡ (if t then on else get_or (are_traced g) j false)
        by true e =
            let node : (get_or ps j me).node ≡ me.node = eqb-true (get_or ps j me).node me.node e in
            new ∙ here j (kept.by_node.same j i me below within
            (node ∙ ap (λ (p : Pid). p.node) own_pid))
        by false e =
            new
            ∙ elsewhere j (λ same.
            let node = kept.by_node.apart j i me below within same
            ∙ ap (λ (p : Pid). p.node) (sym own_pid) in
            absurd (false≢true (sym e ∙ eq-eqb (get_or ps j me).node me.node node)))
            ∙ sym old

    whole_trace : state_of ps (flagged (are_traced h) raw) bs
        ≡ map (reached (act.Tracer me on) None) (state_of ps (flagged (are_traced g) raw) bs)
    whole_trace =
        trace_flagged me on ps (are_traced g) (are_traced h) raw bs
        (marks_len top ps g raw bs kept ∙ kept.locals_len) flags_len
        marks

    pub trace_step : (was : Bool) → was ≡ traced_at g i
        → step top (state_of ps (flagged (are_traced g) raw) bs) (act.Tracer me on)
        ≡ Some (outcome_to (told_of (reply.Was was)) (state_of ps (flagged (are_traced h) raw) bs))
    trace_step was is =
        let l : LocalState = get_or raw i zero_local in
        let el : l ≡ get_or raw i l =
        get_or_default raw i zero_local l (omega (arith, within, kept.locals_len)) in
        let marked = marked_at top ps g raw bs kept me i at l el in
        rw is
        (step_node top ps Locals bs kept.rows.aligned (act.Tracer me on) i
        (let x : LocalState = record l { traced = traced_at g i } in x) (reply.Was (traced_at g i))
        refl (λ t x. refl)
        at marked refl
        ∙ ap (λ (x : State). Some (outcome_to (told_of (reply.Was (traced_at g i))) x))
        (sym whole_trace))

    pub trace_kept : (was : Bool) → was ≡ traced_at g i → ((j : ℕ) → IsListed g j → IsListed h j)
        → AreKept top ps h raw bs
    trace_kept was is listed = record {
      rows =
          rows_after top ps Locals (flagged (are_traced h) raw) bs bs (act.Tracer me on)
          (told_of (reply.Was was)) kept.rows
          (length-flagged (are_traced h) raw (flags_len ∙ sym kept.locals_len)
          ∙ kept.locals_len
          ∙ sym kept.rows.aligned.locals_len)
          refl (trace_step was is);
      locals_len = kept.locals_len;
      by_node = by_places;
      listed = λ j below. elim (kept.listed j below) [
        | inl clean ↦ inl clean
        | inr old ↦ inr (listed j old)
      ];
    }
