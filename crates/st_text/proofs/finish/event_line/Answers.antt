-- Each process before the event's own takes one line, and one for each of its events.
use Rattle.std.proofs.Common.{◌≡◌, ◌+◌, ◌∙◌, ℕ, List, [], drop, get_or, length, sym, ap, arith}
use Rattle.std.proofs.Common.{length-drop}
use Rattle.std.proofs.lemmas.List.{nil_from_length}
use Rattle.st_core.specs.declared.types.Pid.{Pid}
use Rattle.st_core.specs.Pid.{pid_on}
use Rattle.st_core.specs.Run.{Stream}
use Rattle.st_core.specs.Streams.{events_of}
use Rattle.st_text.specs.Parts.Finish.{line_at_place}
use Rattle.st_text.proofs.EventPlaces.{line_ge, line_here, line_later, exact}
use Rattle.st_text.proofs.finish.event_line.Goals as goal

abbrev count_of : List Stream → Pid → ℕ
count_of streams q = length (events_of streams q)

pub loop-p-init : goal.loop-p-init
loop-p-init c =
    λ small. ap (λ (ps : List Pid). line_at_place (count_of c.args.draft.now) 2 ps c.args.pid
    c.args.index)
    (sym c.pids-p-items.ensures.value)

pub returns-then-eq : goal.returns-then-eq
returns-then-eq c = λ small.
    let f = count_of c.args.draft.now in
    let here =
    line_here f c.loop-p.n c.pids-p-items.result.now c.args.pid c.args.index c.loop-p.p-index _
    c.loop-p-test.true
    (sym c.eq.ensures ∙ c.if-eq.true) in
    let at = c.loop-p.invariant small ∙ here in
    exact c.loop-p.n c.args.index _ _ c.saturating_add.ensures c.saturating_add-then-eq.ensures
    (omega (arith, small, at))
    ∙ sym at

pub loop-p-preserved : goal.loop-p-preserved
loop-p-preserved c = λ small.
    let f = count_of c.args.draft.now in
    let later =
    line_later f c.loop-p.n c.pids-p-items.result.now c.args.pid c.args.index c.loop-p.p-index
    (pid_on 0 0)
    c.loop-p-test.true (sym c.eq.ensures ∙ c.if-eq.false) in
    let at = c.loop-p.invariant small ∙ later in
    let count = ap length c.events.ensures.value in
    let fits =
    line_ge f (c.loop-p.n + 1 + f (get_or c.pids-p-items.result.now c.loop-p.p-index (pid_on 0 0)))
    (drop (c.loop-p.p-index + 1) c.pids-p-items.result.now) c.args.pid c.args.index in
    let next =
    exact c.loop-p.n (length c.events.result.now) _ _ c.saturating_add-in-loop-p.ensures
    c.saturating_add-n.ensures
    (omega (arith, small, at, fits, count)) in
    at
    ∙ ap (λ m. line_at_place f m (drop (c.loop-p.p-index + 1) c.pids-p-items.result.now) c.args.pid
    c.args.index)
    (sym (next ∙ ap (λ k. c.loop-p.n + 1 + k) count))

pub returns : goal.returns
returns c = λ small.
    let over : drop c.loop-p.p-index c.pids-p-items.result.now ≡ [] =
    nil_from_length _ (omega (arith, length-drop c.loop-p.p-index c.pids-p-items.result.now)) in
    sym (c.loop-p.invariant small
    ∙ ap (λ (ps : List Pid). line_at_place (count_of c.args.draft.now) c.loop-p.n ps
    c.args.pid c.args.index) over)
