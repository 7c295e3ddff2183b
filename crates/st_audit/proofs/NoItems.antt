-- Without items there are no events, so the checker accepts an empty list of acts: no event is
-- left, and no act can stop.
use Rattle.std.proofs.Common.{◌≡◌, ℕ, ◌+◌, ◌<◌, nat_lt, true, false, cond, List, [], ◌∷◌, ◌++◌}
use Rattle.std.proofs.Common.{length, find, None, refl, sym, ◌∙◌, arith}
use Rattle.std.specs.List.{AllByRecursion}
use Rattle.std.proofs.lemmas.Option.{none-some}
use Rattle.st_core.specs.declared.types.Pid.{Pid}
use Rattle.st_core.specs.declared.types.Event.{Event}
use Rattle.st_core.specs.Step.{Outcome}
use Rattle.st_core.specs.Run.{Stream, stream}
use Rattle.st_core.specs.Verdict as verdicts
use Rattle.st_order.specs.declared.item.Item.TheVariants as item
use Rattle.st_order.specs.Items.{is_hidden, items, items_among, items_from}
use Rattle.st_order.specs.Order.{IsOrder}
use Rattle.st_order.proofs.ForCallers.{all_left, all_right, members, Among}
use Rattle.std.proofs.lemmas.List.Sorted.{IsPermutation-sym}
use Rattle.st_audit.specs.Findings.{IsNo}

no_events : (all : List Stream) (p : Pid) (i : ℕ) (es : List Event)
    → AllByRecursion (λ z. Among z []) (items_from all p i es) → es ≡ []
no_events all p i [] h = refl
no_events all p i (e ∷ es) h =
    absurd (elim (is_hidden all e) as (λ b. AllByRecursion (λ z. Among z [])
    ((cond b (item.Hidden p i ∷ item.Reported p i ∷ []) (item.Reported p i ∷ []))
    ++ items_from all p (i + 1) es)
    → ⊥) [ true ↦ λ h. h.0 | false ↦ λ h. h.0 ] h)

none_left : (all some : List Stream) (os : List Outcome)
    → AllByRecursion (λ z. Among z []) (items_among all some)
    → find (λ x. nat_lt (length (stream [] os x.pid)) (length x.events)) some ≡ None
none_left all [] os h = refl
none_left all (s ∷ some) os h =
    let first = items_from all s.pid 0 s.events in
    let empty = no_events all s.pid 0 s.events
    (all_left (λ z. Among z []) first (items_among all some) h) in
    rw empty (none_left all some os (all_right (λ z. Among z []) first (items_among all some) h))

pub accepts_nothing : (top : ℕ) (streams : List Stream) (v : verdicts.Verdict) → IsOrder streams []
    → verdicts.IsVerdict top streams [] v → IsNo v → ⊥
accepts_nothing top streams (verdicts.Stuck n) order is refused =
    absurd (let within : n < 0 = is.0 in omega arith)
accepts_nothing top streams (verdicts.Differs n) order is refused =
    absurd (let within : n < 0 = is.0 in omega arith)
accepts_nothing top streams (verdicts.Left p) order is refused =
    let none = none_left streams streams is.0
    (members [] (items streams) (IsPermutation-sym (items streams) [] order.same)) in
    none-some is.2 (sym none ∙ is.3)
accepts_nothing top streams (verdicts.Yes ps) order is refused = refused
