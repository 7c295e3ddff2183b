-- Each addition is needed if that holds process by process, since the marked events of a process
-- are its events with the marks at its place.
use Rattle.std.proofs.Common.{[], ◌≡◌, ℕ, ◌+◌, ◌<◌, ◌≤◌, zero, suc, Bool, false, inl}
use Rattle.std.proofs.Common.{inr, List, ◌∷◌, slice_get, get_or, length, Some}
use Rattle.std.proofs.Common.{sym, ◌∙◌, ap, subst, arith}
use Rattle.std.proofs.lemmas.Option.{none-some, same_Some, slice_get_within}
use Rattle.st_core.specs.declared.types.Pid.{Pid}
use Rattle.st_core.specs.declared.types.Event.{Event}
use Rattle.st_core.specs.Pid.{IsRising}
use Rattle.st_core.specs.Run.{Stream, pids_of}
use Rattle.st_core.specs.Streams.{events_of}
use Rattle.st_pair.specs.Places.{event_at}
use Rattle.st_plan.specs.Marks.{all_streams, Marked}
use Rattle.lack_laws.specs.Needs.{marked_of}
use Rattle.lack_needs.specs.Additions.{AreAdditionsNeeded, IsNeeded, Receives, Sends}
use Rattle.lack_needs.specs.Completions.{marked_with, wholes_with}
use Rattle.lack_laws.proofs.ForCallers.{event_of_mark, events_all}
use Rattle.lack_needs.proofs.ForCallers.{all_kept, marked_kept}
use Rattle.lack_decide.specs.Needed.{AreNeeded, AsReceive, AsSend, IsNeededAmong}
use Rattle.lack_decide.proofs.Linked.{place_with}

-- MARKS

-- a marked event has the event and the mark at its index, and back
marked_at : (es : List Event) (bs : List Bool) (i : ℕ) (m : Marked)
    → slice_get (marked_with es bs) i ≡ Some m
    → (slice_get es i ≡ Some m.event) × (get_or bs i false ≡ m.told)
marked_at [] bs i m at = absurd (none-some m at)
marked_at (e ∷ es) [] zero m at =
    let same = same_Some _ m at in
    (ap (λ (x : Marked). Some x.event) same, ap (λ (x : Marked). x.told) same)
marked_at (e ∷ es) (b ∷ bs) zero m at =
    let same = same_Some _ m at in
    (ap (λ (x : Marked). Some x.event) same, ap (λ (x : Marked). x.told) same)
marked_at (e ∷ es) [] (suc i) m at = marked_at es [] i m at
marked_at (e ∷ es) (b ∷ bs) (suc i) m at = marked_at es bs i m at

at_marked : (es : List Event) (bs : List Bool) (i : ℕ) (e : Event) → slice_get es i ≡ Some e
    → slice_get (marked_with es bs) i ≡ Some (record { event = e; told = get_or bs i false })
at_marked [] bs i e at = absurd (none-some e at)
at_marked (d ∷ es) [] zero e at =
    ap (λ (x : Event). Some (record { event = x; told = false })) (same_Some d e at)
at_marked (d ∷ es) (b ∷ bs) zero e at =
    ap (λ (x : Event). Some (record { event = x; told = b })) (same_Some d e at)
at_marked (d ∷ es) [] (suc i) e at = at_marked es [] i e at
at_marked (d ∷ es) (b ∷ bs) (suc i) e at = at_marked es bs i e at

-- ONE PROCESS

-- an event that is needed among events and marks is needed among the marked events
needed_marked : (streams : List Stream) (es : List Event) (bs : List Bool) (i : ℕ) (e : Event)
    → IsNeededAmong streams es bs i e → IsNeeded streams (marked_with es bs) i e
needed_marked streams es bs i e (AsSend sends received) = Sends sends received
needed_marked streams es bs i e (AsReceive receives (inl next)) =
    Receives receives (inl (record {
      next = record { event = next.event; told = get_or bs (i + 1) false };
      at = at_marked es bs (i + 1) next.event next.at;
      stamps = next.stamps;
      prev = next.prev;
    }))
needed_marked streams es bs i e (AsReceive receives (inr behind)) =
    Receives receives (inr (λ k m less at. sym (marked_at es bs k m at).1 ∙ behind k less))

-- ALL PROCESSES

-- the additions to the first n processes are needed
abbrev pub AllNeeded : List Stream → List (List Bool) → ℕ → Type 0
AllNeeded streams lists n = (k : ℕ) (p : Pid) → k < n → slice_get (pids_of streams) k ≡ Some p
    → AreNeeded streams (events_of streams p) (get_or lists k [])

listed_at : (streams : List Stream) (lists : List (List Bool)) (p : Pid) (i : ℕ) (m : Marked)
    → slice_get (marked_of (wholes_with streams lists) p) i ≡ Some m
    → (k : ℕ) × (slice_get (pids_of streams) k ≡ Some p)
listed_at streams lists p i m at =
    let wholes = wholes_with streams lists in
    place_with streams p i m.event
    (ap (λ xs. event_at xs p i) (sym (all_kept streams lists))
    ∙ ap (λ es. slice_get es i) (events_all wholes p)
    ∙ event_of_mark (marked_of wholes p) i m at)

pub additions_needed : (streams : List Stream) (lists : List (List Bool)) (n : ℕ)
    → IsRising (pids_of streams) → length (pids_of streams) ≤ n → AllNeeded streams lists n
    → AreAdditionsNeeded (wholes_with streams lists)
additions_needed streams lists n rising all needed = λ p i m at added.
    let listed = listed_at streams lists p i m at in
    let k = listed.0 in
    let es = events_of streams p in
    let bs = get_or lists k [] in
    let within = slice_get_within (pids_of streams) k p listed.1 in
    let is = marked_kept streams lists k p rising listed.1 in
    let here = marked_at es bs i m (sym (ap (λ ms. slice_get ms i) is) ∙ at) in
    let there = needed k p (omega (arith, within, all)) listed.1 i m.event here.0
    (here.1 ∙ added) in
    subst (λ ms. IsNeeded (all_streams (wholes_with streams lists)) ms i m.event) (sym is)
    (subst (λ xs. IsNeeded xs (marked_with es bs) i m.event) (sym (all_kept streams lists))
    (needed_marked streams es bs i m.event there))
