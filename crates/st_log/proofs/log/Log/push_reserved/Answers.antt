-- The new row says the whole entry, or the place of the rest, which was just appended.
use Rattle.std.proofs.Common.{◌≡◌, ◌<◌, ◌+◌, ◌-◌, ◌∙◌, ap, ◌++◌, ◌∷◌, [], sym, subst, arith}
use Rattle.st_log.specs.Entries.{Logged}
use Rattle.st_log.proofs.RowLemmas.{entries_pushed, log_pushed}
use Rattle.st_log.proofs.log.Log.push_reserved.Goals as goal

pub keep_content-content-requires : goal.keep_content-content-requires
keep_content-content-requires c =
    let inside = c.self.inside in
    let log = c.self.invariant in
    let spare : 0 < inside.reserved =
    subst (λ n. 0 < n) (ap (λ (log : Logged). log.spare) (sym c.self.view_is))
    c.requires in
    record {
      call_room = omega (arith, spare, log.calls_fit);
      traced_room = omega (arith, spare, log.traced_fit);
      traced_place = omega (arith, spare, log.traced_places_fit);
      apart_room = omega (arith, spare, log.apart_fit);
      apart_place = omega (arith, spare, log.places_fit);
    }

pub invariant_of-self : goal.invariant_of-self
invariant_of-self c =
    let inside = c.self.inside in
    let kept = c.keep_content-content in
    let spare : 0 < inside.reserved =
    subst (λ n. 0 < n) (ap (λ (log : Logged). log.spare) (sym c.self.view_is))
    c.requires in
    let fewer : inside.reserved ≡ (inside.reserved - 1) + 1 = omega (arith, spare) in
    rw (c.push_reserved.ensures.capacity, kept.ensures.capacity, kept.ensures.traced_capacity)
    (log_pushed inside.rows.items c.push_reserved.new.self.items inside.calls kept.new.calls
    inside.traced.items
    kept.new.traced.items inside.apart.items kept.new.apart.items kept.result c.args.entry.now _ _ _
    inside.reserved
    (inside.reserved - 1) c.self.invariant kept.ensures.calls kept.ensures.spare kept.ensures.traced
    kept.ensures.apart
    kept.ensures.placed c.push_reserved.ensures.items fewer)

pub returns-clause-entries : goal.returns-clause-entries
returns-clause-entries c =
    let inside = c.self.inside in
    let kept = c.keep_content-content in
    let e = c.args.entry.now in
    entries_pushed inside.rows.items c.push_reserved.new.self.items inside.calls.calls
    kept.new.calls.calls
    inside.traced.items kept.new.traced.items inside.apart.items kept.new.apart.items kept.result e
    c.self.invariant.placed kept.ensures.calls kept.ensures.traced kept.ensures.apart
    kept.ensures.says
    c.push_reserved.ensures.items
    ∙ ap (λ (log : Logged). log.entries ++ e ∷ []) c.self.view_is
