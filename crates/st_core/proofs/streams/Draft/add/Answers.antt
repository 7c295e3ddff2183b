-- The list at the process's place is the process's stream, and nothing else changes.
use Rattle.std.proofs.Common.{sym, ◌∙◌, ap, is_some}
use Rattle.std.proofs.lemmas.List.{with_items_is}
use Rattle.st_core.proofs.Collections.{stream_of-missing, stream_of-found, place_within, added_at}
use Rattle.st_core.proofs.Collections.{IsCollected-added}
use Rattle.st_core.proofs.streams.Draft.add.Goals as goal

pub returns-in_default-clause-fault : goal.returns-in_default-clause-fault
returns-in_default-clause-fault c =
    let none = rw c.deref.ensures.value at c.in_default.ensures.missing in
    rw (← c.self.view_is) (ap is_some (stream_of-missing _ _ _ none))

pub returns-then-not-is_own-clause-fault : goal.returns-then-not-is_own-clause-fault
returns-then-not-is_own-clause-fault c =
    let at = rw c.deref.ensures.value at c.in-Some.ensures.found in (
      rw (← c.self.view_is) (ap is_some
          (stream_of-found _ _ _ _ c.self.invariant.even c.self.invariant.rising at)),
      sym c.is_own.ensures
          ∙ c.if-not-is_own.true,
    )

pub returns-in_default-checked_add-clause-fault : goal.returns-in_default-checked_add-clause-fault
returns-in_default-checked_add-clause-fault c =
    let at = rw c.deref.ensures.value at c.in-Some.ensures.found in (
      rw (← c.self.view_is) (ap is_some
          (stream_of-found _ _ _ _ c.self.invariant.even c.self.invariant.rising at)),
      sym c.is_own.ensures
          ∙ c.if-not-is_own.false,
    )

pub push_at-requires : goal.push_at-requires
push_at-requires c =
    let at = rw c.deref.ensures.value at c.in-Some.ensures.found in
    let within = place_within _ _ _ at in
    rw (c.deref_mut.ensures.value, c.self.invariant.even) within

pub returns-in_default-push_at-clause-fault : goal.returns-in_default-push_at-clause-fault
returns-in_default-push_at-clause-fault c =
    let at = rw c.deref.ensures.value at c.in-Some.ensures.found in (
      rw (← c.self.view_is) (ap is_some
          (stream_of-found _ _ _ _ c.self.invariant.even c.self.invariant.rising at)),
      sym c.is_own.ensures
          ∙ c.if-not-is_own.false,
    )

pub invariant_of-self-2 : goal.invariant_of-self-2
invariant_of-self-2 c =
    let at = rw c.deref.ensures.value at c.in-Some.ensures.found in
    let new = rw c.deref_mut.ensures.value at c.in-Ok.ensures.ok in
    let items =
    with_items_is c.self.inside.events c.push_at.new.events
    (c.push_at.auto.events ∙ c.deref_mut.ensures.len) in
    let own = sym c.is_own.ensures ∙ c.if-not-is_own.false in
    rw (items, new, c.in-Some-checked_add.ensures.1)
    (IsCollected-added _ _ _ _ c.args.event _ c.self.invariant at own)

pub returns-clause-ok : goal.returns-clause-ok
returns-clause-ok c =
    let at = rw c.deref.ensures.value at c.in-Some.ensures.found in
    let new = rw c.deref_mut.ensures.value at c.in-Ok.ensures.ok in
    let items =
    with_items_is c.self.inside.events c.push_at.new.events
    (c.push_at.auto.events ∙ c.deref_mut.ensures.len) in
    rw (items, new, ← c.self.view_is)
    (sym (added_at _ _ _ c.args.event _ c.self.invariant.even c.self.invariant.rising at))

pub returns-clause-listed : goal.returns-clause-listed
returns-clause-listed c =
    let at = rw c.deref.ensures.value at c.in-Some.ensures.found in
    rw (← c.self.view_is) (ap is_some
    (stream_of-found _ _ _ _ c.self.invariant.even c.self.invariant.rising at))
