-- Each turn passes one entry more, which comes after those before.
use Rattle.std.proofs.Common.{◌≡◌, ◌∙◌, ◌++◌, ◌∷◌, [], ℕ, true, List, length, take, drop, map, sym}
use Rattle.std.proofs.Common.{ap}
use Rattle.std.proofs.Common.{subst, arith}
use Rattle.std.specs.Prelude.{All}
use Rattle.std.proofs.lemmas.List.{map-append}
use Rattle.std.proofs.lemmas.List.Elements.{All-nil, All-push}
use Rattle.std.proofs.Math.Seq.{take-append_seam}
use denote.Ref.{Bor}
use Rattle.st_core.specs.Step.{actor}
use Rattle.st_log.specs.declared.entry.Entry.{Entry}
use Rattle.st_log.specs.Entries.{Logged}
use Rattle.st_runtime.specs.Joining.{referred, IsThere}
use Rattle.st_runtime.specs.Pieces.{pids_in}
use Rattle.st_runtime.specs.System.{knows}
use Rattle.st_runtime.specs.Walk.{pids_along, start, Along, IsKeyBefore}
use Rattle.st_runtime.proofs.Walks.{pids_start, pids_stepped, walk_start, walk_more, walk_end}
use Rattle.st_runtime.proofs.Walks.{IsUnderway}
use Rattle.st_runtime.proofs.join.walk.walk.Goals as goal

pub loop-turn-init : goal.loop-turn-init
loop-turn-init g c =
    let xs = c.args.processes.now in
    let cs = c.in_ok-cursors.cursors.items in
    let are : cs ≡ map start xs = c.in_ok-cursors.ensures.cursors in
    let none = c.in_ok-entries.ensures.items in
    let p = c.on.result in (
      subst (λ (refs : List (Bor Logged × ℕ)). IsUnderway xs (map referred refs) cs 0 p) (sym none)
          (subst (λ (along : List Along). IsUnderway xs [] along 0 p) (sym are)
          (walk_start xs 0 p)),
      ap pids_along are ∙ pids_start xs,
      subst (All IsThere) (sym none) (All-nil IsThere),
      c.in_ok-entries.ensures.len,
      omega (arith, c.in_ok-entries.ensures.exact),
    )

pub loop-turn-preserved : goal.loop-turn-preserved
loop-turn-preserved g c =
    let xs = c.args.processes.now in
    let so_far = c.loop-turn.invariant in
    let refs = c.loop-turn.entries.items in
    let es : List Entry = map referred refs in
    let e : Entry = referred c.in-Some.entry in
    let cs = c.loop-turn.cursors.items in
    let ds = c.pass_turn.new.cursors in
    let stepped = rw c.deref_mut.ensures.value at c.in-Some.ensures.stepped in
    let many : length ds ≡ c.loop-turn.cursors.len =
    stepped.even ∙ sym c.loop-turn.cursors.ok.0 in
    let kept : List Along = take c.loop-turn.cursors.len (ds ++ drop (length ds) cs) in
    let back : kept ≡ ds =
    ap (λ n. take n (ds ++ drop (length ds) cs)) (sym many)
    ∙ take-append_seam ds (drop (length ds) cs) in
    let pids : c.deref.result.now ≡ pids_in xs = c.deref.ensures.value ∙ c.in_ok-pids.ensures in
    let known : knows (pids_in xs) e.act ≡ true =
    ap (λ ps. knows ps e.act) (sym pids) ∙ c.in-Some.ensures.known in
    let key = c.key_of-next.result in
    let rank : key.0 ≡ e.rank = c.key_of-next.ensures.rank in
    let whose : key.1 ≡ actor e.act = c.key_of-next.ensures.actor in
    let m = c.loop-turn.last.0 in
    let p = c.loop-turn.last.1 in
    let next : IsKeyBefore m p e.rank (actor e.act) =
    subst (λ q. IsKeyBefore m p e.rank q) whose
    (subst (λ n. IsKeyBefore m p n key.1) rank (c.is_before.ensures c.if-not-is_before.false)) in
    let step : IsUnderway xs (es ++ e ∷ []) ds e.rank (actor e.act) =
    walk_more xs es cs ds m p e so_far.0 stepped known next in
    let items = c.push_reserved.ensures.items in
    let all : map referred c.push_reserved.new.self.items ≡ es ++ e ∷ [] =
    ap (map referred) items ∙ map-append referred refs (c.in-Some.entry ∷ []) in (
      subst (λ ys. IsUnderway xs ys kept key.0 key.1) (sym all)
          (subst (λ along. IsUnderway xs (es ++ e ∷ []) along key.0 key.1) (sym back)
          (subst (λ n. IsUnderway xs (es ++ e ∷ []) ds n key.1) (sym rank)
          (subst (λ q. IsUnderway xs (es ++ e ∷ []) ds e.rank q) (sym whose) step))),
      ap pids_along back ∙ pids_stepped e cs ds stepped ∙ so_far.1,
      subst (All IsThere) (sym items)
          (All-push IsThere refs c.in-Some.entry so_far.2 c.in-Some.ensures.there),
      omega (arith, c.push_reserved.ensures.len, so_far.3),
      omega (arith, c.push_reserved.ensures.capacity, so_far.4),
    )

pub returns-clause-walk : goal.returns-clause-walk
returns-clause-walk g c =
    let xs = c.args.processes.now in
    let ends = rw c.deref-2.ensures.value at (c.are_at_ends.ensures c.if-not-are_at_ends.false) in
    walk_end xs (map referred c.loop-turn.entries.items) c.loop-turn.cursors.items
    c.loop-turn.last.0 c.loop-turn.last.1 c.loop-turn.invariant.0 ends
