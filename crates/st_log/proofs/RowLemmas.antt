-- Rows and the lists that they refer to are only appended, so each row keeps its entry.
use Rattle.std.proofs.Common.{◌≡◌, ℕ, ◌+◌, ◌-◌, List, [], ◌∷◌, ◌++◌, length, Some, refl, sym, ap}
use Rattle.std.proofs.Common.{◌∙◌, arith, suc, ◌≤◌, ⊎_elim, subst}
use Rattle.std.specs.Prelude.{slice_get, slice_index_or}
use Rattle.std.proofs.lemmas.List.{append-nil, get_or_append_left, length-append, map-append}
use Rattle.st_core.specs.declared.types.Act.{Act}
use Rattle.st_core.specs.declared.types.Reply.{Reply}
use Rattle.st_log.specs.declared.entry.Entry.{Entry}
use Rattle.st_log.specs.declared.row.LogRow.{LogRow}
use Rattle.st_log.specs.declared.row.Content.{Content}
use Rattle.st_log.specs.declared.row.Content.TheVariants as content
use Rattle.st_log.specs.declared.row.Unranked.{Unranked}
use Rattle.st_log.specs.declared.traced_act.TracedAct.{TracedAct}
use Rattle.st_log.specs.Briefs.{call_at, no_call}
use Rattle.st_log.specs.CallList.{CallList}
use Rattle.st_log.specs.Entries.{last_rank}
use Rattle.st_log.specs.Rows.{of_call, without_rank_in, row_entry, entries_of, nowhere}
use Rattle.st_log.specs.Rows.{HavePlaces, HasGrown, HasPlace, IsLog}
use Rattle.st_log.specs.TracedActs.{no_traced, traced_rest, with_rank, without_rank}

-- ---- lists that have grown

-- the second list begins with the first
abbrev Begins : {T : Type 0} → List T → List T → Type 0
Begins {T} xs xs' = (ys : List T) × (xs' ≡ xs ++ ys)

begins : {T : Type 0} (xs xs' : List T) → HasGrown xs xs' → Begins xs xs'
begins xs xs' grown =
    ⊎_elim (λ same. ([], same ∙ sym (append-nil xs))) (λ more. (more.0 ∷ [], more.1)) grown

begins_length : {T : Type 0} (xs xs' : List T) → Begins xs xs' → length xs ≤ length xs'
begins_length {T} xs xs' more =
    let long : length xs' ≡ length xs + length more.0 =
    ap (λ (zs : List T). length zs) more.1 ∙ length-append xs more.0 in
    omega (arith, long)

grown_length : {T : Type 0} (xs xs' : List T) → HasGrown xs xs' → length xs' ≤ length xs + 1
grown_length {T} xs xs' grown =
    ⊎_elim (λ same. let long = ap (λ (zs : List T). length zs) same in omega (arith, long))
    (λ more.
    let long : length xs' ≡ length xs + 1 = ap (λ (zs : List T). length zs) more.1
    ∙ length-append xs (more.0 ∷ []) in omega (arith, long)) grown

-- ---- the lists that rows refer to

-- the lists that rows refer to: calls, acts under a token, and entries that are kept apart
record Beside : Type 0 where
  calls : List (Act × Reply)
  traced : List TracedAct
  apart : List Unranked

-- each list of b' begins with that of b
record AllBegin (b b' : Beside) : Type 0 where
  calls : Begins b.calls b'.calls
  traced : Begins b.traced b'.traced
  apart : Begins b.apart b'.apart

stays : (b b' : Beside) (c : Content) → AllBegin b b'
    → HasPlace (length b.calls) (length b.traced) (length b.apart) c
    → without_rank_in b'.calls b'.traced b'.apart c ≡ without_rank_in b.calls b.traced b.apart c
stays b b' (content.Reset p) more placed = refl
stays b b' (content.Tracer p on was) more placed = refl
stays b b' (content.Call i) more placed =
    ap (λ xs. of_call (call_at xs i)) more.calls.1
    ∙ ap of_call (get_or_append_left b.calls more.calls.0 no_call i placed)
stays b b' (content.Traced i) more placed =
    ap (λ xs. traced_rest (slice_index_or xs i no_traced)) more.traced.1
    ∙ ap traced_rest (get_or_append_left b.traced more.traced.0 no_traced i placed)
stays b b' (content.Apart i) more placed =
    ap (λ xs. slice_index_or xs i nowhere) more.apart.1
    ∙ get_or_append_left b.apart more.apart.0 nowhere i placed

-- each list of b is at most as long as that of b'
record AllAtMost (b b' : Beside) : Type 0 where
  calls : length b.calls ≤ length b'.calls
  traced : length b.traced ≤ length b'.traced
  apart : length b.apart ≤ length b'.apart

all_at_most : (b b' : Beside) → AllBegin b b' → AllAtMost b b'
all_at_most b b' more = record {
  calls = begins_length b.calls b'.calls more.calls;
  traced = begins_length b.traced b'.traced more.traced;
  apart = begins_length b.apart b'.apart more.apart;
}

stays_placed : (b b' : Beside) (c : Content) → AllAtMost b b'
    → HasPlace (length b.calls) (length b.traced) (length b.apart) c
    → HasPlace (length b'.calls) (length b'.traced) (length b'.apart) c
stays_placed b b' (content.Reset p) more placed = tt
stays_placed b b' (content.Tracer p on was) more placed = tt
stays_placed b b' (content.Call i) more placed = let most = more.calls in
    omega (arith, placed, most)
stays_placed b b' (content.Traced i) more placed = let most = more.traced in
    omega (arith, placed, most)
stays_placed b b' (content.Apart i) more placed = let most = more.apart in
    omega (arith, placed, most)

-- each place that a row says is in its list
abbrev FitBeside : Beside → List LogRow → Type 0
FitBeside b rows = HavePlaces (length b.calls) (length b.traced) (length b.apart) rows

-- the entries that rows stand for
abbrev entries_beside : Beside → List LogRow → List Entry
entries_beside b rows = entries_of b.calls b.traced b.apart rows

entries_stay : (b b' : Beside) (rows : List LogRow) → AllBegin b b' → FitBeside b rows
    → entries_beside b' rows ≡ entries_beside b rows
entries_stay b b' [] more placed = refl
entries_stay b b' (r ∷ rows) more placed =
    let first : row_entry b'.calls b'.traced b'.apart r ≡ row_entry b.calls b.traced b.apart r =
    ap (with_rank r.rank) (stays b b' r.content more placed.0) in
    let rest = entries_stay b b' rows more placed.1 in
    λ i. first i ∷ rest i

placed_stay : (b b' : Beside) (rows : List LogRow) → AllAtMost b b' → FitBeside b rows
    → FitBeside b' rows
placed_stay b b' [] more placed = tt
placed_stay b b' (r ∷ rows) more placed =
    (stays_placed b b' r.content more placed.0, placed_stay b b' rows more placed.1)

-- ---- one more row

placed_push : (b : Beside) (rows : List LogRow) (r : LogRow) → FitBeside b rows
    → HasPlace (length b.calls) (length b.traced) (length b.apart) r.content
    → FitBeside b (rows ++ r ∷ [])
placed_push b [] r placed one = (one, tt)
placed_push b (x ∷ rows) r placed one = (placed.0, placed_push b rows r placed.1 one)

-- ---- both

-- each list that rows refer to has grown by at most one item
record HaveGrown (calls calls' : List (Act × Reply)) (traced traced' : List TracedAct)
    (apart apart' : List Unranked)
    : Type 0 where
  pub calls_grown : HasGrown calls calls'
  pub traced_grown : HasGrown traced traced'
  pub apart_grown : HasGrown apart apart'

all_begin : (calls calls' : List (Act × Reply)) (traced traced' : List TracedAct)
    (apart apart' : List Unranked)
    → HaveGrown calls calls' traced traced' apart apart'
    → AllBegin (record { calls = calls; traced = traced; apart = apart })
    (record { calls = calls'; traced = traced'; apart = apart' })
all_begin calls calls' traced traced' apart apart' grown = record {
  calls = begins calls calls' grown.calls_grown;
  traced = begins traced traced' grown.traced_grown;
  apart = begins apart apart' grown.apart_grown;
}

-- the entries after a push
pub entries_pushed : (rows rows' : List LogRow) (calls calls' : List (Act × Reply))
    (traced traced' : List TracedAct)
    (apart apart' : List Unranked) (c : Content) (e : Entry)
    → HavePlaces (length calls) (length traced) (length apart) rows
    → HasGrown calls calls' → HasGrown traced traced' → HasGrown apart apart'
    → without_rank_in calls' traced' apart' c ≡ without_rank e
    → rows' ≡ rows ++ record { rank = e.rank; content = c } ∷ []
    → entries_of calls' traced' apart' rows' ≡ entries_of calls traced apart rows ++ e ∷ []
entries_pushed rows rows' calls calls' traced traced' apart apart' c e placed more_calls more_traced
    more_apart says
    more =
    let r : LogRow = record { rank = e.rank; content = c } in
    let last : row_entry calls' traced' apart' r ≡ e = ap (with_rank e.rank) says in
    let old = entries_stay _ _ rows (all_begin calls calls' traced traced' apart apart'
    (record { calls_grown = more_calls; traced_grown = more_traced; apart_grown = more_apart }))
    placed in
    ap (entries_of calls' traced' apart') more ∙ map-append (row_entry calls' traced' apart') rows
    (r ∷ [])
    ∙ (λ i. old i ++ last i ∷ [])

-- the invariant holds after a push
pub log_pushed : (rows rows' : List LogRow) (kept kept' : CallList)
    (traced traced' : List TracedAct)
    (apart apart' : List Unranked) (c : Content) (e : Entry)
    (row_room traced_room apart_room n m : ℕ)
    → IsLog rows kept traced apart row_room traced_room apart_room n
    → HasGrown kept.calls kept'.calls → kept.spare ≤ kept'.spare + 1
    → HasGrown traced traced' → HasGrown apart apart'
    → HasPlace (length kept'.calls) (length traced') (length apart') c
    → rows' ≡ rows ++ record { rank = e.rank; content = c } ∷ [] → n ≡ m + 1
    → IsLog rows' kept' traced' apart' row_room traced_room apart_room m
log_pushed rows rows' kept kept' traced traced' apart apart' c e row_room traced_room apart_room n m
    is more_calls spare
    more_traced more_apart placed more fewer =
    let r : LogRow = record { rank = e.rank; content = c } in
    let long : length rows' ≡ length rows + 1 =
    ap (λ (xs : List LogRow). length xs) more ∙ length-append rows (r ∷ []) in
    let at_most = grown_length apart apart' more_apart in
    let traced_at_most = grown_length traced traced' more_traced in
    let b : Beside = record { calls = kept.calls; traced = traced; apart = apart } in
    let b' : Beside = record { calls = kept'.calls; traced = traced'; apart = apart' } in
    let grown = all_begin kept.calls kept'.calls traced traced' apart apart'
    (record { calls_grown = more_calls; traced_grown = more_traced; apart_grown = more_apart }) in
    let old = placed_stay b b' rows (all_at_most b b' grown) is.placed in
    record {
      placed = subst (FitBeside b') (sym more) (placed_push b' rows r old placed);
      rows_fit = omega (arith, long, is.rows_fit, fewer);
      calls_fit = omega (arith, spare, is.calls_fit, fewer);
      traced_fit = omega (arith, traced_at_most, is.traced_fit, fewer);
      apart_fit = omega (arith, at_most, is.apart_fit, fewer);
      traced_places_fit = omega (arith, traced_at_most, is.traced_places_fit, fewer);
      places_fit = omega (arith, at_most, is.places_fit, fewer);
    }

-- ---- reads

-- the last row has the last rank
pub last_rank-rows : (low : ℕ) (rows : List LogRow) (calls : List (Act × Reply))
    (traced : List TracedAct)
    (apart : List Unranked) (r : LogRow)
    → Some r ≡ slice_get rows (length rows - 1)
    → r.rank ≡ last_rank low (entries_of calls traced apart rows)
last_rank-rows low [] calls traced apart r is = cc
last_rank-rows low (x ∷ []) calls traced apart r is = let same : r ≡ x = cc in
    ap (λ (y : LogRow). y.rank) same
last_rank-rows low (x ∷ y ∷ ys) calls traced apart r is =
    let place : length (x ∷ y ∷ ys) - 1 ≡ suc (length (y ∷ ys) - 1) = omega arith in
    last_rank-rows x.rank (y ∷ ys) calls traced apart r (is ∙ ap (slice_get (x ∷ y ∷ ys)) place)
