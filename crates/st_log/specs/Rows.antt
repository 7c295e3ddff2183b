-- How a log keeps its entries: each has a row. The row of a reset or a tracer change says the
-- whole entry. Any other row says the rank and the place of the rest: among the calls if the act
-- wasn't reported and carried no token; else among the frequent acts under a token, or among the
-- entries that are kept apart.
use Rattle.std.specs.Prelude.{◌≡◌, ℕ, ◌+◌, ◌<◌, ◌≤◌, ◌⊎◌, List, [], ◌∷◌, ◌++◌, length, map, None}
use Rattle.std.specs.Prelude.{slice_index_or}
use Rattle.std.specs.List.{AllByRecursion}
use Rattle.st_core.specs.declared.types.Act.{Act}
use Rattle.st_core.specs.declared.types.Act.TheVariants as act
use Rattle.st_core.specs.declared.types.Reply.{Reply}
use Rattle.st_core.specs.declared.types.Reply.TheVariants as reply
use Rattle.st_log.specs.declared.entry.Entry.{Entry}
use Rattle.st_log.specs.declared.row.LogRow.{LogRow}
use Rattle.st_log.specs.declared.row.Content.{Content}
use Rattle.st_log.specs.declared.row.Content.TheVariants as content
use Rattle.st_log.specs.declared.row.Unranked.{Unranked}
use Rattle.st_log.specs.declared.traced_act.TracedAct.{TracedAct}
use Rattle.st_log.specs.Briefs.{call_at, no_call}
use Rattle.st_log.specs.CallList.{CallList}
use Rattle.st_log.specs.TracedActs.{no_traced, traced_rest, with_rank, without_rank}

-- the entry, without its rank, of a call that wasn't reported and carried no token
abbrev pub of_call : Act × Reply → Unranked
of_call c = record { act = c.0; reply = c.1; report = None; carried = None }

-- the filler for a place without an entry: any entry would do
abbrev pub nowhere : Unranked
nowhere = of_call no_call

-- the entry, without its rank, that a row's content stands for, given the calls, the acts under a
-- token and the entries that are kept apart
abbrev pub without_rank_in : List (Act × Reply) → List TracedAct → List Unranked → Content
    → Unranked
without_rank_in calls traced apart (content.Reset p) = of_call (act.Reset p, reply.Done)
without_rank_in calls traced apart (content.Tracer p on was) =
    of_call (act.Tracer p on, reply.Was was)
without_rank_in calls traced apart (content.Call i) = of_call (call_at calls i)
without_rank_in calls traced apart (content.Traced i) =
    traced_rest (slice_index_or traced i no_traced)
without_rank_in calls traced apart (content.Apart i) = slice_index_or apart i nowhere

-- the entry that a row stands for, given the three lists
abbrev pub row_entry : List (Act × Reply) → List TracedAct → List Unranked → LogRow → Entry
row_entry calls traced apart r = with_rank r.rank (without_rank_in calls traced apart r.content)

-- the entries that rows stand for, in order
abbrev pub entries_of : List (Act × Reply) → List TracedAct → List Unranked → List LogRow
    → List Entry
entries_of calls traced apart rows = map (row_entry calls traced apart) rows

-- if the content says a place, the place is below the length of its list
abbrev pub HasPlace : ℕ → ℕ → ℕ → Content → Type 0
HasPlace calls traced apart (content.Call i) = i < calls
HasPlace calls traced apart (content.Traced i) = i < traced
HasPlace calls traced apart (content.Apart i) = i < apart
HasPlace calls traced apart c = Unit {0}

-- the content says the whole entry but its rank, without the lists
pub record IsAll (e : Entry) (c : Content) : Type 0 where
  pub says : (calls : List (Act × Reply)) (traced : List TracedAct) (apart : List Unranked)
      → without_rank_in calls traced apart c ≡ without_rank e
  pub placed : (calls traced apart : ℕ) → HasPlace calls traced apart c

-- the second list is the first, or the first with one more item at its end
abbrev pub HasGrown : {T : Type 0} → List T → List T → Type 0
HasGrown {T} xs xs' = (xs' ≡ xs) ⊎ ((x : T) × (xs' ≡ xs ++ x ∷ []))

-- each list has room for one more item, whose place fits into 32 bits
pub record HasRoomInAll (spare traced traced_capacity apart apart_capacity : ℕ) : Type 0 where
  pub call_room : 0 < spare
  pub traced_room : traced < traced_capacity
  pub traced_place : traced < 4294967295
  pub apart_room : apart < apart_capacity
  pub apart_place : apart < 4294967295

-- each place that a row says is below the length of its list
abbrev pub HavePlaces : ℕ → ℕ → ℕ → List LogRow → Type 0
HavePlaces calls traced apart rows =
    AllByRecursion (λ (r : LogRow). HasPlace calls traced apart r.content) rows

-- the invariant of `Log`: each place that a row says is in its list, all lists have room for the
-- reserved entries, and each place fits into 32 bits
pub record IsLog (rows : List LogRow) (kept : CallList) (traced : List TracedAct)
    (apart : List Unranked) (row_capacity traced_capacity apart_capacity reserved : ℕ)
    : Type 0 where
  pub placed : HavePlaces (length kept.calls) (length traced) (length apart) rows
  pub rows_fit : length rows + reserved ≤ row_capacity
  pub calls_fit : reserved ≤ kept.spare
  pub traced_fit : length traced + reserved ≤ traced_capacity
  pub apart_fit : length apart + reserved ≤ apart_capacity
  pub traced_places_fit : length traced + reserved < 4294967296
  pub places_fit : length apart + reserved < 4294967296
