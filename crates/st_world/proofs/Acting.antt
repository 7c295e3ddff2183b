-- After a process is made ready for its act, its row has what the state has of the actor, so what
-- the act reads and writes there is read and written in the state.
use Rattle.std.proofs.Common.{◌≡◌, ◌≢◌, ℕ, ◌<◌, List, [], length, get_or, set, Some, Ok, Err}
use Rattle.std.proofs.Common.{Result, IfOk, OnErr, position, refl, sym, ◌∙◌, ap, subst, arith}
use Rattle.std.proofs.lemmas.List.{get_or-set_same, get_or-set_other, length-set}
use Rattle.st_core.specs.declared.types.Pid.{Pid}
use Rattle.st_core.specs.declared.types.Message.{Message}
use Rattle.st_core.specs.declared.types.Act.{Act}
use Rattle.st_core.specs.Pid.{pid_eq}
use Rattle.st_core.specs.State.{LocalState, zero_local}
use Rattle.st_mail.specs.Actor.{process_of, part_of, ActsOutside}
use Rattle.st_mail.specs.declared.outcome.Outcome.{Outcome as Told}
use Rattle.st_world.specs.Nodes.{Groups, tracers, traced_at, are_traced, flagged, AreByNode}
use Rattle.st_world.specs.Nodes.{IsListed, IsCleanOrListed}
use Rattle.st_world.specs.Rows.{AreRows, AreKept}
use Rattle.st_world.proofs.Kept.{listed_after, marked_at, marked_rows, same_flags, written_rows}
use Rattle.st_world.proofs.Marks.{acted_mark}
use Rattle.st_world.proofs.RowLemmas.{number_within}

-- an act that touches no queue leaves the mark
pub inner_mark : {E : Type 0} (top : ℕ) (a : Act) (p : Pid) (l l2 : LocalState) (r : Result Told E)
    → IfOk r (ActsOutside top a p l l2) → OnErr r (l2 ≡ l) → l2.traced ≡ l.traced
inner_mark top a p l l2 (Ok told) acts err =
    acted_mark top (process_of p l []) a (part_of told l2 []) (acts [])
inner_mark top a p l l2 (Err e) acts err = ap (λ (x : LocalState). x.traced) err

-- the process p with the number i is ready for its act: it is listed, and its row is `l1`, the old
-- row with its node's mark
pub record Started (top : ℕ) (ps : List Pid) (g : Groups) (raw : List LocalState)
    (bs : List (List Message))
    (h : Groups) (p : Pid) (i : ℕ) (l1 : LocalState) : Type 0 where
  pub kept : AreKept top ps g raw bs
  pub places : h.places ≡ g.places
  pub same : tracers h ≡ tracers g
  pub others : (j : ℕ) → j < length g.places → IsListed g j → IsListed h j
  pub at : position (λ x. pid_eq x p) ps ≡ Some i
  pub here : IsListed h i
  pub was : LocalState
  pub is_was : was ≡ get_or raw i was
  pub put : l1 ≡ record was { traced = traced_at g i }

pub started : {top : ℕ} {ps : List Pid} {g : Groups} {raw : List LocalState} {bs : List
    (List Message)} {h : Groups}
    {p : Pid} {i : ℕ} {l l1 : LocalState}
    → AreKept top ps g raw bs → h.places ≡ g.places → tracers h ≡ tracers g
    → ((j : ℕ) → j < length g.places → IsListed g j → IsListed h j)
    → position (λ x. pid_eq x p) ps ≡ Some i
    → IsListed h i → l ≡ get_or raw i l → l1 ≡ record l { traced = traced_at g i }
    → Started top ps g raw bs h p i l1
started {l} kept places same others at here is_was put =
    record {
      kept = kept;
      places = places;
      same = same;
      others = others;
      at = at;
      here = here;
      was = l;
      is_was = is_was;
      put = put;
    }

-- a ready process stays ready when another process is listed
pub touched : {top : ℕ} {ps : List Pid} {g : Groups} {raw : List LocalState} {bs : List
    (List Message)} {h : Groups}
    {p : Pid} {i : ℕ} {l1 : LocalState} {h2 : Groups}
    → Started top ps g raw bs h p i l1 → h2.places ≡ h.places → tracers h2 ≡ tracers h
    → ((j : ℕ) → j < length h.places → IsListed h j → IsListed h2 j)
    → Started top ps g raw bs h2 p i l1
touched {ps} {g} {p} {i} s places same others =
    let within : i < length g.places =
    omega (arith, number_within ps p i s.at, s.kept.by_node.len) in
    record {
      kept = s.kept;
      places = places ∙ s.places;
      same = same ∙ s.same;
      others = λ j below old. others j (rw s.places below) (s.others j below old);
      at = s.at;
      here = others i (rw s.places within) s.here;
      was = s.was;
      is_was = s.is_was;
      put = s.put;
    }

module _ {top : ℕ} {ps : List Pid} {g : Groups} {raw : List LocalState} {bs : List
    (List Message)} {h : Groups}
    {p : Pid} {i : ℕ} {l1 : LocalState} (s : Started top ps g raw bs h p i l1) where
  within : i < length raw
  within = omega (arith, number_within ps p i s.at, s.kept.locals_len)

  -- the actor's row, read after it was made ready, is the old row with its node's mark
  read_is : (x : LocalState) → x ≡ get_or (set raw i l1) i x
      → x ≡ record (s.was) { traced = traced_at g i }
  read_is x e = e ∙ get_or-set_same raw i l1 x within ∙ s.put

  pub read_at : (x : LocalState) → x ≡ get_or (set raw i l1) i x
      → x ≡ get_or (flagged (are_traced g) raw) i x
  read_at x e =
      subst (λ (y : LocalState). y ≡ get_or (flagged (are_traced g) raw) i y) (sym (read_is x e))
      (marked_at top ps g raw bs s.kept p i s.at s.was s.is_was)

  pub read_mark : (x : LocalState) → x ≡ get_or (set raw i l1) i x → x.traced ≡ traced_at g i
  read_mark x e = ap (λ (y : LocalState). y.traced) (read_is x e)

  -- the state's tracing states if only the mark was written, and after the act
  pub ready_rows : flagged (are_traced h) (set raw i l1) ≡ flagged (are_traced g) raw
  ready_rows =
      ap (λ fs. flagged fs (set raw i l1)) (same_flags g h s.places s.same)
      ∙ ap (λ (x : LocalState). flagged (are_traced g) (set raw i x)) s.put
      ∙ marked_rows top ps g raw bs s.kept p i s.at s.was s.is_was

  pub act_rows : (l2 : LocalState) → l2.traced ≡ traced_at g i
      → flagged (are_traced h) (set (set raw i l1) i l2) ≡ set (flagged (are_traced g) raw) i l2
  act_rows l2 mark =
      ap (λ fs. flagged fs (set (set raw i l1) i l2)) (same_flags g h s.places s.same)
      ∙ written_rows top ps g raw bs s.kept p i s.at s.was s.is_was l1 l2 mark

  -- if only the row and queue of number i were written, each process is clean or listed
  act_listed : (raw2 : List LocalState) (bs2 : List (List Message))
      → ((j : ℕ) → j ≢ i → get_or raw2 j zero_local ≡ get_or raw j zero_local)
      → ((j : ℕ) → j ≢ i → get_or bs2 j [] ≡ get_or bs j [])
      → (j : ℕ) → j < length ps → IsCleanOrListed h raw2 bs2 j
  act_listed raw2 bs2 locals queues =
      listed_after (length ps) g h raw raw2 bs bs2 i locals queues
      (λ j below. s.others j (omega (arith, below, s.kept.by_node.len))) s.here s.kept.listed

  ready_other : (j : ℕ) → j ≢ i → get_or (set raw i l1) j zero_local ≡ get_or raw j zero_local
  ready_other j other = get_or-set_other raw i j l1 zero_local other

  act_other : (l2 : LocalState) (j : ℕ) → j ≢ i
      → get_or (set (set raw i l1) i l2) j zero_local ≡ get_or raw j zero_local
  act_other l2 j other = get_or-set_other (set raw i l1) i j l2 zero_local other
      ∙ ready_other j other

  act_len : (l2 : LocalState) → length (set (set raw i l1) i l2) ≡ length raw
  act_len l2 = length-set (set raw i l1) i l2 ∙ length-set raw i l1

  -- the new rows and lists are those of a world
  kept_after : (raw2 : List LocalState) (bs2 : List (List Message)) (ls2 : List LocalState)
      → length raw2 ≡ length raw → flagged (are_traced h) raw2 ≡ ls2 → AreRows top ps ls2 bs2
      → ((j : ℕ) → j < length ps → IsCleanOrListed h raw2 bs2 j) → AreKept top ps h raw2 bs2
  kept_after raw2 bs2 ls2 len is rows listed = record {
    rows = subst (λ ls. AreRows top ps ls bs2) (sym is) rows;
    locals_len = len ∙ s.kept.locals_len;
    by_node = subst (AreByNode ps) (sym s.places) s.kept.by_node;
    listed = listed;
  }

  -- if only the mark was written
  pub ready_kept : (bs2 : List (List Message)) → bs2 ≡ bs → AreKept top ps h (set raw i l1) bs2
  ready_kept bs2 is =
      let ls = flagged (are_traced g) raw in
      kept_after (set raw i l1) bs2 ls (length-set raw i l1) ready_rows
      (subst (AreRows top ps ls) (sym is) s.kept.rows)
      (act_listed (set raw i l1) bs2 ready_other
      (λ j other. ap (λ (y : List (List Message)). get_or y j []) is))

  -- if the actor's row became `l2`, and only its queue may have changed
  pub acted_kept : (l2 : LocalState) (bs2 : List (List Message)) → l2.traced ≡ traced_at g i
      → AreRows top ps (set (flagged (are_traced g) raw) i l2) bs2
      → ((j : ℕ) → j ≢ i → get_or bs2 j [] ≡ get_or bs j [])
      → AreKept top ps h (set (set raw i l1) i l2) bs2
  acted_kept l2 bs2 mark rows queues =
      kept_after (set (set raw i l1) i l2) bs2 (set (flagged (are_traced g) raw) i l2) (act_len l2)
      (act_rows l2 mark) rows (act_listed (set (set raw i l1) i l2) bs2 (act_other l2) queues)

  -- if the actor's row became `l2`, and only the queue of a listed process may have changed
  pub sent_kept : (l2 : LocalState) (bs2 : List (List Message)) (k : ℕ) → IsListed h k
      → l2.traced ≡ traced_at g i → AreRows top ps (set (flagged (are_traced g) raw) i l2) bs2
      → ((j : ℕ) → j ≢ k → get_or bs2 j [] ≡ get_or bs j [])
      → AreKept top ps h (set (set raw i l1) i l2) bs2
  sent_kept l2 bs2 k there mark rows queues =
      let raw2 = set (set raw i l1) i l2 in
      kept_after raw2 bs2 (set (flagged (are_traced g) raw) i l2) (act_len l2) (act_rows l2 mark)
      rows
      (listed_after (length ps) h h raw2 raw2 bs bs2 k (λ j apart. refl) queues (λ j below old. old)
      there
      (act_listed raw2 bs (act_other l2) (λ j apart. refl)))
