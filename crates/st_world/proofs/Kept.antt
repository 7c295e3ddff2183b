-- The row of a process differs from its record in the state only in the mark `traced`, which in
-- the state is its node's. So if a row has its node's mark, writing what an act leaves there
-- writes it in the state; and since the actor is listed, each process is clean or listed after the
-- act.
use Rattle.std.proofs.Common.{◌≡◌, ◌≢◌, ℕ, ◌<◌, ◌==◌, zero, suc, Bool, true, false, if◌then◌else◌}
use Rattle.std.proofs.Common.{List, [], ◌∷◌, length, map, get_or, set, drop, replicate, slice_get}
use Rattle.std.proofs.Common.{Some, None, inl, inr, position, refl, sym, ◌∙◌, ap, arith}
use Rattle.std.proofs.lemmas.Bool.{cases_eq}
use Rattle.std.proofs.lemmas.List.{get_or_default, length-map, set-set}
use Rattle.st_core.specs.declared.types.Pid.{Pid}
use Rattle.st_core.specs.declared.types.Message.{Message}
use Rattle.std.proofs.lemmas.Option.{same_Some}
use Rattle.st_core.specs.declared.types.Act.TheVariants as act
use Rattle.st_core.specs.Local.{wiped}
use Rattle.st_core.specs.Pid.{pid_eq}
use Rattle.st_core.specs.State.{LocalState, Process, State, zero_local}
use Rattle.st_core.specs.Step.{reached, untraced}
use Rattle.st_mail.specs.Actor.{process_of}
use Rattle.st_world.specs.Nodes.{Groups, tracers, traced_at, are_traced, flagged, IsListed}
use Rattle.st_world.specs.Nodes.{IsCleanOrListed}
use Rattle.st_world.specs.Rows.{state_of, AreKept}
use Rattle.st_world.proofs.Groups.{at_map}
use Rattle.st_world.proofs.RowLemmas.{number_within}

-- MARKS

pub length-flagged : (fs : List Bool) (ls : List LocalState) → length fs ≡ length ls → length
    (flagged fs ls) ≡ length ls
length-flagged [] [] e = refl
length-flagged [] (l ∷ ls) e = absurd (omega arith)
length-flagged (f ∷ fs) [] e = refl
length-flagged (f ∷ fs) (l ∷ ls) e = ap suc (length-flagged fs ls (omega arith))

-- a tracing state with its node's mark, written to the rows, is written in the state
pub flagged_set : (fs : List Bool) (ls : List LocalState) (i : ℕ) (l : LocalState)
    → get_or fs i l.traced ≡ l.traced → flagged fs (set ls i l) ≡ set (flagged fs ls) i l
flagged_set [] ls i l e = refl
flagged_set (f ∷ fs) [] i l e = refl
flagged_set (f ∷ fs) (x ∷ ls) zero l e =
    ap (λ b. let y : LocalState = record l { traced = b } in y ∷ flagged fs ls) e
flagged_set (f ∷ fs) (x ∷ ls) (suc i) l e =
    ap (λ ys. let y : LocalState = record x { traced = f } in y ∷ ys) (flagged_set fs ls i l e)

-- writing a mark to the rows changes nothing in the state
pub flagged_put : (fs : List Bool) (ls : List LocalState) (i : ℕ) (l : LocalState) (b : Bool)
    → l ≡ get_or ls i l → flagged fs (set ls i (record l { traced = b })) ≡ flagged fs ls
flagged_put [] ls i l b e = refl
flagged_put (f ∷ fs) [] i l b e = refl
flagged_put (f ∷ fs) (x ∷ ls) zero l b e =
    ap (λ (y : LocalState). let z : LocalState = record y { traced = f } in z ∷ flagged fs ls) e
flagged_put (f ∷ fs) (x ∷ ls) (suc i) l b e =
    ap (λ ys. let y : LocalState = record x { traced = f } in y ∷ ys) (flagged_put fs ls i l b e)

-- a row with its node's mark is what the state has
pub flagged_at : (fs : List Bool) (ls : List LocalState) (i : ℕ) (l : LocalState) (b : Bool)
    → length fs ≡ length ls → i < length fs → b ≡ get_or fs i b → l ≡ get_or ls i l
    → record l { traced = b } ≡ get_or (flagged fs ls) i (record l { traced = b })
flagged_at (f ∷ fs) (x ∷ ls) zero l b len h mark e = rw (mark, e) refl
flagged_at (f ∷ fs) (x ∷ ls) (suc i) l b len h mark e =
    flagged_at fs ls i l b (omega arith) (omega arith) mark e
flagged_at fs ls i l b len h mark e = absurd (omega arith)

-- the mark of a process in the state is its node's
pub flag_at : (g : Groups) (i : ℕ) (d : Bool) → i < length g.places
    → get_or (are_traced g) i d ≡ traced_at g i
flag_at g i d h =
    let f : ℕ → Bool = λ k. get_or (tracers g) k false in
    get_or_default (map f g.places) i d (f 0) (omega (arith, length-map g.places f))
    ∙ at_map f g.places i 0

pub length-flags : (g : Groups) → length (are_traced g) ≡ length g.places
length-flags g = length-map g.places (λ k. get_or (tracers g) k false)

pub same_flags : (g h : Groups) → h.places ≡ g.places → tracers h ≡ tracers g
    → are_traced h ≡ are_traced g
same_flags g h places same =
    ap (map (λ k. get_or (tracers h) k false)) places
    ∙ ap (λ ts. map (λ k. get_or ts k false) g.places) same

-- LISTS

-- if only the row and queue of process i have changed and i is listed, each process is clean or
-- listed
pub listed_after
    : (count : ℕ) (g h : Groups) (ls ls2 : List LocalState) (bs bs2 : List (List Message)) (i : ℕ)
    → ((j : ℕ) → j ≢ i → get_or ls2 j zero_local ≡ get_or ls j zero_local)
    → ((j : ℕ) → j ≢ i → get_or bs2 j [] ≡ get_or bs j [])
    → ((j : ℕ) → j < count → IsListed g j → IsListed h j) → IsListed h i
    → ((j : ℕ) → j < count → IsCleanOrListed g ls bs j)
    → (j : ℕ) → j < count → IsCleanOrListed h ls2 bs2 j
listed_after count g h ls ls2 bs bs2 i locals queues others here all j below = elim (cases_eq j i) [
  | inl e ↦ rw e (inr here)
  | inr other ↦ elim (all j below) [
    | inl clean ↦
        inl (record {
          local = rw (locals j other) clean.local;
          queue =
              rw (queues j other) clean.queue;
        })
    | inr listed ↦ inr (others j below listed)
  ]
]

-- ONE PROCESS OF A WORLD

module _ (top : ℕ) (ps : List Pid) (g : Groups) (raw : List LocalState) (bs : List (List Message))
    (kept : AreKept top ps g raw bs) where
  pub marks_len : length (are_traced g) ≡ length raw
  marks_len = length-flags g ∙ kept.by_node.len ∙ sym kept.locals_len

  module _ (p : Pid) (i : ℕ) (at : position (λ x. pid_eq x p) ps ≡ Some i) (l : LocalState)
      (el : l ≡ get_or raw i l) where
    pub within_places : i < length g.places
    within_places = omega (arith, number_within ps p i at, kept.by_node.len)

    -- the tracing state that the state has of the process
    abbrev pub Marked : LocalState
    Marked = record l { traced = traced_at g i }

    pub marked_at : record l { traced = traced_at g i }
        ≡ get_or (flagged (are_traced g) raw) i (record l { traced = traced_at g i })
    marked_at =
        flagged_at (are_traced g) raw i l (traced_at g i) marks_len
        (omega (arith, within_places, length-flags g))
        (sym (flag_at g i (traced_at g i) within_places)) el

    -- writing the mark changes nothing in the state
    pub marked_rows : flagged (are_traced g) (set raw i (record l { traced = traced_at g i }))
        ≡ flagged (are_traced g) raw
    marked_rows = flagged_put (are_traced g) raw i l (traced_at g i) el

    pub written_rows : (l1 l2 : LocalState) → l2.traced ≡ traced_at g i
        → flagged (are_traced g) (set (set raw i l1) i l2) ≡ set (flagged (are_traced g) raw) i l2
    written_rows l1 l2 mark =
        ap (flagged (are_traced g)) (set-set raw i l1 l2)
        ∙ flagged_set (are_traced g) raw i l2 (flag_at g i l2.traced within_places ∙ sym mark)

-- WHOLE WORLDS

-- the rows at the start are the zero state
pub flagged_zero : (ts : List Bool) (ks : List ℕ) (n : ℕ) → length ks ≡ n
    → ((k : ℕ) → get_or ts k false ≡ false)
    → flagged (map (λ k. get_or ts k false) ks) (replicate n zero_local) ≡ replicate n zero_local
flagged_zero ts [] zero e none = refl
flagged_zero ts (k ∷ ks) (suc n) e none =
    let rest = flagged_zero ts ks n (omega arith) none in
    rw (none k, rest) refl
flagged_zero ts ks n e none = absurd (omega arith)

-- the process with the mark `b`
abbrev with_mark : Bool → Process → Process
with_mark b r = process_of r.pid (record r.local { traced = b }) r.queue

-- a reset looks at no mark, and leaves it
reset_mark : (me : Pid) (b : Bool) (r : Process)
    → with_mark b (reached (act.Reset me) None r) ≡ reached (act.Reset me) None (with_mark b r)
reset_mark me b r = by (r.pid.node == me.node)
  where
    by : (t : Bool)
        → with_mark b (if t then process_of r.pid (wiped r.local) (map untraced r.queue) else r)
        ≡ (if t then process_of r.pid (wiped
        (let l : LocalState = record r.local { traced = b } in l)) (map untraced r.queue) else
        with_mark b r)
    by true = refl
    by false = refl

pub reset_flagged : (me : Pid) (ps : List Pid) (fs : List Bool) (ls ls2 : List LocalState)
    (bs bs2 : List (List Message))
    → length fs ≡ length ps → length ls ≡ length ps → length ls2 ≡ length ps → length bs ≡ length ps
    → length bs2 ≡ length ps
    → state_of ps ls2 bs2 ≡ map (reached (act.Reset me) None) (state_of ps ls bs)
    → state_of ps (flagged fs ls2) bs2
    ≡ map (reached (act.Reset me) None) (state_of ps (flagged fs ls) bs)
reset_flagged me [] fs ls ls2 bs bs2 a b c d e is = refl
reset_flagged me (p ∷ ps) (f ∷ fs) (l ∷ ls) (l2 ∷ ls2) (q ∷ bs) (q2 ∷ bs2) a b c d e is =
    let x : Process = process_of p l2 q2 in
    let y : Process = reached (act.Reset me) None (process_of p l q) in
    let first : x ≡ y = same_Some x y (ap (λ (s : State). slice_get s 0) is) in
    let rest = reset_flagged me ps fs ls ls2 bs bs2 (omega arith) (omega arith) (omega arith)
    (omega arith) (omega arith)
    (ap (λ (s : State). drop 1 s) is) in
    rw (ap (with_mark f) first ∙ reset_mark me f (process_of p l q), rest) refl
reset_flagged me ps fs ls ls2 bs bs2 a b c d e is = absurd (omega arith)

-- a tracer change sets the marks of the processes on the node
pub trace_flagged : (me : Pid) (on : Bool) (ps : List Pid) (fs fs2 : List Bool)
    (ls : List LocalState)
    → (bs : List (List Message)) → length fs ≡ length ps → length fs2 ≡ length ps
    → ((i : ℕ) → i < length ps
    → get_or fs2 i false ≡ (if (get_or ps i me).node == me.node then on else get_or fs i false))
    → state_of ps (flagged fs2 ls) bs
    ≡ map (reached (act.Tracer me on) None) (state_of ps (flagged fs ls) bs)
trace_flagged me on [] fs fs2 ls bs a b marks = refl
trace_flagged me on (p ∷ ps) [] fs2 ls bs a b marks = absurd (omega arith)
trace_flagged me on (p ∷ ps) (f ∷ fs) [] ls bs a b marks = absurd (omega arith)
trace_flagged me on (p ∷ ps) (f ∷ fs) (f2 ∷ fs2) [] bs a b marks = refl
trace_flagged me on (p ∷ ps) (f ∷ fs) (f2 ∷ fs2) (l ∷ ls) [] a b marks = refl
trace_flagged me on (p ∷ ps) (f ∷ fs) (f2 ∷ fs2) (l ∷ ls) (q ∷ bs) a b marks =
    let rest =
    trace_flagged me on ps fs fs2 ls bs (omega arith) (omega arith)
    (λ i h. marks (suc i) (omega arith)) in
    let first : process_of p (let x : LocalState = record l { traced = f2 } in x) q
    ≡ reached (act.Tracer me on) None
    (process_of p (let x : LocalState = record l { traced = f } in x) q) =
    by (p.node == me.node) (marks 0 (omega arith)) in
    rw (first, rest) refl
  where
    by : (t : Bool) → f2 ≡ (if t then on else f)
        → process_of p (let x : LocalState = record l { traced = f2 } in x) q
        ≡ (if t then process_of p (let x : LocalState = record l { traced = on } in x) q
        else process_of p (let x : LocalState = record l { traced = f } in x) q)
    by true e = rw e refl
    by false e = rw e refl
