-- The lines of a bundle within the limits have no fault: each passes the tests after those before
-- it.
use Rattle.std.proofs.Common.{◌≡◌, ℕ, ◌+◌, ◌-◌, ◌≤◌, Bool, true, false, not, ◌||◌, cond, leb, List}
use Rattle.std.proofs.Common.{[], ◌∷◌, ◌++◌, length, map, Option, Some, None, refl, sym, ap, subst}
use Rattle.std.proofs.Common.{◌∙◌, append_assoc, arith}
use Rattle.std.specs.List.{list_any, flat_map, count_by, AllByRecursion, slice_get}
use Rattle.std.proofs.lemmas.Bool.Decides.{nat_tests}
use Rattle.std.proofs.lemmas.List.{length-append, length_push, append-nil}
use Rattle.std.proofs.lemmas.List.Concat.{flat_map-append}
use Rattle.std.proofs.lemmas.List.Folds.{list_any-append}
use Rattle.std.proofs.lemmas.List.Sums.{sum_by-append, sum_by-cons}
use Rattle.st_core.specs.declared.types.Pid.{Pid}
use Rattle.st_core.specs.declared.types.Event.{Event}
use Rattle.st_core.specs.declared.types.Act.{Act}
use Rattle.st_text.specs.declared.limits.Limits.{Limits}
use Rattle.st_text.specs.declared.line.Line.{Line}
use Rattle.st_text.specs.declared.line.Line.TheVariants as lines
use Rattle.std.specs.Ordering.{is_lt}
use Rattle.st_core.specs.Pid.{pid_cmp, IsRising}
use Rattle.st_core.specs.Run.{Stream}
use Rattle.st_core.specs.Streams.{is_own}
use Rattle.st_text.specs.Text.{is_remote, process_lines}
use Rattle.st_text.specs.Fault.{first_fault, line_fault, fault_behind, may_stand, may_follow}
use Rattle.st_text.specs.Fault.{has_acts, last_of, last_passes, pids, pid_of, is_wide_header}
use Rattle.st_text.specs.Fault.{is_acts, is_out_of_order, is_foreign, is_one_too_many, is_event}
use Rattle.st_text.specs.Fault.{is_act}

-- the good lines so far: whether their header is wide, their pids, how many events and acts, and
-- whether the acts have begun
pub record Came (ls : List Line) (wide : Bool) (ps : List Pid) (events acts : ℕ)
    (begun : Bool) : Type 0 where
  pub header : (first : Line) × (more : List Line) × (ls ≡ first ∷ more)
      × (is_wide_header first ≡ wide)
  pub pids_are : pids ls ≡ ps
  pub event_count : count_by is_event ls ≡ events
  pub act_count : count_by is_act ls ≡ acts
  pub begun_is : has_acts ls ≡ begun

pub count-append : (f : Line → Bool) (a b : List Line)
    → count_by f (a ++ b) ≡ count_by f a + count_by f b
count-append f a b = sum_by-append (λ x. cond (f x) 1 0) a b

pub count-cons : (f : Line → Bool) (l : Line) (ls : List Line)
    → count_by f (l ∷ ls) ≡ cond (f l) 1 0 + count_by f ls
count-cons f l ls = sum_by-cons (λ x. cond (f x) 1 0) l ls

came_more : (ls : List Line) (wide : Bool) (ps : List Pid) (events acts : ℕ) (begun : Bool)
    (l : Line)
    → Came ls wide ps events acts begun
    → Came (ls ++ l ∷ []) wide (ps ++ flat_map pid_of (l ∷ []))
    (events + count_by is_event (l ∷ []))
    (acts + count_by is_act (l ∷ [])) (begun || (is_acts l || false))
came_more ls wide ps events acts begun l c =
    record {
      header = (
        c.header.0,
        c.header.1 ++ l ∷ [],
        ap (λ (x : List Line). x ++ l ∷ []) c.header.2,
        c.header.3,
      );
      pids_are = flat_map-append pid_of ls (l ∷ [])
          ∙ ap (λ (x : List Pid). x ++ flat_map pid_of (l ∷ [])) c.pids_are;
      event_count = count-append is_event ls (l ∷ [])
          ∙ ap (λ (n : ℕ). n + count_by is_event (l ∷ [])) c.event_count;
      act_count = count-append is_act ls (l ∷ []) ∙ ap (λ (n : ℕ). n + count_by is_act (l ∷ []))
          c.act_count;
      begun_is = list_any-append is_acts ls (l ∷ []) ∙ ap (λ (b : Bool). b || (is_acts l || false))
          c.begun_is;
    }

-- a line that passes each test has no fault
pub line_passes : (limits : Limits) (ls : List Line) (wide : Bool) (ps : List Pid) (events acts : ℕ)
    (begun : Bool) (l : Line)
    → Came ls wide ps events acts begun
    → may_follow begun (last_of ps) l ≡ true → (wide || not (is_remote l)) ≡ true
    → is_out_of_order (last_of ps) l ≡ false
    → is_foreign (last_of ps) l ≡ false → is_one_too_many limits (length ps) events acts l ≡ false
    → line_fault limits ls (Some l) ≡ None
unfolding line_fault
line_passes limits ls wide ps events acts begun l c follows open_to order own few =
    let P : List Line → Type 0 = λ x. fault_behind limits (length ls + 1) x l ≡ None in
    let stands : may_stand ls l ≡ true = ap (λ (x : List Line). may_stand x l) c.header.2
    ∙ rw (
      sym (ap has_acts c.header.2) ∙ c.begun_is,
      sym (ap pids c.header.2)
          ∙ c.pids_are,
      c.header.3,
      follows,
      open_to,
    ) refl in
    rw (stands, c.pids_are, order, own, c.event_count, c.act_count, few) refl

pub next : (limits : Limits) (ls more : List Line) (l : Line) → line_fault limits ls (Some l) ≡ None
    → first_fault limits ls (map Some (l ∷ more))
    ≡ first_fault limits (ls ++ l ∷ []) (map Some more)
unfolding first_fault
next limits ls more l e = rw e refl

get_end : (ps : List Pid) (p : Pid) → slice_get (ps ++ p ∷ []) (length ps) ≡ Some p
get_end [] p = refl
get_end (q ∷ ps) p = get_end ps p

last_push : (ps : List Pid) (p : Pid) → last_of (ps ++ p ∷ []) ≡ Some p
last_push ps p =
    let n : length (ps ++ p ∷ []) - 1 ≡ length ps = omega (arith, length_push ps p) in
    rw n (get_end ps p)

came_event : (ls : List Line) (wide : Bool) (ps : List Pid) (m k : ℕ) (e : Event)
    → Came ls wide ps m k false
    → Came (ls ++ lines.Event e ∷ []) wide ps (m + 1) k false
came_event ls wide ps m k e c =
    let d = came_more ls wide ps m k false (lines.Event e) c in
    record {
      header = d.header;
      pids_are = d.pids_are
          ∙ append-nil ps;
      event_count = d.event_count;
      act_count = d.act_count ∙ omega arith;
      begun_is = d.begun_is;
    }

came_process : (ls : List Line) (wide : Bool) (ps : List Pid) (m k : ℕ) (p : Pid)
    → Came ls wide ps m k false
    → Came (ls ++ lines.Process p ∷ []) wide (ps ++ p ∷ []) m k false
came_process ls wide ps m k p c =
    let d = came_more ls wide ps m k false (lines.Process p) c in
    record {
      header = d.header;
      pids_are = d.pids_are;
      event_count = d.event_count
          ∙ omega arith;
      act_count = d.act_count ∙ omega arith;
      begun_is = d.begun_is;
    }

pub under : (wide a b : Bool) → (wide || not (a || b)) ≡ true → ((wide || not a) ≡ true)
    × ((wide || not b) ≡ true)
under true a b e = (refl, refl)
under false true b e = absurd cc
under false false b e = (refl, e)

-- the events of the last process have no fault
pub events_pass : (limits : Limits) (es : List Event) (ls more : List Line) (wide : Bool)
    (ps : List Pid) (m k : ℕ) (p : Pid)
    → Came ls wide ps m k false → last_of ps ≡ Some p → AllByRecursion (λ e. is_own p e ≡ true) es
    → (wide || not (list_any is_remote (map lines.Event es))) ≡ true → m + length es ≤ limits.events
    → (first_fault limits ls (map Some (map lines.Event es ++ more))
    ≡ first_fault limits (ls ++ map lines.Event es) (map Some more))
    × Came (ls ++ map lines.Event es) wide ps (m + length es) k false
events_pass limits [] ls more wide ps m k p c at own remote few = (
  ap (λ (x : List Line). first_fault limits x (map Some more)) (sym (append-nil ls)),
  subst
      (λ (x : List Line). Came x wide ps (m + 0) k false) (sym (append-nil ls))
      (subst (λ (n : ℕ). Came ls wide ps n k false) (omega arith) c),
)
events_pass limits (e ∷ es) ls more wide ps m k p c at own remote few =
    let r = under wide (is_remote (lines.Event e)) (list_any is_remote (map lines.Event es))
    remote in
    let mine : is_own p e ≡ true = own.0 in
    let room : leb limits.events m ≡ false = grind (arith, nat_tests) in
    let good = line_passes limits ls wide ps m k false (lines.Event e) c (rw at refl) r.0 refl
    (rw (at, mine) refl)
    room in
    let rest =
    events_pass limits es (ls ++ lines.Event e ∷ []) more wide ps (m + 1) k p
    (came_event ls wide ps m k e c) at own.1
    r.1
    (omega arith) in
    let shape : (ls ++ lines.Event e ∷ []) ++ map lines.Event es ≡ ls ++ map lines.Event (e ∷ es) =
    append_assoc ls (lines.Event e ∷ []) (map lines.Event es) in
    let count : m + 1 + length es ≡ m + length (e ∷ es) = omega arith in (
      next limits ls (map lines.Event es ++ more) (lines.Event e) good ∙ rest.0
          ∙ ap (λ (x : List Line). first_fault limits x (map Some more)) shape,
      subst (λ (x : List Line). Came x wide ps (m + length (e ∷ es)) k false) shape
          (subst (λ (n : ℕ). Came ((ls ++ lines.Event e ∷ []) ++ map lines.Event es) wide ps n k
          false) count rest.1),
    )

-- the processes go on rising after the last one
abbrev pub After : Option Pid → List Stream → Type 0
After o [] = Unit {0}
After None (p ∷ ps) = After (Some p.pid) ps
After (Some q) (p ∷ ps) = (is_lt (pid_cmp q p.pid) ≡ true) × After (Some p.pid) ps

rising_from : (p : Stream) (ps : List Stream) → IsRising (p.pid ∷ map (λ p. p.pid) ps)
    → After (Some p.pid) ps
rising_from p [] h = tt
rising_from p (q ∷ ps) h = (ap is_lt h.0.0, rising_from q ps h.1)

pub rising_after : (ps : List Stream) → IsRising (map (λ p. p.pid) ps) → After None ps
rising_after [] h = tt
rising_after (p ∷ ps) h = rising_from p ps h

in_order : (o : Option Pid) (p : Stream) (ps : List Stream) → After o (p ∷ ps)
    → (last_passes (λ q. not (is_lt (pid_cmp q p.pid))) o ≡ false) × After (Some p.pid) ps
in_order None p ps h = (refl, h)
in_order (Some q) p ps h = (rw h.0 refl, h.1)

abbrev pub events_of : List Stream → List Event
events_of ps = flat_map (λ p. p.events) ps

pub processes_pass : (limits : Limits) (procs : List Stream) (ls more : List Line) (wide : Bool)
    (ps : List Pid) (m : ℕ)
    → Came ls wide ps m 0 false → After (last_of ps) procs
    → AllByRecursion (λ p. AllByRecursion (λ e. is_own p.pid e ≡ true) p.events) procs
    → (wide || not (list_any is_remote (flat_map process_lines procs))) ≡ true
    → length ps + length procs ≤ limits.processes → m + length (events_of procs) ≤ limits.events
    → (first_fault limits ls (map Some (flat_map process_lines procs ++ more))
    ≡ first_fault limits (ls ++ flat_map process_lines procs) (map Some more))
    × Came (ls ++ flat_map process_lines procs) wide (ps ++ map (λ p. p.pid) procs)
    (m + length (events_of procs))
    0 false
processes_pass limits [] ls more wide ps m c rising own remote few many = (
  ap (λ (x : List Line). first_fault limits x (map Some more)) (sym (append-nil ls)),
  subst (λ (x : List Line). Came x wide (ps ++ []) (m + 0) 0 false) (sym (append-nil ls))
      (subst (λ (x : List Pid). Came ls wide x (m + 0) 0 false) (sym (append-nil ps))
      (subst (λ (n : ℕ). Came ls wide ps n 0 false) (omega arith) c)),
)
processes_pass limits (p ∷ procs) ls more wide ps m c rising own remote few many =
    let line = lines.Process p.pid in
    let es : List Line = map lines.Event p.events in
    let others : List Line = flat_map process_lines procs in
    let r = under wide (is_remote line) (list_any is_remote (es ++ others)) remote in
    let r2 =
    under wide (list_any is_remote es) (list_any is_remote others)
    (ap (λ (b : Bool). wide || not b) (sym (list_any-append is_remote es others)) ∙ r.1) in
    let order = in_order (last_of ps) p procs rising in
    let room : leb limits.processes (length ps) ≡ false = grind (arith, nat_tests) in
    let good = line_passes limits ls wide ps m 0 false line c refl r.0 order.0 refl room in
    let total : length (events_of (p ∷ procs)) ≡ length p.events + length (events_of procs) =
    length-append p.events (events_of procs) in
    let one =
    events_pass limits p.events (ls ++ line ∷ []) (others ++ more) wide (ps ++ p.pid ∷ []) m 0 p.pid
    (came_process ls wide ps m 0 p.pid c) (last_push ps p.pid) own.0 r2.0 (omega arith) in
    let after : After (last_of (ps ++ p.pid ∷ [])) procs =
    subst (λ (o : Option Pid). After o procs) (sym (last_push ps p.pid)) order.1 in
    let two =
    processes_pass limits procs ((ls ++ line ∷ []) ++ es) more wide (ps ++ p.pid ∷ [])
    (m + length p.events) one.1 after
    own.1 r2.1 (omega (arith, length_push ps p.pid)) (omega arith) in
    let shape : ((ls ++ line ∷ []) ++ es) ++ others ≡ ls ++ flat_map process_lines (p ∷ procs) =
    append_assoc (ls ++ line ∷ []) es others ∙ append_assoc ls (line ∷ []) (es ++ others) in (
      next limits ls ((es ++ others) ++ more) line good
          ∙ ap (λ (x : List Line). first_fault limits (ls ++ line ∷ []) (map Some x))
          (append_assoc es others more)
          ∙ one.0
          ∙ two.0 ∙ ap (λ (x : List Line). first_fault limits x (map Some more)) shape,
      subst (λ (x : List Line). Came x wide (ps ++ map (λ p. p.pid) (p ∷ procs))
          (m + length (events_of (p ∷ procs))) 0
          false) shape
          (subst (λ (x : List Pid). Came (((ls ++ line ∷ []) ++ es) ++ others) wide x
          (m + length (events_of (p ∷ procs))) 0 false)
          (append_assoc ps (p.pid ∷ []) (map (λ p. p.pid) procs))
          (subst (λ (n : ℕ). Came (((ls ++ line ∷ []) ++ es) ++ others) wide
          ((ps ++ p.pid ∷ []) ++ map (λ p. p.pid) procs) n 0 false) (omega arith) two.1)),
    )

-- ---- acts

pub came_acts : (ls : List Line) (wide : Bool) (ps : List Pid) (m : ℕ) → Came ls wide ps m 0 false
    → Came (ls ++ lines.Acts ∷ []) wide ps m 0 true
came_acts ls wide ps m c =
    let d = came_more ls wide ps m 0 false lines.Acts c in
    record {
      header = d.header;
      pids_are = d.pids_are ∙ append-nil ps;
      event_count = d.event_count
          ∙ omega arith;
      act_count = d.act_count;
      begun_is = d.begun_is;
    }

came_act : (ls : List Line) (wide : Bool) (ps : List Pid) (m k : ℕ) (a : Act)
    → Came ls wide ps m k true
    → Came (ls ++ lines.Act a ∷ []) wide ps m (k + 1) true
came_act ls wide ps m k a c =
    let d = came_more ls wide ps m k true (lines.Act a) c in
    record {
      header = d.header;
      pids_are = d.pids_are ∙ append-nil ps;
      event_count = d.event_count
          ∙ omega arith;
      act_count = d.act_count;
      begun_is = d.begun_is;
    }

pub acts_pass : (limits : Limits) (list : List Act) (ls : List Line) (wide : Bool) (ps : List Pid)
    (m k : ℕ)
    → Came ls wide ps m k true
    → (wide || not (list_any is_remote (map lines.Act list))) ≡ true → k + length list ≤ limits.acts
    → first_fault limits ls (map Some (map lines.Act list)) ≡ None
unfolding first_fault
acts_pass limits [] ls wide ps m k c remote few = refl
acts_pass limits (a ∷ list) ls wide ps m k c remote few =
    let r = under wide (is_remote (lines.Act a)) (list_any is_remote (map lines.Act list)) remote in
    let room : leb limits.acts k ≡ false = grind (arith, nat_tests) in
    let good = line_passes limits ls wide ps m k true (lines.Act a) c refl r.0 refl refl room in
    next limits ls (map lines.Act list) (lines.Act a) good
    ∙ acts_pass limits list (ls ++ lines.Act a ∷ []) wide ps m (k + 1) (came_act ls wide ps m k a c)
    r.1 (omega arith)
