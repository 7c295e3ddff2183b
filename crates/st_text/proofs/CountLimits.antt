-- A line without a fault passed each test, and one test compares the count of its kind with the
-- limit: so lines without a fault are within the limits on counts.
use Rattle.std.proofs.Common.{◌≡◌, ℕ, ◌+◌, ◌≤◌, Bool, true, false, not, cond, leb, List, [], ◌∷◌}
use Rattle.std.proofs.Common.{◌++◌, length, map}
use Rattle.std.proofs.Common.{Some, None, refl, sym, ◌∙◌, ap, subst, append_assoc, arith}
use Rattle.std.specs.List.{count_by}
use Rattle.std.proofs.lemmas.Bool.Decides.{nat_tests}
use Rattle.std.proofs.lemmas.List.{append-nil, length_push}
use Rattle.st_text.specs.declared.line.Line.{Line}
use Rattle.st_text.specs.declared.line.Line.TheVariants as lines
use Rattle.st_text.specs.declared.fault.ReadFault.TheVariants as faults
use Rattle.st_text.specs.declared.limits.Limits.{Limits}
use Rattle.st_text.specs.Fault.{pids, last_of, is_event, is_act, may_stand, is_out_of_order}
use Rattle.st_text.specs.Fault.{is_foreign, is_one_too_many, line_fault, first_fault}
use Rattle.st_text.proofs.Newlines.{none_of}
use Rattle.st_text.proofs.BuilderSteps.{pids_push, count_push}

-- ---- what a line without a fault passed

pub record Passes (limits : Limits) (ls : List Line) (l : Line) : Type 0 where
  pub stands : may_stand ls l ≡ true
  pub order : is_out_of_order (last_of (pids ls)) l ≡ false
  pub own : is_foreign (last_of (pids ls)) l ≡ false
  pub few : is_one_too_many limits (length (pids ls)) (count_by is_event ls) (count_by is_act ls) l
      ≡ false

pub passes : (limits : Limits) (ls : List Line) (l : Line) → line_fault limits ls (Some l) ≡ None
    → Passes limits ls l
unfolding line_fault
passes limits ls l e =
    let many = is_one_too_many limits (length (pids ls)) (count_by is_event ls) (count_by is_act ls)
    l in
    let p =
    by (length ls + 1) (may_stand ls l) (is_out_of_order (last_of (pids ls)) l)
    (is_foreign (last_of (pids ls)) l) many
    e in
    record { stands = p.0; order = p.1; own = p.2; few = p.3 }
  where
    by : (n : ℕ) (a b c d : Bool)
        → cond (not a) (Some (faults.Line n))
        (cond b (Some (faults.Order n))
        (cond c (Some (faults.Foreign n)) (cond d (Some (faults.TooMany n)) None)))
        ≡ None
        → (a ≡ true) × (b ≡ false) × (c ≡ false) × (d ≡ false)
    by n true false false false e = (refl, refl, refl, refl)
    by n a b c d e = absurd cc

-- ---- how many lines of each kind there are

pub record AreFew (limits : Limits) (ls : List Line) : Type 0 where
  pub processes : length (pids ls) ≤ limits.processes
  pub events : count_by is_event ls ≤ limits.events
  pub acts : count_by is_act ls ≤ limits.acts

below : (m n : ℕ) → leb m n ≡ false → n + 1 ≤ m
below m n e = grind (arith, nat_tests)

-- one more line adds to the count of its own kind alone, and that count passed the test
one_more : (limits : Limits) (ls : List Line) (l : Line) → AreFew limits ls → Passes limits ls l
    → AreFew limits (ls ++ l ∷ [])
one_more limits ls (lines.Process q) g p =
    let l = lines.Process q in
    let room = below limits.processes (length (pids ls)) p.few in
    record {
      processes = omega (arith, ap length (pids_push ls l), length_push (pids ls) q, room);
      events = omega (arith, count_push is_event ls l, g.events);
      acts = omega (arith, count_push is_act ls l, g.acts);
    }
one_more limits ls (lines.Event e) g p =
    let l = lines.Event e in
    let room = below limits.events (count_by is_event ls) p.few in
    record {
      processes = omega (arith, ap length (pids_push ls l ∙ append-nil (pids ls)), g.processes);
      events = omega (arith, count_push is_event ls l, room);
      acts = omega (arith, count_push is_act ls l, g.acts);
    }
one_more limits ls (lines.Act a) g p =
    let l = lines.Act a in
    let room = below limits.acts (count_by is_act ls) p.few in
    record {
      processes = omega (arith, ap length (pids_push ls l ∙ append-nil (pids ls)), g.processes);
      events = omega (arith, count_push is_event ls l, g.events);
      acts = omega (arith, count_push is_act ls l, room);
    }
one_more limits ls l g p =
    record {
      processes = omega (arith, ap length (pids_push ls l ∙ append-nil (pids ls)), g.processes);
      events = omega (arith, count_push is_event ls l, g.events);
      acts = omega (arith, count_push is_act ls l, g.acts);
    }

more_few : (limits : Limits) (ls more : List Line) → AreFew limits ls
    → first_fault limits ls (map Some more) ≡ None
    → AreFew limits (ls ++ more)
unfolding first_fault
more_few limits ls [] g e = subst (AreFew limits) (sym (append-nil ls)) g
more_few limits ls (l ∷ more) g e =
    let p = none_of (line_fault limits ls (Some l))
    (first_fault limits (ls ++ l ∷ []) (map Some more)) e in
    let next = more_few limits (ls ++ l ∷ []) more (one_more limits ls l g (passes limits ls l p.0))
    p.1 in
    subst (AreFew limits) (append_assoc ls (l ∷ []) more) next

pub all_few : (limits : Limits) (ls : List Line) → first_fault limits [] (map Some ls) ≡ None
    → AreFew limits ls
all_few limits ls e =
    more_few limits [] ls (record {
      processes = omega arith;
      events = omega arith;
      acts =
          omega arith;
    }) e
