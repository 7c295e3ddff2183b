-- The fault of a next line depends on what the builder keeps of the lines before, and on nothing
-- else of them.
use Rattle.std.proofs.Common.{◌≡◌, ℕ, ◌+◌, ◌≤◌, ◌<◌, Bool, true, false, not, ◌&&◌, ◌||◌, cond, leb}
use Rattle.std.proofs.Common.{List, ◌∷◌, Option, Some, None, refl, sym, ap, ◌∙◌, arith}
use Rattle.std.specs.Prelude.{is_some}
use Rattle.std.proofs.lemmas.Bool.Decides.{nat_tests}
use Rattle.std.specs.Ordering.{is_lt}
use Rattle.st_core.specs.declared.types.Pid.{Pid}
use Rattle.st_core.specs.declared.types.Event.{Event}
use Rattle.st_core.specs.declared.types.Act.{Act}
use Rattle.st_core.specs.Pid.{pid_cmp}
use Rattle.st_core.specs.Streams.{is_own}
use Rattle.st_text.specs.declared.limits.Limits.{Limits}
use Rattle.st_text.specs.declared.line.Line.{Line}
use Rattle.st_text.specs.declared.line.Line.TheVariants as lines
use Rattle.st_text.specs.declared.fault.ReadFault.{ReadFault}
use Rattle.st_text.specs.declared.fault.ReadFault.TheVariants as faults
use Rattle.st_text.specs.declared.builder.BundleBuilder.{BundleBuilder}
use Rattle.st_text.specs.Parts.Counts.{acts_len}
use Rattle.st_text.specs.Parts.Remote.{is_event_remote, is_act_remote}
use Rattle.st_text.specs.Text.{is_away, is_remote}
use Rattle.st_text.specs.Growth.{is_kept_line}
use Rattle.st_text.specs.Parts.Builder.{IsBuilt, NeedsRoom}
use Rattle.st_text.specs.Fault.{pids, last_of, last_passes, has_acts, may_follow, may_stand}
use Rattle.st_text.specs.Fault.{is_out_of_order, is_foreign, is_one_too_many, line_fault}
use Rattle.st_core.proofs.ForCallers.{or_false, both_true}

-- the fault by the tests in their order
pub fault_by : ℕ → Bool → Bool → Bool → Bool → Option ReadFault
fault_by n stands out foreign many =
    cond (not stands) (Some (faults.Line n))
    (cond out (Some (faults.Order n)) (cond foreign (Some (faults.Foreign n))
    (cond many (Some (faults.TooMany n)) None)))

pub stands_is : (ls b : List Line) (w begun : Bool) (o : Option Pid) (l : Line)
    → ls ≡ lines.Header w ∷ b
    → has_acts ls ≡ begun → last_of (pids ls) ≡ o
    → may_stand ls l ≡ (may_follow begun o l && (w || not (is_remote l)))
stands_is ls b w begun o l e h p =
    ap (λ (x : List Line). may_stand x l) e
    ∙ rw (sym (ap has_acts e) ∙ h, sym (ap (λ (x : List Line). last_of (pids x)) e) ∙ p) refl

pub fault_is : (limits : Limits) (p : BundleBuilder) (ls : List Line) (l : Line) → IsBuilt p ls
    → line_fault limits ls (Some l) ≡ fault_by (p.lines + 1)
    (may_follow (is_some p.acts) p.last l && (p.wide || not (is_remote l)))
    (is_out_of_order p.last l)
    (is_foreign p.last l) (is_one_too_many limits p.processes p.events (acts_len p.acts) l)
unfolding line_fault fault_by
fault_is limits p ls l s =
    let stands = stands_is ls _ p.wide (is_some p.acts) p.last l s.lines (sym s.begun_is)
    (sym s.last_is) in
    rw (stands, ← s.last_is, ← s.count, ← s.processes_are, ← s.events_are, ← s.acts_are) refl

pub open_fault : (limits : Limits) (p : BundleBuilder) (ls : List Line) (q : Pid) → IsBuilt p ls
    → line_fault limits ls (Some (lines.Process q))
    ≡ fault_by (p.lines + 1) (not (is_some p.acts) && (p.wide || not (is_away q)))
    (last_passes (λ r. not (is_lt (pid_cmp r q))) p.last) false (leb limits.processes p.processes)
open_fault limits p ls q s =
    fault_is limits p ls (lines.Process q) s ∙ rw (or_false (is_away q)) refl

pub report_fault : (limits : Limits) (p : BundleBuilder) (ls : List Line) (e : Event) → IsBuilt p ls
    → line_fault limits ls (Some (lines.Event e))
    ≡ fault_by (p.lines + 1) (not (is_some p.acts) && last_passes (λ r. true) p.last &&
    (p.wide || not (is_event_remote e))) false (last_passes (λ r. not (is_own r e)) p.last)
    (leb limits.events p.events)
report_fault limits p ls e s = fault_is limits p ls (lines.Event e) s

pub begin_fault : (limits : Limits) (p : BundleBuilder) (ls : List Line) → IsBuilt p ls
    → line_fault limits ls (Some lines.Acts)
    ≡ fault_by (p.lines + 1) (not (is_some p.acts) && (p.wide || true)) false
    false
    false
begin_fault limits p ls s = fault_is limits p ls lines.Acts s

pub act_fault : (limits : Limits) (p : BundleBuilder) (ls : List Line) (a : Act) → IsBuilt p ls
    → line_fault limits ls (Some (lines.Act a))
    ≡ fault_by (p.lines + 1) (is_some p.acts && (p.wide || not (is_act_remote a))) false false
    (leb limits.acts (acts_len p.acts))
act_fault limits p ls a s = fault_is limits p ls (lines.Act a) s

pub header_fault : (limits : Limits) (p : BundleBuilder) (ls : List Line) (b : Bool) → IsBuilt p ls
    → line_fault limits ls (Some (lines.Header b)) ≡ Some (faults.Line (p.lines + 1))
unfolding fault_by
header_fault limits p ls b s = fault_is limits p ls (lines.Header b) s

-- ---- the tests in a row

pub no_line : (n : ℕ) (stands out foreign many : Bool) → stands ≡ false
    → fault_by n stands out foreign many ≡ Some (faults.Line n)
unfolding fault_by
no_line n stands out foreign many e = rw e refl

pub no_order : (n : ℕ) (stands out foreign many : Bool) → stands ≡ true → out ≡ true
    → fault_by n stands out foreign many ≡ Some (faults.Order n)
unfolding fault_by
no_order n stands out foreign many e f = rw (e, f) refl

pub not_own : (n : ℕ) (stands out foreign many : Bool) → stands ≡ true → out ≡ false
    → foreign ≡ true
    → fault_by n stands out foreign many ≡ Some (faults.Foreign n)
unfolding fault_by
not_own n stands out foreign many e f g = rw (e, f, g) refl

pub too_many : (n : ℕ) (stands out foreign many : Bool) → stands ≡ true → out ≡ false
    → foreign ≡ false → many ≡ true
    → fault_by n stands out foreign many ≡ Some (faults.TooMany n)
unfolding fault_by
too_many n stands out foreign many e f g h = rw (e, f, g, h) refl

pub no_fault : (n : ℕ) (stands out foreign many : Bool) → stands ≡ true → out ≡ false
    → foreign ≡ false → many ≡ false
    → fault_by n stands out foreign many ≡ None
unfolding fault_by
no_fault n stands out foreign many e f g h = rw (e, f, g, h) refl

-- ---- which lines may come

pub begun_out : (a x : Bool) → a ≡ true → (not a && x) ≡ false
begun_out a x e = rw e refl

pub away_out : (f wide away : Bool) → (away && not wide) ≡ true → (f && (wide || not away)) ≡ false
away_out true true true e = absurd cc
away_out true false true e = refl
away_out true wide false e = absurd cc
away_out false wide away e = refl

pub let_in : (f wide away : Bool) → f ≡ true → (away && not wide) ≡ false
    → (f && (wide || not away)) ≡ true
let_in f false true e h = absurd cc
let_in f wide away e h = rw e refl

pub not_begun : (a : Bool) → a ≡ false → not a ≡ true
not_begun a e = rw e refl

pub none_of_acts : {A : Type 0} (o : Option A) → is_some o ≡ false → o ≡ None
none_of_acts None e = refl
none_of_acts (Some x) e = absurd cc

pub at_most : (m n : ℕ) → m ≤ n → leb m n ≡ true
at_most m n le = grind (arith, nat_tests)

pub below : (m n : ℕ) → n < m → leb m n ≡ false
below m n lt = grind (arith, nat_tests)

pub passes_at : (test : Pid → Bool) (o : Option Pid) (q : Pid) (b : Bool) → o ≡ Some q → test q ≡ b
    → last_passes test o ≡ b
passes_at test o q b e f = ap (last_passes test) e ∙ f

pub passes_none : (test : Pid → Bool) (o : Option Pid) → o ≡ None → last_passes test o ≡ false
passes_none test o e = ap (last_passes test) e

pub out_first : (a b x : Bool) → (a && b) ≡ false → (a && b && x) ≡ false
out_first a b x e = rw e refl

pub unsaid_fault : (limits : Limits) (p : BundleBuilder) (ls : List Line) → IsBuilt p ls
    → line_fault limits ls None ≡ Some (faults.Line (p.lines + 1))
unfolding line_fault
unsaid_fault limits p ls s = ap (λ n. Some (faults.Line (n + 1))) (sym s.count)

-- ---- a line that is kept

pub open_good : (limits : Limits) (p : BundleBuilder) (ls : List Line) (q : Pid) → IsBuilt p ls
    → is_some p.acts ≡ false
    → (is_away q && not p.wide) ≡ false
    → last_passes (λ r. not (is_lt (pid_cmp r q))) p.last ≡ false → p.processes < limits.processes
    → line_fault limits ls (Some (lines.Process q)) ≡ None
open_good limits p ls q s begun out order few =
    let stands = let_in (not (is_some p.acts)) p.wide (is_away q) (not_begun _ begun) out in
    open_fault limits p ls q s ∙ no_fault (p.lines + 1) _ _ _ _ stands order refl
    (below limits.processes p.processes few)

pub report_good : (limits : Limits) (p : BundleBuilder) (ls : List Line) (e : Event) (q : Pid)
    → IsBuilt p ls
    → is_some p.acts ≡ false
    → (is_event_remote e && not p.wide) ≡ false
    → p.last ≡ Some q → is_own q e ≡ true → p.events < limits.events
    → line_fault limits ls (Some (lines.Event e)) ≡ None
report_good limits p ls e q s begun out at own few =
    let follows =
    both_true (not (is_some p.acts)) _ (not_begun _ begun)
    (passes_at (λ r. true) p.last q true at refl) in
    let foreign = passes_at (λ r. not (is_own r e)) p.last q false at (ap not own) in
    report_fault limits p ls e s
    ∙ no_fault (p.lines + 1) _ _ _ _ (let_in _ p.wide (is_event_remote e) follows out) refl foreign
    (below limits.events p.events few)

pub act_good : (limits : Limits) (p : BundleBuilder) (ls : List Line) (a : Act) (list : List Act)
    → IsBuilt p ls
    → p.acts ≡ Some list
    → (is_act_remote a && not p.wide) ≡ false
    → acts_len p.acts < limits.acts → line_fault limits ls (Some (lines.Act a)) ≡ None
act_good limits p ls a list s some out few =
    act_fault limits p ls a s
    ∙ no_fault (p.lines + 1) _ _ _ _ (let_in _ p.wide (is_act_remote a) (ap is_some some) out) refl
    refl
    (below limits.acts (acts_len p.acts) few)

pub needs_room : (limits : Limits) (ls : List Line) (l : Line)
    → line_fault limits ls (Some l) ≡ None
    → is_kept_line l ≡ true → NeedsRoom limits ls (Some l)
needs_room limits ls l good kept = record { line = l; said_is = refl; good = good; kept = kept }
