-- No test of a line or of the whole text returns Memory, Device or TooLarge, so none of these is
-- the fault of bytes within the limit.
use Rattle.std.proofs.Common.{◌≡◌, ℕ, ◌+◌, ◌≤◌, Bool, true, false, not, cond, List, [], ◌∷◌, ◌++◌}
use Rattle.std.proofs.Common.{length, Option, Some, None, ap, ◌∙◌, subst, nat_lt, eqb, ◌&&◌, arith}
use Rattle.std.specs.Prelude.{Result, Ok, Err}
use Rattle.std.specs.List.{list_any, count_by}
use Rattle.std.proofs.lemmas.Bool.Decides.{nat_tests}
use Rattle.st_text.specs.declared.bundle.Bundle.{Bundle}
use Rattle.st_core.specs.declared.types.Pid.{Pid}
use Rattle.st_text.specs.declared.line.Line.{Line}
use Rattle.st_text.specs.declared.fault.ReadFault.{ReadFault}
use Rattle.st_text.specs.declared.fault.ReadFault.TheVariants as faults
use Rattle.st_text.specs.Fault.{cut, pids, last_of, is_event, is_act, may_stand, is_out_of_order}
use Rattle.st_text.specs.Fault.{is_foreign, is_one_too_many, line_fault, first_fault, first_of}
use Rattle.st_text.specs.Fault.{truncated, needless, is_wide_header, is_unknown, unknown_from}
use Rattle.st_text.specs.Fault.{closing_fault, fault_within, sayings, said}
use Rattle.st_text.specs.Text.{is_remote}
use Rattle.st_text.specs.Answer.{IsReadResult}
use Rattle.st_text.specs.Reads.{Ends, ReadsAs}
use Rattle.st_text.specs.declared.limits.Limits.{Limits}

abbrev pub OfText : ReadFault → Type 0
OfText faults.Memory = ⊥
OfText faults.Device = ⊥
OfText faults.TooLarge = ⊥
OfText f = Unit {0}

abbrev AllOfText : Option ReadFault → Type 0
AllOfText None = Unit {0}
AllOfText (Some f) = OfText f

test_of : (b : Bool) (o p : Option ReadFault) → AllOfText o → AllOfText p → AllOfText (cond b o p)
test_of true o p x y = x
test_of false o p x y = y

either_of : (o p : Option ReadFault) → AllOfText o → AllOfText p → AllOfText (first_of o p)
either_of None p x y = y
either_of (Some f) p x y = x

line_of_text : (limits : Limits) (ls : List Line) (r : Option Line)
    → AllOfText (line_fault limits ls r)
unfolding line_fault
line_of_text limits ls None = tt
line_of_text limits ls (Some l) =
    test_of (not (may_stand ls l)) _ _ tt
    (test_of (is_out_of_order (last_of (pids ls)) l) _ _ tt
    (test_of (is_foreign (last_of (pids ls)) l) _ _ tt
    (test_of (is_one_too_many limits (length (pids ls)) (count_by is_event ls) (count_by is_act ls)
    l) _ _ tt tt)))

first_of_text : (limits : Limits) (ls : List Line) (rs : List (Option Line))
    → AllOfText (first_fault limits ls rs)
unfolding first_fault
first_of_text limits ls [] = tt
first_of_text limits ls (None ∷ rs) = line_of_text limits ls None
first_of_text limits ls (Some l ∷ rs) =
    either_of (line_fault limits ls (Some l)) (first_fault limits (ls ++ l ∷ []) rs)
    (line_of_text limits ls (Some l))
    (first_of_text limits (ls ++ l ∷ []) rs)

unknown_of_text : (ps : List Pid) (n : ℕ) (ls : List Line) → AllOfText (unknown_from ps n ls)
unfolding unknown_from
unknown_of_text ps n [] = tt
unknown_of_text ps n (l ∷ ls) = test_of (is_unknown ps l) _ _ tt (unknown_of_text ps (n + 1) ls)

whole_of_text : (limits : Limits) (bytes : List ℕ) → length bytes ≤ limits.bytes
    → AllOfText (fault_within limits bytes)
unfolding fault_within
whole_of_text limits bytes small =
    let t : nat_lt limits.bytes (length bytes) ≡ false = grind (arith, nat_tests) in
    let ls = said (sayings bytes) in
    rw t (either_of (first_fault limits [] (sayings bytes)) _
    (first_of_text limits [] (sayings bytes))
    (either_of (truncated bytes) (closing_fault (said (sayings bytes)))
    (test_of (eqb (length (cut bytes).1) 0 && not (eqb (length (cut bytes).0) 0)) _ _ tt tt)
    (either_of (needless (said (sayings bytes))) _
    (test_of (list_any is_wide_header (said (sayings bytes))
    && not (list_any is_remote (said (sayings bytes)))) _ _ tt
    tt) (unknown_of_text (pids (said (sayings bytes))) 1 (said (sayings bytes))))))

of_text : (limits : Limits) (bytes : List ℕ) (f : ReadFault) → length bytes ≤ limits.bytes
    → fault_within limits bytes ≡ Some f → OfText f
of_text limits bytes f small e = let P : Option ReadFault → Type 0 = AllOfText in
    subst P e (whole_of_text limits bytes small)

-- the result at the source's end
pub reads_end : (limits : Limits) {S : Type 0} (ended : S → Type 0) (failed : S → Bool)
    (bytes : List ℕ) (old new : S) (r : Result Bundle ReadFault)
    → length bytes ≤ limits.bytes → Ends limits ended failed bytes old new r
    → ReadsAs limits ended failed bytes old new r
reads_end limits ended failed bytes old new (Err faults.Device) small e =
    absurd (of_text limits bytes faults.Device small e.answer)
reads_end limits ended failed bytes old new (Err faults.TooLarge) small e =
    absurd (of_text limits bytes faults.TooLarge small e.answer)
reads_end limits ended failed bytes old new r small e = e

pub no_memory : (limits : Limits) (bytes : List ℕ) (r : Result Bundle ReadFault)
    → length bytes ≤ limits.bytes
    → IsReadResult limits bytes r
    → r ≡ Err faults.Memory → ⊥
no_memory limits bytes (Ok b) small h e = absurd cc
no_memory limits bytes (Err f) small h e =
    let same : f ≡ faults.Memory = cc in
    of_text limits bytes faults.Memory small (h ∙ ap (λ (x : ReadFault). Some x) same)
