-- The fault of lines is that of the first faulty line, and `Unknown` names the first line with an
-- unlisted pid: both are found by going through the lines from the front.
use Rattle.std.proofs.Common.{◌≡◌, ℕ, ◌+◌, Bool, true, false, cond, List, [], ◌∷◌, ◌++◌, map}
use Rattle.std.proofs.Common.{Option, Some, None, refl, sym, ap, ◌∙◌, append_assoc, arith}
use Rattle.std.proofs.lemmas.List.{append-nil}
use Rattle.st_core.specs.declared.types.Pid.{Pid}
use Rattle.st_text.specs.declared.limits.Limits.{Limits}
use Rattle.st_text.specs.declared.line.Line.{Line}
use Rattle.st_text.specs.declared.fault.ReadFault.{ReadFault}
use Rattle.st_text.specs.declared.fault.ReadFault.TheVariants as faults
use Rattle.st_text.specs.Fault.{line_fault, first_fault, first_of, is_unknown, unknown_from}
use Rattle.st_text.specs.Laws.{FailsFirst, IsFirstUnknown}

-- the first faulty line after good ones
record Fails (limits : Limits) (ls : List Line) (rs : List (Option Line)) (f : ReadFault) : Type 0
  where
    before : List Line
    here : Option Line
    after : List (Option Line)
    lines : rs ≡ map Some before ++ here ∷ after
    good : first_fault limits ls (map Some before) ≡ None
    fault : line_fault limits (ls ++ before) here ≡ Some f

here_fails : (limits : Limits) (ls : List Line) (r : Option Line) (rs : List (Option Line))
    (f : ReadFault)
    → line_fault limits ls r ≡ Some f
    → Fails limits ls (r ∷ rs) f
unfolding first_fault
here_fails limits ls r rs f e =
    record {
      before = [];
      here = r;
      after = rs;
      lines = refl;
      good = refl;
      fault = ap (λ (x : List Line). line_fault limits x r) (append-nil ls) ∙ e;
    }

later_fails : (limits : Limits) (ls : List Line) (l : Line) (rs : List (Option Line))
    (f : ReadFault)
    → line_fault limits ls (Some l) ≡ None
    → Fails limits (ls ++ l ∷ []) rs f → Fails limits ls (Some l ∷ rs) f
unfolding first_fault
later_fails limits ls l rs f good h =
    record {
      before = l ∷ h.before;
      here = h.here;
      after = h.after;
      lines = ap (λ (x : List (Option Line)). Some l ∷ x) h.lines;
      good = rw good h.good;
      fault = ap (λ (x : List Line). line_fault limits x h.here)
          (sym (append_assoc ls (l ∷ []) h.before)) ∙ h.fault;
    }

fails : (limits : Limits) (ls : List Line) (rs : List (Option Line)) (f : ReadFault)
    → first_fault limits ls rs ≡ Some f → Fails limits ls rs f
unfolding first_fault
fails limits ls [] f e = absurd cc
fails limits ls (None ∷ rs) f e = here_fails limits ls None rs f e
fails limits ls (Some l ∷ rs) f e =
    by (line_fault limits ls (Some l)) refl (fails limits (ls ++ l ∷ []) rs f) e
  where
    by : (o : Option ReadFault) → line_fault limits ls (Some l) ≡ o
        → (first_fault limits (ls ++ l ∷ []) rs ≡ Some f → Fails limits (ls ++ l ∷ []) rs f)
        → first_of o (first_fault limits (ls ++ l ∷ []) rs) ≡ Some f
        → Fails limits ls (Some l ∷ rs) f
    by None good more e = later_fails limits ls l rs f good (more e)
    by (Some g) bad more e = here_fails limits ls (Some l) rs f (bad ∙ e)

pub fails_first : (limits : Limits) (rs : List (Option Line)) (f : ReadFault)
    → first_fault limits [] rs ≡ Some f
    → FailsFirst limits rs f
fails_first limits rs f e =
    let h = fails limits [] rs f e in
    record {
      before = h.before;
      here = h.here;
      after = h.after;
      lines = h.lines;
      good = h.good;
      fault = h.fault;
    }

-- ---- unlisted pids

one_later : (ps : List Pid) (n : ℕ) (l : Line) (ls : List Line) (f : ReadFault)
    → IsFirstUnknown ps (n + 1) ls f
    → is_unknown ps l ≡ false → IsFirstUnknown ps n (l ∷ ls) f
one_later ps n l ls f h known =
    record {
      before = l ∷ h.before;
      here = h.here;
      after = h.after;
      lines = ap (λ (x : List Line). l ∷ x) h.lines;
      known = rw known h.known;
      unknown = h.unknown;
      fault = h.fault ∙ ap faults.Unknown (omega arith);
    }

pub first_unknown : (ps : List Pid) (n : ℕ) (ls : List Line) (f : ReadFault)
    → unknown_from ps n ls ≡ Some f
    → IsFirstUnknown ps n ls f
unfolding unknown_from
first_unknown ps n [] f e = absurd cc
first_unknown ps n (l ∷ ls) f e = by (is_unknown ps l) refl (first_unknown ps (n + 1) ls f) e
  where
    here : is_unknown ps l ≡ true → faults.Unknown n ≡ f → IsFirstUnknown ps n (l ∷ ls) f
    here is e =
        record {
          before = [];
          here = l;
          after = ls;
          lines = refl;
          known = refl;
          unknown = is;
          fault = sym e ∙ ap faults.Unknown (omega arith);
        }

    by : (t : Bool) → is_unknown ps l ≡ t
        → (unknown_from ps (n + 1) ls ≡ Some f → IsFirstUnknown ps (n + 1) ls f)
        → cond t (Some (faults.Unknown n)) (unknown_from ps (n + 1) ls) ≡ Some f
        → IsFirstUnknown ps n (l ∷ ls) f
    by true is more e = here is cc
    by false is more e = one_later ps n l ls f (more e) is
