-- If no line has a fault, the header is wide exactly if a pid of another node is named.
use Rattle.std.proofs.Common.{◌≡◌, ℕ, ◌+◌, Bool, true, false, not, ◌&&◌, ◌||◌, cond, List, [], ◌∷◌}
use Rattle.std.proofs.Common.{◌++◌, length, map, Option, Some, None, refl, sym, ap, ◌∙◌}
use Rattle.std.specs.List.{list_any, flat_map, AllByRecursion}
use Rattle.st_text.specs.declared.limits.Limits.{Limits}
use Rattle.st_text.specs.declared.line.Line.{Line}
use Rattle.st_text.specs.declared.line.Line.TheVariants as lines
use Rattle.st_text.specs.declared.fault.ReadFault.{ReadFault}
use Rattle.st_text.specs.declared.fault.ReadFault.TheVariants as faults
use Rattle.st_text.specs.Parsing.{line_of}
use Rattle.st_text.specs.Range.{Fits}
use Rattle.st_text.specs.Text.{is_remote, Contents, body, ended, spelling}
use Rattle.st_text.specs.Fault.{cut, sayings, first_fault, line_fault, first_of, may_stand}
use Rattle.st_text.specs.Fault.{may_follow, has_acts}
use Rattle.st_text.specs.Fault.{last_of, pids, is_wide_header, closing_fault, unknown_from}
use Rattle.st_text.proofs.Newlines.{none_of}
use Rattle.st_text.proofs.LineLemmas.{line_takes}
use Rattle.st_core.proofs.ForCallers.{not_true, right_of}

stands : (limits : Limits) (ls : List Line) (l : Line) → line_fault limits ls (Some l) ≡ None
    → may_stand ls l ≡ true
unfolding line_fault
stands limits ls l e = by (may_stand ls l) _ e
  where
    by : (b : Bool) (o : Option ReadFault) → cond (not b) (Some (faults.Line (length ls + 1))) o
        ≡ None → b ≡ true
    by true o e = refl
    by false o e = absurd cc

-- under header 1 no line names a pid of another node
pub no_remote : (limits : Limits) (first : Line) (ls more : List Line)
    → is_wide_header first ≡ false
    → first_fault limits (first ∷ ls) (map Some more) ≡ None → list_any is_remote more ≡ false
unfolding first_fault
no_remote limits first ls [] narrow good = refl
no_remote limits first ls (l ∷ more) narrow good =
    let p = none_of (line_fault limits (first ∷ ls) (Some l))
    (first_fault limits ((first ∷ ls) ++ l ∷ []) (map Some more)) good in
    let at : may_stand (first ∷ ls) l ≡ true = stands limits (first ∷ ls) l p.0 in
    let allowed : (is_wide_header first || not (is_remote l)) ≡ true =
    right_of (may_follow (has_acts (first ∷ ls)) (last_of (pids (first ∷ ls))) l)
    (is_wide_header first || not (is_remote l)) at in
    let here : is_remote l ≡ false =
    not_true (is_remote l) (sym (ap (λ (b : Bool). b || not (is_remote l)) narrow) ∙ allowed) in
    rw here (no_remote limits first (ls ++ l ∷ []) more narrow p.1)

needed : (wide remote : Bool) (o : Option ReadFault)
    → first_of (cond (wide && not remote) (Some (faults.Line 1)) None) o ≡ None → wide ≡ true
    → remote ≡ true
needed true true o e w = refl
needed true false o e w = absurd cc
needed false remote o e w = absurd cc

pub wide_is : (limits : Limits) (wide : Bool) (ls : List Line)
    → first_fault limits [] (map Some (lines.Header wide ∷ ls)) ≡ None
    → closing_fault (lines.Header wide ∷ ls) ≡ None → wide ≡ list_any is_remote ls
unfolding first_fault
wide_is limits false ls good closed =
    let p =
    none_of (line_fault limits [] (Some (lines.Header false)))
    (first_fault limits (lines.Header false ∷ []) (map Some ls))
    good in
    sym (no_remote limits (lines.Header false) [] ls refl p.1)
wide_is limits true ls good closed =
    sym (needed true (list_any is_remote ls)
    (unknown_from (pids (lines.Header true ∷ ls)) 1 (lines.Header true ∷ ls))
    closed refl)

pub spelled_whole : (limits : Limits) (bytes : List ℕ) (wide : Bool) (c : Contents)
    → sayings bytes ≡ map Some (lines.Header wide ∷ body c)
    → first_fault limits [] (sayings bytes) ≡ None
    → closing_fault (lines.Header wide ∷ body c) ≡ None
    → bytes ≡ flat_map ended (lines.Header wide ∷ body c) → bytes ≡ spelling c
spelled_whole limits bytes wide c says good closed whole =
    whole
    ∙ ap (λ (w : Bool). flat_map ended (lines.Header w ∷ body c))
    (wide_is limits wide (body c) (ap (first_fault limits []) (sym says) ∙ good) closed)

-- the values of lines that were read are in range
lines_fit : (bs : List (List ℕ)) (ls : List Line) → map line_of bs ≡ map Some ls
    → AllByRecursion Fits ls
lines_fit bs [] e = tt
lines_fit [] (l ∷ ls) e = absurd cc
lines_fit (b ∷ bs) (l ∷ ls) e =
    let first : line_of b ≡ Some l = cc in
    let others : map line_of bs ≡ map Some ls = cc in
    ((line_takes b l first).1, lines_fit bs ls others)

pub body_fits : (bytes : List ℕ) (wide : Bool) (c : Contents)
    → sayings bytes ≡ map Some (lines.Header wide ∷ body c)
    → AllByRecursion Fits (body c)
body_fits bytes wide c says = (lines_fit (cut bytes).0 (lines.Header wide ∷ body c) says).1
