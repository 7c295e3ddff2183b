-- Bytes are cut from the front, but one more byte or line at their end changes only the last line.
use Rattle.std.proofs.Common.{◌≡◌, ℕ, ◌≤◌, Bool, true, false, cond, eqb, List, [], ◌∷◌, ◌++◌}
use Rattle.std.proofs.Common.{length, map, Option, Some}
use Rattle.std.proofs.Common.{None, refl, sym, ap, ◌∙◌, append_assoc, arith, nat_lt, ◌<◌, ◌&&◌, not}
use Rattle.std.proofs.lemmas.Bool.Decides.{nat_tests}
use Rattle.std.proofs.lemmas.List.{append-nil, map_push, length-map}
use Rattle.st_text.specs.declared.line.Line.{Line}
use Rattle.st_text.specs.declared.fault.ReadFault.{ReadFault}
use Rattle.st_text.specs.Parsing.{line_of}
use Rattle.st_text.specs.declared.fault.ReadFault.TheVariants as faults
use Rattle.std.proofs.lemmas.Bool.{eqb-true}
use Rattle.std.specs.List.{flat_map}
use Rattle.st_text.specs.Text.{ended}
use Rattle.st_text.proofs.LineLemmas.{line_takes}
use Rattle.st_text.specs.Fault.{cut, onto_first, sayings, first_fault, line_fault, first_of}
use Rattle.st_text.specs.Fault.{fault_within, truncated, closing_fault, said}
use Rattle.st_text.specs.declared.limits.Limits.{Limits}

abbrev Cut : Type 0
Cut = List (List ℕ) × List ℕ

onto_newline : (b : ℕ) (ls : List (List ℕ)) (tail : List ℕ)
    → onto_first b (ls ++ tail ∷ []) []
    ≡ ((onto_first b ls tail).0 ++ (onto_first b ls tail).1 ∷ [], [])
onto_newline b [] tail = refl
onto_newline b (l ∷ ls) tail = refl

onto_byte : (b c : ℕ) (ls : List (List ℕ)) (tail : List ℕ)
    → onto_first b ls (tail ++ c ∷ [])
    ≡ ((onto_first b ls tail).0, (onto_first b ls tail).1 ++ c ∷ [])
onto_byte b c [] tail = refl
onto_byte b c (l ∷ ls) tail = refl

-- a newline ends the unfinished line
pub cut_newline : (bytes : List ℕ)
    → cut (bytes ++ 10 ∷ []) ≡ ((cut bytes).0 ++ (cut bytes).1 ∷ [], [])
cut_newline [] = refl
cut_newline (b ∷ bytes) = by (eqb b 10) (cut_newline bytes)
  where
    by : (t : Bool) → cut (bytes ++ 10 ∷ []) ≡ ((cut bytes).0 ++ (cut bytes).1 ∷ [], [])
        → cond t ([] ∷ (cut (bytes ++ 10 ∷ [])).0, (cut (bytes ++ 10 ∷ [])).1)
        (onto_first b (cut (bytes ++ 10 ∷ [])).0 (cut (bytes ++ 10 ∷ [])).1)
        ≡ (
          (cond t ([] ∷ (cut bytes).0, (cut bytes).1) (onto_first b (cut bytes).0 (cut bytes).1)).0
              ++ (cond t ([] ∷ (cut bytes).0, (cut bytes).1)
              (onto_first b (cut bytes).0 (cut bytes).1)).1 ∷ [],
          [],
        )
    by true more = ap (λ (x : Cut). ([] ∷ x.0, x.1)) more
    by false more = ap (λ (x : Cut). onto_first b x.0 x.1) more
        ∙ onto_newline b (cut bytes).0 (cut bytes).1

-- another byte joins the unfinished line
pub cut_byte : (bytes : List ℕ) (c : ℕ) → eqb c 10 ≡ false
    → cut (bytes ++ c ∷ []) ≡ ((cut bytes).0, (cut bytes).1 ++ c ∷ [])
cut_byte [] c other = rw other refl
cut_byte (b ∷ bytes) c other = by (eqb b 10) (cut_byte bytes c other)
  where
    by : (t : Bool) → cut (bytes ++ c ∷ []) ≡ ((cut bytes).0, (cut bytes).1 ++ c ∷ [])
        → cond t ([] ∷ (cut (bytes ++ c ∷ [])).0, (cut (bytes ++ c ∷ [])).1)
        (onto_first b (cut (bytes ++ c ∷ [])).0 (cut (bytes ++ c ∷ [])).1)
        ≡ (
          (cond t ([] ∷ (cut bytes).0, (cut bytes).1) (onto_first b (cut bytes).0 (cut bytes).1)).0,
          (cond t ([] ∷ (cut bytes).0, (cut bytes).1) (onto_first b (cut bytes).0 (cut bytes).1)).1
              ++ c ∷ [],
        )
    by true more = ap (λ (x : Cut). ([] ∷ x.0, x.1)) more
    by false more = ap (λ (x : Cut). onto_first b x.0 x.1) more
        ∙ onto_byte b c (cut bytes).0 (cut bytes).1

pub sayings_newline : (bytes : List ℕ)
    → sayings (bytes ++ 10 ∷ []) ≡ sayings bytes ++ line_of (cut bytes).1 ∷ []
sayings_newline bytes =
    ap (λ (x : Cut). map line_of x.0) (cut_newline bytes) ∙ map_push line_of (cut bytes).0
    (cut bytes).1

pub sayings_byte : (bytes : List ℕ) (c : ℕ) → eqb c 10 ≡ false
    → sayings (bytes ++ c ∷ []) ≡ sayings bytes
sayings_byte bytes c other = ap (λ (x : Cut). map line_of x.0) (cut_byte bytes c other)

-- ---- faults

pub none_of : (o p : Option ReadFault) → first_of o p ≡ None → (o ≡ None) × (p ≡ None)
none_of None p e = (refl, e)
none_of (Some f) p e = absurd cc

-- after good lines the fault is that of the next line
pub fault_push : (limits : Limits) (ls more : List Line) (r : Option Line)
    → first_fault limits ls (map Some more) ≡ None
    → first_fault limits ls (map Some more ++ r ∷ []) ≡ line_fault limits (ls ++ more) r
unfolding first_fault
fault_push limits ls [] None good =
    ap (λ (x : List Line). line_fault limits x None) (sym (append-nil ls))
fault_push limits ls [] (Some l) good =
    by (line_fault limits ls (Some l)) ∙ ap (λ (x : List Line). line_fault limits x (Some l))
    (sym (append-nil ls))
  where
    by : (o : Option ReadFault) → first_of o None ≡ o
    by None = refl
    by (Some f) = refl
fault_push limits ls (k ∷ more) r good =
    let p = none_of (line_fault limits ls (Some k))
    (first_fault limits (ls ++ k ∷ []) (map Some more)) good in
    rw p.0 (fault_push limits (ls ++ k ∷ []) more r p.1
    ∙ ap (λ (x : List Line). line_fault limits x r) (append_assoc ls (k ∷ []) more))

-- a fault stays the first one, whatever lines follow
pub fault_stays : (limits : Limits) (ls : List Line) (rs more : List (Option Line)) (f : ReadFault)
    → first_fault limits ls rs ≡ Some f
    → first_fault limits ls (rs ++ more) ≡ Some f
unfolding first_fault
fault_stays limits ls [] more f e = absurd cc
fault_stays limits ls (None ∷ rs) more f e = e
fault_stays limits ls (Some l ∷ rs) more f e = by (line_fault limits ls (Some l)) e
    (fault_stays limits (ls ++ l ∷ []) rs more f)
  where
    by : (o : Option ReadFault) → first_of o (first_fault limits (ls ++ l ∷ []) rs) ≡ Some f
        → (first_fault limits (ls ++ l ∷ []) rs ≡ Some f
        → first_fault limits (ls ++ l ∷ []) (rs ++ more) ≡ Some f)
        → first_of o (first_fault limits (ls ++ l ∷ []) (rs ++ more)) ≡ Some f
    by None e more = more e
    by (Some g) e more = e

-- ---- all the bytes

abbrev with_newline : List ℕ → List ℕ
with_newline l = l ++ 10 ∷ []

cut_back : (bytes : List ℕ) → bytes ≡ flat_map with_newline (cut bytes).0 ++ (cut bytes).1
cut_back [] = refl
cut_back (b ∷ bytes) = by (eqb b 10) refl (cut_back bytes)
  where
    onto : (b : ℕ) (ls : List (List ℕ)) (tail : List ℕ)
        → b ∷ (flat_map with_newline ls ++ tail) ≡ flat_map with_newline (onto_first b ls tail).0
        ++ (onto_first b ls tail).1
    onto b [] tail = refl
    onto b (l ∷ ls) tail = refl

    by : (t : Bool) → eqb b 10 ≡ t → bytes ≡ flat_map with_newline (cut bytes).0 ++ (cut bytes).1
        → b ∷ bytes ≡ flat_map with_newline
        (cond t ([] ∷ (cut bytes).0, (cut bytes).1) (onto_first b (cut bytes).0 (cut bytes).1)).0
        ++ (cond t ([] ∷ (cut bytes).0, (cut bytes).1) (onto_first b (cut bytes).0 (cut bytes).1)).1
    by true is more = let ten : b ≡ 10 = eqb-true b 10 is in
        rw ten (ap (λ (x : List ℕ). 10 ∷ x) more)
    by false is more = ap (λ (x : List ℕ). b ∷ x) more ∙ onto b (cut bytes).0 (cut bytes).1

lines_back : (bs : List (List ℕ)) (ls : List Line) → map line_of bs ≡ map Some ls
    → flat_map with_newline bs ≡ flat_map ended ls
lines_back [] [] e = refl
lines_back (b ∷ bs) (l ∷ ls) e =
    let first : line_of b ≡ Some l = cc in
    let others : map line_of bs ≡ map Some ls = cc in
    let spelled = (line_takes b l first).0 in
    ap (λ (x : List ℕ). with_newline x ++ flat_map with_newline bs) spelled
    ∙ ap (λ (x : List ℕ). ended l ++ x) (lines_back bs ls others)
lines_back bs ls e = absurd cc

-- bytes are the spelling of their lines, and then the unfinished line
pub spelled_by : (bytes : List ℕ) (ls : List Line) → sayings bytes ≡ map Some ls
    → bytes ≡ flat_map ended ls ++ (cut bytes).1
spelled_by bytes ls e = cut_back bytes ∙ ap (λ (x : List ℕ). x ++ (cut bytes).1)
    (lines_back (cut bytes).0 ls e)

pub said_back : (ls : List Line) → said (map Some ls) ≡ ls
said_back [] = refl
said_back (l ∷ ls) = ap (λ (x : List Line). l ∷ x) (said_back ls)

pub no_lines : (bytes : List ℕ) → sayings bytes ≡ [] → length (cut bytes).0 ≡ 0
no_lines bytes e = sym (length-map (cut bytes).0 line_of) ∙ ap length e

-- ---- the fault of all the bytes

pub fault_too_large : (limits : Limits) (bytes : List ℕ) → limits.bytes < length bytes
    → fault_within limits bytes ≡ Some faults.TooLarge
unfolding fault_within
fault_too_large limits bytes large = let t : nat_lt limits.bytes (length bytes) ≡ true =
    grind (arith, nat_tests) in
    rw t refl

small_test : (limits : Limits) (bytes : List ℕ) → length bytes ≤ limits.bytes
    → nat_lt limits.bytes (length bytes) ≡ false
small_test limits bytes small = grind (arith, nat_tests)

pub fault_of_line : (limits : Limits) (bytes : List ℕ) (f : ReadFault) → length bytes ≤ limits.bytes
    → first_fault limits [] (sayings bytes) ≡ Some f → fault_within limits bytes ≡ Some f
unfolding fault_within
fault_of_line limits bytes f small e = rw (small_test limits bytes small, e) refl

pub fault_truncated : (limits : Limits) (bytes : List ℕ) → length bytes ≤ limits.bytes
    → first_fault limits [] (sayings bytes) ≡ None
    → truncated bytes ≡ Some faults.Truncated → fault_within limits bytes ≡ Some faults.Truncated
unfolding fault_within
fault_truncated limits bytes small e t = rw (small_test limits bytes small, e) (rw t refl)

pub fault_at_end : (limits : Limits) (bytes : List ℕ) (ls : List Line) → length bytes ≤ limits.bytes
    → first_fault limits [] (sayings bytes) ≡ None
    → truncated bytes ≡ None → sayings bytes ≡ map Some ls
    → fault_within limits bytes ≡ closing_fault ls
unfolding fault_within
fault_at_end limits bytes ls small e t says =
    rw (small_test limits bytes small, e) (rw t
    (ap (λ (x : List (Option Line)). closing_fault (said x)) says
    ∙ ap closing_fault (said_back ls)))

pub truncated_tail : (bytes : List ℕ) → 0 < length (cut bytes).1
    → truncated bytes ≡ Some faults.Truncated
truncated_tail bytes some = let t : eqb (length (cut bytes).1) 0 ≡ false =
    grind (arith, nat_tests) in rw t refl

pub truncated_nothing : (bytes : List ℕ) → length (cut bytes).0 ≡ 0
    → truncated bytes ≡ Some faults.Truncated
truncated_nothing bytes none = by (eqb (length (cut bytes).1) 0)
  where
    by : (t : Bool)
        → cond (t && not (eqb (length (cut bytes).0) 0)) None (Some faults.Truncated)
        ≡ Some faults.Truncated
    by true = rw none refl
    by false = refl

pub truncated_none : (bytes : List ℕ) → (cut bytes).1 ≡ [] → 0 < length (cut bytes).0
    → truncated bytes ≡ None
truncated_none bytes none some =
    let t : eqb (length (cut bytes).0) 0 ≡ false = grind (arith, nat_tests) in rw (none, t) refl
