-- More bytes add to the unfinished line, and a newline ends it: so a cutter that took some bytes
-- and then a piece has taken both.
use Rattle.std.proofs.Common.{◌≡◌, ℕ, zero, suc, ◌+◌, ◌<◌, ◌≤◌, Bool, true, false, eqb, ◌||◌, List}
use Rattle.std.proofs.Common.{[], ◌∷◌, ◌++◌, length, map, take, drop, get_or, drop-cons, Option}
use Rattle.std.proofs.Common.{Some, None, refl, sym, ap, subst, ◌∙◌, append_assoc, inl, inr, arith}
use Rattle.std.specs.Prelude.{is_some}
use Rattle.std.proofs.lemmas.Bool.{eqb-true}
use Rattle.std.proofs.lemmas.List.{append-nil, length-append, length_push, map_push, take_all}
use Rattle.std.proofs.lemmas.List.{take-append-drop}
use Rattle.st_text.specs.declared.limits.Limits.{Limits}
use Rattle.st_text.specs.declared.line.Line.{Line}
use Rattle.st_text.specs.declared.line.Line.TheVariants as lines
use Rattle.st_text.specs.declared.fault.ReadFault.{ReadFault}
use Rattle.st_text.specs.declared.fault.ReadFault.TheVariants as faults
use Rattle.st_text.specs.declared.builder.BundleBuilder.{BundleBuilder}
use Rattle.st_text.specs.declared.step.Step.{Step}
use Rattle.st_text.specs.declared.step.Step.TheVariants.{Goes, Stops, Halts}
use Rattle.st_text.specs.Parsing.{line_of}
use Rattle.st_text.specs.Fault.{cut, sayings, first_fault, line_fault}
use Rattle.st_text.specs.Parts.Builder.{IsBuilt, TakesLine}
use Rattle.st_text.specs.Parts.Cutter.{IsStateAfter, TakesSaid, header_of, HasNoNewline, IsTail}
use Rattle.st_text.specs.Growth.{EndsKept, EndsWithin, Grows, KeepsLine, EndsLine, LeavesBytes}
use Rattle.st_text.specs.declared.cutter.Cutter.{Cutter}
use Rattle.st_text.specs.Parts.CutterState.{HasTaken, HasTakenAs, Comes, AddsBytes, EndsOne}
use Rattle.st_text.proofs.Newlines.{cut_newline, cut_byte, sayings_newline, sayings_byte}
use Rattle.st_text.proofs.Newlines.{fault_push, fault_stays}
use Rattle.st_text.proofs.Longest.{too_long}

abbrev Cut : Type 0
Cut = List (List ℕ) × List ℕ

one_by_one : (bytes xs : List ℕ) (x : ℕ) → bytes ++ (x ∷ xs) ≡ (bytes ++ x ∷ []) ++ xs
one_by_one bytes xs x = sym (append_assoc bytes (x ∷ []) xs)

-- bytes without a newline join the unfinished line
cut_plain : (bytes xs : List ℕ) → HasNoNewline xs
    → cut (bytes ++ xs) ≡ ((cut bytes).0, (cut bytes).1 ++ xs)
cut_plain bytes [] plain =
    ap cut (append-nil bytes) ∙ ap (λ (t : List ℕ). ((cut bytes).0, t))
    (sym (append-nil (cut bytes).1))
cut_plain bytes (x ∷ xs) plain =
    ap cut (one_by_one bytes xs x) ∙ cut_plain (bytes ++ x ∷ []) xs plain.1
    ∙ ap (λ (c : Cut). (c.0, c.1 ++ xs)) (cut_byte bytes x plain.0)
    ∙ ap (λ (t : List ℕ). ((cut bytes).0, t)) (append_assoc (cut bytes).1 (x ∷ []) xs)

pub tail_plain : (bytes xs : List ℕ) → HasNoNewline xs → (cut (bytes ++ xs)).1 ≡ (cut bytes).1 ++ xs
tail_plain bytes xs plain = ap (λ (c : Cut). c.1) (cut_plain bytes xs plain)

pub sayings_plain : (bytes xs : List ℕ) → HasNoNewline xs → sayings (bytes ++ xs) ≡ sayings bytes
sayings_plain bytes xs plain = ap (λ (c : Cut). map line_of c.0) (cut_plain bytes xs plain)

-- a newline ends the unfinished line
pub tail_line : (bytes xs : List ℕ) → (cut (bytes ++ (xs ++ 10 ∷ []))).1 ≡ []
tail_line bytes xs =
    ap (λ (b : List ℕ). (cut b).1) (sym (append_assoc bytes xs (10 ∷ [])))
    ∙ ap (λ (c : Cut). c.1) (cut_newline (bytes ++ xs))

pub sayings_line : (bytes xs : List ℕ) → HasNoNewline xs
    → sayings (bytes ++ (xs ++ 10 ∷ [])) ≡ sayings bytes ++ line_of ((cut bytes).1 ++ xs) ∷ []
sayings_line bytes xs plain =
    ap sayings (sym (append_assoc bytes xs (10 ∷ []))) ∙ sayings_newline (bytes ++ xs)
    ∙ rw (sayings_plain bytes xs plain, tail_plain bytes xs plain) refl

-- a fault stays the first one, whatever bytes follow
fault_byte : (limits : Limits) (bytes : List ℕ) (b : ℕ) (f : ReadFault)
    → first_fault limits [] (sayings bytes) ≡ Some f
    → first_fault limits [] (sayings (bytes ++ b ∷ [])) ≡ Some f
fault_byte limits bytes b f e = by (eqb b 10) refl
  where
    by : (t : Bool) → eqb b 10 ≡ t → first_fault limits [] (sayings (bytes ++ b ∷ [])) ≡ Some f
    by true is =
        let ten : b ≡ 10 = eqb-true b 10 is in
        ap (λ (x : ℕ). first_fault limits [] (sayings (bytes ++ x ∷ []))) ten
        ∙ ap (first_fault limits []) (sayings_newline bytes)
        ∙ fault_stays limits [] (sayings bytes) (line_of (cut bytes).1 ∷ []) f e
    by false is = ap (first_fault limits []) (sayings_byte bytes b is) ∙ e

pub fault_more : (limits : Limits) (bytes xs : List ℕ) (f : ReadFault)
    → first_fault limits [] (sayings bytes) ≡ Some f
    → first_fault limits [] (sayings (bytes ++ xs)) ≡ Some f
fault_more limits bytes [] f e =
    ap (λ (b : List ℕ). first_fault limits [] (sayings b)) (append-nil bytes) ∙ e
fault_more limits bytes (x ∷ xs) f e =
    ap (λ (b : List ℕ). first_fault limits [] (sayings b)) (one_by_one bytes xs x)
    ∙ fault_more limits (bytes ++ x ∷ []) xs f (fault_byte limits bytes x f e)

-- ---- what the cutter keeps

pub holds_nothing : (limits : Limits) (kept : List ℕ) → kept ≡ []
    → HasTakenAs limits false None [] false kept None
unfolding first_fault
holds_nothing limits kept e = ([], record { tail_is = e; held = refl; said = refl; good = refl })

pub holds_kept : (limits : Limits) (out : Bool) (fault : Option ReadFault) (bytes xs : List ℕ)
    (long long' : Bool) (kept kept' : List ℕ) (p : Option BundleBuilder)
    → out ≡ false → fault ≡ None → HasNoNewline xs
    → (IsTail long kept (cut bytes).1 → IsTail long' kept' ((cut bytes).1 ++ xs))
    → HasTakenAs limits out fault bytes long kept p
    → HasTakenAs limits out fault (bytes ++ xs) long' kept' p
holds_kept limits false None bytes xs long long' kept kept' p eo ef plain tail h =
    let same = sayings_plain bytes xs plain in (
      h.0,
      record {
        tail_is = subst (IsTail long' kept') (sym (tail_plain bytes xs plain)) (tail h.1.tail_is);
        held = h.1.held;
        said = same ∙ h.1.said;
        good = ap (first_fault limits []) same ∙ h.1.good;
      },
    )
holds_kept limits out fault bytes xs long long' kept kept' p eo ef plain tail h = absurd cc

pub tail_long : (long : Bool) (kept t xs : List ℕ) → long ≡ true → IsTail long kept t
    → IsTail long kept (t ++ xs)
tail_long true kept t xs e h = omega (arith, h, length-append t xs)
tail_long false kept t xs e h = absurd cc

pub tail_outgrown : (long : Bool) (kept kept' t xs : List ℕ) → long ≡ false
    → 131 < length kept + length xs
    → IsTail long kept t → IsTail true kept' (t ++ xs)
tail_outgrown true kept kept' t xs e more h = absurd cc
tail_outgrown false kept kept' t xs e more h = omega (arith, ap length h, length-append t xs)

pub tail_grown : (long : Bool) (kept kept' t xs : List ℕ) → long ≡ false → kept' ≡ kept ++ xs
    → IsTail long kept t
    → IsTail long kept' (t ++ xs)
tail_grown true kept kept' t xs e more h = absurd cc
tail_grown false kept kept' t xs e more h = more ∙ ap (λ (x : List ℕ). x ++ xs) h

-- ---- what the unfinished line says

pub long_says_none : (long : Bool) (kept t xs : List ℕ) → long ≡ true → IsTail long kept t
    → line_of (t ++ xs) ≡ None
long_says_none true kept t xs e h = too_long (t ++ xs) (omega (arith, h, length-append t xs))
long_says_none false kept t xs e h = absurd cc

pub outgrown_says_none : (long : Bool) (kept t xs : List ℕ) → long ≡ false
    → 131 < length kept + length xs
    → IsTail long kept t → line_of (t ++ xs) ≡ None
outgrown_says_none true kept t xs e more h = absurd cc
outgrown_says_none false kept t xs e more h =
    too_long (t ++ xs) (omega (arith, ap length h, length-append t xs))

pub kept_says : (long : Bool) (kept t xs whole : List ℕ) (s : Option Line) → long ≡ false
    → whole ≡ kept ++ xs
    → s ≡ line_of whole → IsTail long kept t → s ≡ line_of (t ++ xs)
kept_says true kept t xs whole s e w says h = absurd cc
kept_says false kept t xs whole s e w says h =
    says ∙ ap line_of (w ∙ ap (λ (x : List ℕ). x ++ xs) h)

-- ---- a line

pub said_by : (limits : Limits) (ls : List Line) (said : Option Line) (new : BundleBuilder)
    (step : Step)
    → TakesLine limits ls said new step
    → TakesSaid limits ls said (Some new) step
said_by limits ls (Some l) new Goes h = (l, record { said_is = refl; good = h.0; held = h.1 })
said_by limits ls (Some l) new (Stops f) h = h
said_by limits ls (Some l) new Halts h = h
said_by limits ls None new Goes h = absurd h
said_by limits ls None new (Stops f) h = h
said_by limits ls None new Halts h = absurd h

pub first_is_header : (limits : Limits) (wide : Bool)
    → line_fault limits [] (Some (lines.Header wide)) ≡ None
unfolding line_fault
first_is_header limits wide = refl

pub header_some : (said : Option Line) (wide : Bool) → header_of said ≡ Some wide
    → said ≡ Some (lines.Header wide)
header_some (Some (lines.Header w)) wide e = let same : w ≡ wide = cc in cc
header_some said wide e = absurd cc

pub header_none : (limits : Limits) (said : Option Line) → header_of said ≡ None
    → line_fault limits [] said ≡ Some (faults.Line 1)
unfolding line_fault
header_none limits (Some (lines.Header w)) e = absurd cc
header_none limits said e = refl

pub none_held : (o : Option BundleBuilder) (ls : List Line) → o ≡ None → IsStateAfter o ls → ls ≡ []
none_held None ls e h = h
none_held (Some p) ls e h = absurd cc

pub some_held : (o : Option BundleBuilder) (p : BundleBuilder) (ls : List Line) → o ≡ Some p
    → IsStateAfter o ls
    → IsBuilt p ls
some_held o p ls e h = subst (λ (x : Option BundleBuilder). IsStateAfter x ls) e h

pub said_some : (limits : Limits) (old : Option BundleBuilder) (p new : BundleBuilder)
    (ls : List Line) (said : Option Line) (step : Step)
    → old ≡ Some p → ((ls : List Line) → IsBuilt p ls → TakesLine limits ls said new step)
    → IsStateAfter old ls
    → TakesSaid limits ls said (Some new) step
said_some limits old p new ls said step e takes h =
    said_by limits ls said new step (takes ls (some_held old p ls e h))

pub said_header : (limits : Limits) (old : Option BundleBuilder) (new : BundleBuilder)
    (ls : List Line) (said : Option Line) (wide : Bool)
    → old ≡ None → header_of said ≡ Some wide → IsBuilt new (lines.Header wide ∷ [])
    → IsStateAfter old ls
    → TakesSaid limits ls said (Some new) Goes
said_header limits old new ls said wide e is sound h =
    let none : ls ≡ [] = none_held old ls e h in (
      lines.Header wide,
      record {
        said_is = header_some said wide is;
        good = rw none (first_is_header limits wide);
        held = subst (λ (x : List Line). IsBuilt new (x ++ lines.Header wide ∷ [])) (sym none)
            sound;
      },
    )

pub said_none : (limits : Limits) (old : Option BundleBuilder) (ls : List Line) (said : Option Line)
    → old ≡ None
    → header_of said ≡ None
    → IsStateAfter old ls → line_fault limits ls said ≡ Some (faults.Line 1)
said_none limits old ls said e is h = rw (none_held old ls e h) (header_none limits said is)

-- a good line
pub line_goes : (limits : Limits) (out : Bool) (fault : Option ReadFault) (bytes xs : List ℕ)
    (long long' : Bool) (kept kept' : List ℕ) (p new : Option BundleBuilder) (said : Option Line)
    → out ≡ false → fault ≡ None → long' ≡ false → HasNoNewline xs → kept' ≡ []
    → (IsTail long kept (cut bytes).1 → said ≡ line_of ((cut bytes).1 ++ xs))
    → ((ls : List Line) → IsStateAfter p ls → TakesSaid limits ls said new Goes)
    → HasTakenAs limits out fault bytes long kept p
    → HasTakenAs limits out fault (bytes ++ (xs ++ 10 ∷ [])) long'
    kept' new
line_goes limits true fault bytes xs long long' kept kept' p new said eo ef el plain empty says
    takes h = absurd cc
line_goes limits false (Some f) bytes xs long long' kept kept' p new said eo ef el plain empty says
    takes h = absurd cc
line_goes limits false None bytes xs long true kept kept' p new said eo ef el plain empty says takes
    h = absurd cc
line_goes limits false None bytes xs long false kept kept' p new said eo ef el plain empty says
    takes h =
    let ls = h.0 in
    let t = takes ls h.1.held in
    let all : sayings (bytes ++ (xs ++ 10 ∷ [])) ≡ map Some ls ++ Some t.0 ∷ [] =
    sayings_line bytes xs plain ∙ rw (h.1.said, ← says h.1.tail_is, t.1.said_is) refl in
    let at : first_fault limits [] (map Some ls ++ Some t.0 ∷ [])
    ≡ line_fault limits ls (Some t.0) =
    fault_push limits [] ls (Some t.0) (ap (first_fault limits []) (sym h.1.said) ∙ h.1.good) in (
      ls ++ t.0 ∷ [],
      record {
        tail_is = empty ∙ sym (tail_line bytes xs);
        held = t.1.held;
        said = all ∙ sym (map_push Some ls t.0);
        good = ap (first_fault limits []) all ∙ at ∙ t.1.good;
      },
    )

-- a faulty line
pub line_stops : (limits : Limits) (out : Bool) (fault : Option ReadFault) (bytes xs : List ℕ)
    (long long' : Bool) (kept kept' : List ℕ)
    (p new : Option BundleBuilder) (said : Option Line) (f : ReadFault)
    → out ≡ false → fault ≡ None → HasNoNewline xs
    → (IsTail long kept (cut bytes).1 → said ≡ line_of ((cut bytes).1 ++ xs))
    → ((ls : List Line) → IsStateAfter p ls → TakesSaid limits ls said new (Stops f))
    → HasTakenAs limits out fault bytes long kept p
    → HasTakenAs limits out (Some f) (bytes ++ (xs ++ 10 ∷ [])) long'
    kept' new
line_stops limits true fault bytes xs long long' kept kept' p new said f eo ef plain says takes h =
    absurd cc
line_stops limits false (Some g) bytes xs long long' kept kept' p new said f eo ef plain says takes
    h = absurd cc
line_stops limits false None bytes xs long long' kept kept' p new said f eo ef plain says takes h =
    let ls = h.0 in
    let at : first_fault limits [] (map Some ls ++ said ∷ []) ≡ line_fault limits ls said =
    fault_push limits [] ls said (ap (first_fault limits []) (sym h.1.said) ∙ h.1.good) in
    let all : sayings (bytes ++ (xs ++ 10 ∷ [])) ≡ map Some ls ++ said ∷ [] =
    sayings_line bytes xs plain ∙ rw (h.1.said, ← says h.1.tail_is) refl in
    ap (first_fault limits []) all ∙ at ∙ takes ls h.1.held

-- a good line for which there was no room
pub line_halts : (limits : Limits) (out : Bool) (fault : Option ReadFault) (bytes xs : List ℕ)
    (long : Bool) (kept : List ℕ) (p new : Option BundleBuilder) (said : Option Line)
    → out ≡ false → fault ≡ None → HasNoNewline xs
    → (IsTail long kept (cut bytes).1 → said ≡ line_of ((cut bytes).1 ++ xs))
    → ((ls : List Line) → IsStateAfter p ls → TakesSaid limits ls said new Halts)
    → HasTakenAs limits out fault bytes long kept p → EndsKept limits (bytes ++ (xs ++ 10 ∷ []))
line_halts limits false None bytes xs long kept p new said eo ef plain says takes h =
    let ls = h.0 in
    let t = takes ls h.1.held in
    let all : sayings (bytes ++ (xs ++ 10 ∷ [])) ≡ map Some ls ++ Some t.line ∷ [] =
    sayings_line bytes xs plain ∙ rw (h.1.said, ← says h.1.tail_is, t.said_is) refl in
    let at : first_fault limits [] (map Some ls ++ Some t.line ∷ [])
    ≡ line_fault limits ls (Some t.line) =
    fault_push limits [] ls (Some t.line) (ap (first_fault limits []) (sym h.1.said) ∙ h.1.good) in
    record {
      before = ls;
      line = t.line;
      lines = all ∙ sym (map_push Some ls t.line);
      good = ap (first_fault limits []) all ∙ at ∙ t.good;
      kept = t.kept;
    }
line_halts limits out fault bytes xs long kept p new said eo ef plain says takes h = absurd cc

-- bytes join the unfinished line
pub adds_bytes : (limits : Limits) (out : Bool) (fault : Option ReadFault) (bytes xs : List ℕ)
    (long : Bool) (kept : List ℕ) (p : Option BundleBuilder)
    → out ≡ false → fault ≡ None → HasNoNewline xs → 0 < length xs
    → HasTakenAs limits out fault bytes long kept p → AddsBytes limits bytes xs
adds_bytes limits false None bytes xs long kept p eo ef plain some h =
    record {
      within = record {
        good = ap (first_fault limits []) (sayings_plain bytes xs plain) ∙ h.1.good;
        some = omega (
          arith,
          some,
          ap length (tail_plain bytes xs plain),
          length-append (cut bytes).1 xs,
        );
      };
      some = some;
    }
adds_bytes limits out fault bytes xs long kept p eo ef plain some h = absurd cc

-- a line is unfinished if bytes of it are kept
pub ends_within : (limits : Limits) (out : Bool) (fault : Option ReadFault) (bytes : List ℕ)
    (long : Bool) (kept : List ℕ) (p : Option BundleBuilder)
    → out ≡ false → fault ≡ None → long ≡ false → 0 < length kept
    → HasTakenAs limits out fault bytes long kept p → EndsWithin limits bytes
ends_within limits false None bytes false kept p eo ef el some h =
    record { good = h.1.good; some = omega (arith, some, ap length h.1.tail_is) }
ends_within limits out fault bytes long kept p eo ef el some h = absurd cc

-- memory didn't run out
pub not_out : {R : Type 0} (out : Bool) → out ≡ false → out ≡ true → R
not_out true e f = absurd cc
not_out false e f = absurd cc

-- after a fault, or without memory, more bytes change nothing
pub holds_over : (limits : Limits) (out : Bool) (fault : Option ReadFault) (bytes xs : List ℕ)
    (long : Bool) (kept : List ℕ) (p : Option BundleBuilder)
    → (out || is_some fault) ≡ true → HasTakenAs limits out fault bytes long kept p
    → HasTakenAs limits out fault (bytes ++ xs) long kept p
holds_over limits true fault bytes xs long kept p over h = tt
holds_over limits false (Some f) bytes xs long kept p over h = fault_more limits bytes xs f h
holds_over limits false None bytes xs long kept p over h = absurd cc

-- ---- the newlines of a piece

other_byte : (x : ℕ) → ¬ (eqb x 10 ≡ true) → eqb x 10 ≡ false
other_byte x not = by (eqb x 10) refl
  where
    by : (t : Bool) → eqb x 10 ≡ t → t ≡ false
    by true e = absurd (not e)
    by false e = refl

pub plain_front : (xs : List ℕ) (k : ℕ)
    → ((j : ℕ) → 0 ≤ j → j < k → ¬ (eqb (get_or xs j 0) 10 ≡ true))
    → HasNoNewline (take k xs)
plain_front [] zero none = tt
plain_front [] (suc k) none = tt
plain_front (x ∷ xs) zero none = tt
plain_front (x ∷ xs) (suc k) none = (
  other_byte x (none 0 (omega arith) (omega arith)),
  plain_front xs k
      (λ j low high. none (suc j) (omega arith) (omega arith)),
)

pub plain_all : (xs : List ℕ)
    → ((j : ℕ) → 0 ≤ j → j < length xs → ¬ (eqb (get_or xs j 0) 10 ≡ true)) → HasNoNewline xs
plain_all xs none = subst HasNoNewline (take_all (length xs) xs (omega arith))
    (plain_front xs (length xs) none)

-- a piece is its first line, the newline and the rest
pub at_newline : (xs : List ℕ) (k : ℕ) → k < length xs → eqb (get_or xs k 0) 10 ≡ true
    → xs ≡ (take k xs ++ 10 ∷ []) ++ drop 1 (drop k xs)
at_newline xs k lt e =
    let ten : get_or xs k 0 ≡ 10 = eqb-true (get_or xs k 0) 10 e in
    let from : drop k xs ≡ 10 ∷ drop (suc k) xs =
    drop-cons xs k 0 lt ∙ ap (λ b. b ∷ drop (suc k) xs) ten in
    let rest : drop 1 (drop k xs) ≡ drop (suc k) xs = ap (drop 1) from in
    sym (take-append-drop k xs) ∙ ap (λ (t : List ℕ). take k xs ++ t)
    (from ∙ ap (λ (t : List ℕ). 10 ∷ t) (sym rest))
    ∙ sym (append_assoc (take k xs) (10 ∷ []) (drop 1 (drop k xs)))

-- a piece under way: the part that is done is whole lines, and the rest is left
pub record IsUnderWay (limits : Limits) (piece rest : List ℕ) (old now : Cutter) : Type 0 where
  pub done : List ℕ
  pub parts : piece ≡ done ++ rest
  pub whole : (bytes : List ℕ) → 0 < length (cut (bytes ++ done)).1 → done ≡ []
  pub comes : (bytes : List ℕ) → HasTaken limits bytes old
      → Comes limits (bytes ++ done) now (old.out ≡ false → Grows limits bytes piece)

-- growth in a line of the piece is growth in the piece
pub grows_by : (limits : Limits) (bytes piece done xs more : List ℕ)
    → piece ≡ done ++ ((xs ++ 10 ∷ []) ++ more)
    → (0 < length (cut (bytes ++ done)).1 → done ≡ [])
    → EndsOne limits (bytes ++ done) xs → Grows limits bytes piece
grows_by limits bytes piece done xs more parts whole h = by h
  where
    some : 0 < length piece
    some =
        omega (
          arith,
          ap length parts,
          length-append done ((xs ++ 10 ∷ []) ++ more),
          length-append (xs ++ 10 ∷ [])
              more,
          length_push xs 10,
        )

    from_done : EndsWithin limits (bytes ++ done) → EndsWithin limits bytes
    from_done w = subst (EndsWithin limits)
        (ap (λ (x : List ℕ). bytes ++ x) (whole w.some) ∙ append-nil bytes) w

    kept : EndsKept limits ((bytes ++ done) ++ (xs ++ 10 ∷ [])) → Grows limits bytes piece
    kept k =
        KeepsLine (done ++ (xs ++ 10 ∷ [])) more
        (parts ∙ sym (append_assoc done (xs ++ 10 ∷ []) more))
        (subst (EndsKept limits) (append_assoc bytes done (xs ++ 10 ∷ [])) k)

    by : EndsOne limits (bytes ++ done) xs → Grows limits bytes piece
    by (inl w) = EndsLine (from_done w) some
    by (inr k) = kept k

pub line_whole : (bytes done xs : List ℕ) → 0 < length (cut (bytes ++ (done ++ (xs ++ 10 ∷ [])))).1
    → done ++ (xs ++ 10 ∷ []) ≡ []
line_whole bytes done xs some =
    let at : (cut (bytes ++ (done ++ (xs ++ 10 ∷ [])))).1 ≡ [] =
    ap (λ (x : List ℕ). (cut x).1) (sym (append_assoc bytes done (xs ++ 10 ∷ [])))
    ∙ tail_line (bytes ++ done) xs in
    absurd (omega (arith, some, ap length at))

-- growth in the rest of the piece is growth in the piece
pub grows_at_end : (limits : Limits) (bytes piece done rest : List ℕ) → piece ≡ done ++ rest
    → AddsBytes limits (bytes ++ done) rest
    → Grows limits bytes piece
grows_at_end limits bytes piece done rest parts h =
    let all : (bytes ++ done) ++ rest ≡ bytes ++ piece =
    append_assoc bytes done rest ∙ ap (λ (x : List ℕ). bytes ++ x) (sym parts) in
    LeavesBytes (subst (EndsWithin limits) all h.within)
    (omega (arith, ap length parts, length-append done rest, h.some))
