-- Reading a line undoes its spelling, and reads no other bytes, by the steps of `Fields`.
use Rattle.std.proofs.Common.{◌≡◌, ℕ, true, false, eqb, List, [], ◌++◌, length, Option, Some, None}
use Rattle.std.proofs.Common.{refl, sym, ap, subst, ◌∙◌}
use Rattle.std.specs.Prelude.{codes}
use Rattle.std.proofs.lemmas.Bool.{eqb-true}
use Rattle.std.proofs.lemmas.List.{append-nil, nil_from_length}
use Rattle.std.proofs.lemmas.Option.{same_Some, option_and_then_some}
use Rattle.st_core.specs.declared.types.Act.{Act}
use Rattle.st_core.specs.declared.types.Act.TheVariants as acts
use Rattle.st_text.specs.declared.line.Line.{Line}
use Rattle.st_text.specs.declared.line.Line.TheVariants as lines
use Rattle.st_text.specs.Spelling.{act, line}
use Rattle.st_text.specs.Range.{Fits}
use Rattle.st_text.specs.Parsing.{on_some, parse_alone, parse_act, parse_rare, parse_line, line_of}
use Rattle.st_text.proofs.Numbers.{Stops, chosen}
use Rattle.st_text.proofs.Fields.{Takes, begins_cases, field_next, made, none_left, pid_takes}
use Rattle.st_text.proofs.Fields.{pid_again}
use Rattle.st_text.proofs.EventLemmas.{event_takes, event_again}
use Rattle.st_text.proofs.ActLemmas.{act_takes, act_again}

abbrev IsRare : Line → Type 0
IsRare (lines.Event v) = ⊥
IsRare (lines.Act a) = ⊥
IsRare l = Unit {0}

rare_takes : (bytes : List ℕ) (x : Line × List ℕ) → parse_rare bytes ≡ Some x
    → Takes line Fits bytes x
unfolding parse_rare
rare_takes bytes x e =
    begins_cases (codes "process ") bytes e
    (λ rest s e. field_next (pid_takes rest) s e λ p fits s e. made e s fits) λ e.
    begins_cases (codes "acts") bytes e (λ rest s e. made e s tt) λ e.
    begins_cases (codes "seqtrace 1") bytes e (λ rest s e. made e s tt) λ e.
    begins_cases (codes "seqtrace 2") bytes e (λ rest s e. made e s tt) none_left

line_at_takes : (bytes : List ℕ) (x : Line × List ℕ) → parse_line bytes ≡ Some x
    → Takes line Fits bytes x
unfolding parse_line
line_at_takes bytes x e =
    begins_cases (codes "{seq_trace,") bytes e
    (λ rest s e. field_next (event_takes rest) s e λ v fits s e. made e s fits) λ e.
    either (parse_act bytes) refl e
  where
    either : (o : Option (Act × List ℕ)) → parse_act bytes ≡ o
        → on_some o (λ a. Some (lines.Act a.0, a.1)) (parse_rare bytes) ≡ Some x
        → Takes line Fits bytes x
    either (Some a) ea e =
        let t = act_takes bytes a ea in
        made e t.split t.fits
    either None ea e = rare_takes bytes x e

-- a rare line doesn't begin as an event or an act does
no_other : (l : Line) (rest : List ℕ) → IsRare l
    → parse_line (line l ++ rest) ≡ parse_rare (line l ++ rest)
unfolding parse_line parse_act parse_alone
no_other (lines.Header false) rest rare = refl
no_other (lines.Event v) rest rare = absurd rare
no_other (lines.Act a) rest rare = absurd rare
no_other l rest rare = refl

rare_again : (l : Line) (rest : List ℕ) → Fits l → IsRare l
    → parse_rare (line l ++ rest) ≡ Some (l, rest)
unfolding parse_rare
rare_again (lines.Header false) rest fits rare = refl
rare_again (lines.Header true) rest fits rare = refl
rare_again (lines.Process p) rest fits rare = rw (pid_again p rest fits)
rare_again lines.Acts rest fits rare = refl
rare_again (lines.Event v) rest fits rare = absurd rare
rare_again (lines.Act a) rest fits rare = absurd rare

line_again : (l : Line) (rest : List ℕ) → Fits l → Stops rest
    → parse_line (line l ++ rest) ≡ Some (l, rest)
unfolding parse_line
line_again (lines.Event v) rest fits stops = rw (event_again v rest fits)
line_again (lines.Act a) rest fits stops =
    rw (no_word a rest) (rw (act_again a rest fits stops) refl)
  where
    no_word : (a : Act) (rest : List ℕ)
        → parse_line (act a ++ rest)
        ≡ on_some (parse_act (act a ++ rest)) (λ b. Some (lines.Act b.0, b.1))
        (parse_rare (act a ++ rest))
    no_word (acts.Send p q v) rest = refl
    no_word a rest = refl
line_again l rest fits stops = no_other l rest tt ∙ rare_again l rest fits tt

-- Bytes that are read as a line are its spelling.
pub line_takes : (bytes : List ℕ) (l : Line) → line_of bytes ≡ Some l → (bytes ≡ line l) × Fits l
unfolding line_of
line_takes bytes l e =
    option_and_then_some _ (parse_line bytes) l e λ x ex e.
    let t = line_at_takes bytes x ex in
    let g = chosen (eqb (length x.1) 0) (Some x.0) l e in
    let none : x.1 ≡ [] = nil_from_length x.1 (eqb-true _ _ g.0) in
    let whole : bytes ≡ line x.0 = t.split.parts ∙ ap (λ (r : List ℕ). line x.0 ++ r) none
    ∙ append-nil (line x.0) in
    subst (λ (k : Line). (bytes ≡ line k) × Fits k) (same_Some x.0 l g.1) (whole, t.fits)

pub line_is : (l : Line) → Fits l → line_of (line l) ≡ Some l
unfolding line_of
line_is l fits =
    let at : parse_line (line l) ≡ Some (l, []) = ap parse_line (sym (append-nil (line l)))
    ∙ line_again l [] fits refl in
    rw at refl
