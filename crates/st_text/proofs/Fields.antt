-- The small values, each a word or a number between words: each reader takes the spelling of its
-- value, and reads that spelling back. First come the steps that all readers are made of.
use Rattle.std.proofs.Common.{◌≡◌, ℕ, ◌<◌, ◌≤◌, ◌^◌, Bool, true, false, List, [], ◌++◌}
use Rattle.std.proofs.Common.{Option, Some, None, refl, subst, append_assoc, arith}
use Rattle.std.proofs.lemmas.Option.{same_Some, option_and_then_some}
use Rattle.std.specs.Prelude.{codes, decimal}
use Rattle.st_core.specs.declared.types.Pid.{Pid}
use Rattle.st_core.specs.declared.types.Label.{Label}
use Rattle.st_core.specs.declared.types.Serial.{Serial}
use Rattle.st_text.specs.Spelling.{bool, pid, label, serial}
use Rattle.st_text.specs.Range.{FitsPid, FitsSerial, most_pid, most_label, most_number}
use Rattle.st_text.specs.Parsing.{◌>>=◌, on_some, begins, after, number, parse_bool, parse_pid}
use Rattle.st_text.specs.Parsing.{parse_label, parse_serial, parse_actor}
use Rattle.st_text.proofs.Numbers.{Stops, after_takes, number_takes, number_again}

-- ---- A reader goes along the whole: the front is what it has read, and the rest is still to be
-- read. Each step moves a word or the spelling of a field from the rest to the front. So at the
-- end the front is the spelling of the value that is made, by computation alone.

pub record Split (whole front rest : List ℕ) : Type 0 where
  pub parts : whole ≡ front ++ rest

-- a reader takes the spelling of a value that fits
pub record Takes {A : Type 0} (spell : A → List ℕ) (Fit : A → Type 0) (whole : List ℕ)
    (x : A × List ℕ) : Type 0 where
  pub split : Split whole (spell x.0) x.1
  pub fits : Fit x.0

abbrev pub Any : {A : Type 0} → A → Type 0
Any x = Unit {0}

pub unread : (bytes : List ℕ) → Split bytes [] bytes
unread bytes = record { parts = refl }

moved : {whole front bytes : List ℕ} (more rest : List ℕ) → Split whole front bytes
    → bytes ≡ more ++ rest
    → Split whole (front ++ more) rest
moved {front} more rest s e = record { parts = rw (append_assoc front more rest, ← e) s.parts }

-- the word that decides which reader goes on
pub begins_cases : {A P : Type 0} {y : A} {f : List ℕ → Option A} {other : Option A}
    (word bytes : List ℕ) → begins word bytes f other ≡ Some y
    → ((rest : List ℕ) → Split bytes word rest → f rest ≡ Some y → P) → (other ≡ Some y → P) → P
begins_cases {A} {P} {y} {f} {other} word bytes e here there = by (after word bytes) refl e
  where
    by : (o : Option (List ℕ)) → after word bytes ≡ o → on_some o f other ≡ Some y → P
    by (Some rest) is e = here rest (record { parts = after_takes word bytes rest is }) e
    by None is e = there e

-- the word that has to be next
pub word_next : {A P : Type 0} {whole front bytes : List ℕ} {y : A} {f : List ℕ → Option A}
    (word : List ℕ) → Split whole front bytes → (after word bytes >>= f) ≡ Some y
    → ((rest : List ℕ) → Split whole (front ++ word) rest → f rest ≡ Some y → P) → P
word_next {bytes} {f} word s e then =
    option_and_then_some f (after word bytes) _ e λ rest is e.
    then rest (moved word rest s (after_takes word bytes rest is)) e

-- the field that has to be next, by what its reader takes
pub field_next : {A B P : Type 0} {spell : A → List ℕ} {Fit : A → Type 0}
    {whole front bytes : List ℕ} {o : Option (A × List ℕ)} {y : B} {f : A × List ℕ → Option B}
    → ((x : A × List ℕ) → o ≡ Some x → Takes spell Fit bytes x)
    → Split whole front bytes → (o >>= f) ≡ Some y
    → ((x : A × List ℕ) → Fit x.0 → Split whole (front ++ spell x.0) x.1 → f x ≡ Some y → P) → P
field_next {spell} {o} {f} takes s e then =
    option_and_then_some f o _ e λ x is e.
    let t = takes x is in
    then x t.fits (moved (spell x.0) x.1 s t.split.parts) e

-- the value that is made at the end
pub made : {A : Type 0} {spell : A → List ℕ} {Fit : A → Type 0} {whole rest : List ℕ} {a : A}
    {x : A × List ℕ} → ◌≡◌ {A = Option (A × List ℕ)} (Some (a, rest)) (Some x)
    → Split whole (spell a) rest → Fit a → Takes spell Fit whole x
made {spell} {Fit} {whole} e s fits =
    subst (λ y. Takes spell Fit whole y) (same_Some _ _ e) (record { split = s; fits = fits })

-- no reader is left
pub none_left : {A P : Type 0} {y : A} → ◌≡◌ {A = Option A} None (Some y) → P
none_left e = absurd cc

-- ---- the parts of a spelling one after the other, as a reader meets them

pub three_parts : (a b c rest : List ℕ) → (a ++ b ++ c) ++ rest ≡ a ++ (b ++ (c ++ rest))
three_parts a b c rest = simp append_assoc

pub four_parts : (a b c d rest : List ℕ)
    → (a ++ b ++ c ++ d) ++ rest ≡ a ++ (b ++ (c ++ (d ++ rest)))
four_parts a b c d rest = simp append_assoc

pub five_parts : (a b c d e rest : List ℕ)
    → (a ++ b ++ c ++ d ++ e) ++ rest ≡ a ++ (b ++ (c ++ (d ++ (e ++ rest))))
five_parts a b c d e rest = simp append_assoc

-- ---- the small values

most_takes : (most : ℕ) (bytes : List ℕ) (x : ℕ × List ℕ) → number most bytes ≡ Some x
    → Takes decimal (λ n. n ≤ most) bytes x
most_takes most bytes x e =
    let t = number_takes most bytes x e in
    record { split = record { parts = t.0 }; fits = t.1 }

pub value_takes : (bytes : List ℕ) (x : ℕ × List ℕ) → number most_number bytes ≡ Some x
    → Takes decimal (λ n. n ≤ most_number) bytes x
value_takes = most_takes most_number

pub value_again : (v : ℕ) (rest : List ℕ) → v ≤ most_number → Stops rest
    → number most_number (decimal v ++ rest) ≡ Some (v, rest)
value_again v rest fits stops = number_again most_number v rest fits (omega arith) stops

pub bool_takes : (bytes : List ℕ) (x : Bool × List ℕ) → parse_bool bytes ≡ Some x
    → Takes bool Any bytes x
unfolding parse_bool
bool_takes bytes x e =
    begins_cases (codes "true") bytes e (λ rest s e. made e s tt) λ e.
    begins_cases (codes "false") bytes e (λ rest s e. made e s tt) none_left

pub bool_again : (b : Bool) (rest : List ℕ) → parse_bool (bool b ++ rest) ≡ Some (b, rest)
unfolding parse_bool
bool_again true rest = refl
bool_again false rest = refl

pub pid_takes : (bytes : List ℕ) (x : Pid × List ℕ) → parse_pid bytes ≡ Some x
    → Takes pid FitsPid bytes x
unfolding parse_pid
pid_takes bytes x e =
    word_next (codes "<") (unread bytes) e λ a s e.
    field_next (most_takes most_pid a) s e λ node node_fits s e.
    word_next (codes ".") s e λ b s e.
    field_next (most_takes most_pid b) s e λ num num_fits s e.
    word_next (codes ".0>") s e λ c s e.
    made e s (record { node = node_fits; number = num_fits })

pub pid_again : (p : Pid) (rest : List ℕ) → FitsPid p → parse_pid (pid p ++ rest) ≡ Some (p, rest)
unfolding parse_pid
pid_again p rest fits =
    let small : most_pid < 2 ^ 64 = omega arith in
    rw (
      four_parts (decimal p.node) (codes ".") (decimal p.number) (codes ".0>"),
      number_again most_pid p.node _ fits.node small refl,
      number_again most_pid p.number _ fits.number small refl,
    )

abbrev pub FitsLabel : Label → Type 0
FitsLabel l = l.0 ≤ most_label

pub label_takes : (bytes : List ℕ) (x : Label × List ℕ) → parse_label bytes ≡ Some x
    → Takes label FitsLabel bytes x
unfolding parse_label
label_takes bytes x e =
    field_next (most_takes most_label bytes) (unread bytes) e λ n fits s e. made e s fits

pub label_again : (l : Label) (rest : List ℕ) → l.0 ≤ most_label → Stops rest
    → parse_label (label l ++ rest) ≡ Some (l, rest)
unfolding parse_label
label_again l rest fits stops = rw (number_again most_label l.0 rest fits (omega arith) stops)

pub serial_takes : (bytes : List ℕ) (x : Serial × List ℕ) → parse_serial bytes ≡ Some x
    → Takes serial FitsSerial bytes x
unfolding parse_serial
serial_takes bytes x e =
    word_next (codes "{") (unread bytes) e λ a s e.
    field_next (value_takes a) s e λ prev prev_fits s e.
    word_next (codes ",") s e λ b s e.
    field_next (value_takes b) s e λ this this_fits s e.
    word_next (codes "}") s e λ c s e.
    made e s (record { prev = prev_fits; this = this_fits })

pub serial_again : (s : Serial) (rest : List ℕ) → FitsSerial s
    → parse_serial (serial s ++ rest) ≡ Some (s, rest)
unfolding parse_serial
serial_again s rest fits =
    rw (
      four_parts (decimal s.prev) (codes ",") (decimal s.this) (codes "}"),
      value_again s.prev _ fits.prev refl,
      value_again s.this _ fits.this refl,
    )

-- a pid and a space
abbrev pub spaced : Pid → List ℕ
spaced p = pid p ++ codes " "

pub actor_takes : (bytes : List ℕ) (x : Pid × List ℕ) → parse_actor bytes ≡ Some x
    → Takes spaced FitsPid bytes x
unfolding parse_actor
actor_takes bytes x e =
    field_next (pid_takes bytes) (unread bytes) e λ p fits s e.
    word_next (codes " ") s e λ a s e.
    made e s fits

-- a pid and a space that have to be next
pub actor_next : {A P : Type 0} {whole front bytes : List ℕ} {y : A} {f : Pid × List ℕ → Option A}
    → Split whole front bytes → (parse_actor bytes >>= f) ≡ Some y
    → ((p : Pid × List ℕ) → FitsPid p.0 → Split whole (front ++ pid p.0 ++ codes " ") p.1
    → f p ≡ Some y → P) → P
actor_next {front} {bytes} s e then =
    field_next (actor_takes bytes) s e λ p fits s e.
    then p fits (record { parts = rw (append_assoc front (pid p.0) (codes " ")) s.parts }) e

pub actor_again : (p : Pid) (rest : List ℕ) → FitsPid p
    → parse_actor (pid p ++ (codes " " ++ rest)) ≡ Some (p, rest)
unfolding parse_actor
actor_again p rest fits = rw (pid_again p (codes " " ++ rest) fits)

pub actor_then : (p : Pid) (xs rest : List ℕ) → FitsPid p
    → parse_actor ((pid p ++ codes " " ++ xs) ++ rest) ≡ Some (p, xs ++ rest)
actor_then p xs rest fits = rw (three_parts (pid p) (codes " ") xs, actor_again p _ fits)
