-- The test tries each reading, and each put-back of a held token at each place.
use Rattle.std.proofs.Common.{◌≡◌, ◌≢◌, ℕ, ◌⊎◌, ◌&&◌, ◌||◌, Bool, true, false, List, [], ◌∷◌, ◌++◌}
use Rattle.std.proofs.Common.{take, Some, inl, inr, refl, sym, ◌∙◌, ap, subst, append_assoc}
use Rattle.std.proofs.Common.{append-nil}
use Rattle.std.specs.List.{AllByRecursion, list_any, slice_get}
use Rattle.std.proofs.lemmas.Bool.{and_parts, false≢true}
use Rattle.st_core.specs.declared.types.Pid.{Pid}
use Rattle.st_core.specs.declared.types.Serial.{Serial}
use Rattle.st_core.specs.declared.types.Kind.TheVariants as kind
use Rattle.st_core.specs.State.{zero_state}
use Rattle.st_core.specs.Step.{Outcome}
use Rattle.st_core.proofs.ForCallers.{both_true, or_right}
use Rattle.node_machine.specs.Counts.{stamp_count}
use Rattle.node_machine.specs.Node.{node_run, NodeAct, Seen, seen_stream}
use Rattle.node_machine.specs.Premises.{IsAmong, NoNodeReset, PutsBackOwn, ReportsTokens}
use Rattle.node_machine.specs.Readings.{clock_behind, is_next, last_behind, Reading, readings}
use Rattle.node_machine.specs.Given.{are_taken, is_given, IsGiven, leads, put_back_gives}
use Rattle.node_machine.specs.Given.{some_reading_gives, takes, tokens}
use Rattle.node_machine.proofs.Readings.{next_parts, next_true}
use Rattle.node_machine.proofs.Givens.{stamps_given}

or_left : (a b : Bool) → a ≡ true → (a || b) ≡ true
or_left true b h = refl
or_left false b h = absurd (false≢true h)

or_parts : (a b : Bool) → (a || b) ≡ true → (a ≡ true) ⊎ (b ≡ true)
or_parts true b h = inl refl
or_parts false b h = inr h

taken_true : (es : List Seen) → AllByRecursion (λ e. takes e ≡ true) es
    → are_taken es ≡ true
taken_true [] all = refl
taken_true (e ∷ es) all =
    both_true (takes e) (are_taken es) all.0 (taken_true es all.1)

taken_all : (es : List Seen) → are_taken es ≡ true
    → AllByRecursion (λ e. takes e ≡ true) es
taken_all [] is = tt
taken_all (e ∷ es) is =
    let parts = and_parts (takes e) (are_taken es) is in
    (parts.0, taken_all es parts.1)

leads_true : (ts : List Serial) (back : List Seen) (e : Seen) (t : Serial) → IsAmong ts t
    → is_next (clock_behind t.this back) (last_behind t.prev back) e ≡ true
    → leads ts back e ≡ true
leads_true [] back e t is next = absurd is
leads_true (u ∷ ts) back e t (inl is) next =
    or_left (is_next (clock_behind u.this back) (last_behind u.prev back) e) (leads ts back e)
    (ap (λ (x : Serial). is_next (clock_behind x.this back) (last_behind x.prev back) e) is ∙ next)
leads_true (u ∷ ts) back e t (inr is) next =
    or_right (is_next (clock_behind u.this back) (last_behind u.prev back) e) (leads ts back e)
    (leads_true ts back e t is next)

leads_by : (ts : List Serial) (back : List Seen) (e : Seen) → leads ts back e ≡ true
    → (t : Serial) × IsAmong ts t
    × (is_next (clock_behind t.this back) (last_behind t.prev back) e ≡ true)
leads_by [] back e is = absurd (false≢true is)
leads_by (u ∷ ts) back e is = elim (or_parts (is_next (clock_behind u.this back)
    (last_behind u.prev back) e) (leads ts back e) is) [
      | inl here ↦ (u, inl refl, here)
      | inr later ↦ let found = leads_by ts back e later in (found.0, inr found.1, found.2)
    ]

put_true : (front back : List Seen) (e : Seen) → are_taken back ≡ true
    → leads (tokens front) back e ≡ true
    → put_back_gives front back e ≡ true
put_true front [] e are leading = leading
put_true front (d ∷ back) e are leading =
    or_left (are_taken (d ∷ back) && leads (tokens front) (d ∷ back) e)
    (put_back_gives (front ++ d ∷ []) back e)
    (both_true (are_taken (d ∷ back)) (leads (tokens front) (d ∷ back) e) are leading)

later_true : (before front back : List Seen) (e : Seen)
    → put_back_gives (before ++ front) back e ≡ true
    → put_back_gives before (front ++ back) e ≡ true
later_true before [] back e is =
    subst (λ xs. put_back_gives xs back e ≡ true) (append-nil before) is
later_true before (d ∷ front) back e is =
    or_right (are_taken (d ∷ (front ++ back)) && leads (tokens before) (d ∷ (front ++ back)) e)
    (put_back_gives (before ++ d ∷ []) (front ++ back) e)
    (later_true (before ++ d ∷ []) front back e
    (subst (λ xs. put_back_gives xs back e ≡ true) (sym (append_assoc before (d ∷ []) front)) is))

record IsFound (before rest : List Seen) (e : Seen) : Type 0 where
  front : List Seen
  back : List Seen
  split : rest ≡ front ++ back
  are : are_taken back ≡ true
  leading : leads (tokens (before ++ front)) back e ≡ true

put_found : (before rest : List Seen) (e : Seen) → put_back_gives before rest e ≡ true
    → IsFound before rest e
put_found before [] e is = record {
  front = [];
  back = [];
  split = refl;
  are = refl;
  leading = subst (λ xs. leads (tokens xs) [] e ≡ true) (sym (append-nil before)) is;
}
put_found before (d ∷ rest) e is =
    elim (or_parts (are_taken (d ∷ rest) && leads (tokens before) (d ∷ rest) e)
    (put_back_gives (before ++ d ∷ []) rest e) is) [
      | inl here ↦
          let parts = and_parts (are_taken (d ∷ rest)) (leads (tokens before) (d ∷ rest) e)
          here in
          record {
            front = [];
            back = d ∷ rest;
            split = refl;
            are = parts.0;
            leading =
                subst (λ xs. leads (tokens xs) (d ∷ rest) e ≡ true) (sym (append-nil before))
                parts.1;
          }
      | inr later ↦
          let found = put_found (before ++ d ∷ []) rest e later in
          record {
            front = d ∷ found.front;
            back = found.back;
            split = ap (λ xs. d ∷ xs) found.split;
            are = found.are;
            leading = subst (λ xs. leads (tokens xs) found.back e ≡ true)
                (append_assoc before (d ∷ []) found.front) found.leading;
          }
    ]

any_true : {A : Type 0} (test : A → Bool) (xs : List A) (x : A) → IsAmong xs x → test x ≡ true
    → list_any test xs ≡ true
any_true test [] x is passes = absurd is
any_true test (y ∷ xs) x (inl is) passes =
    or_left (test y) (list_any test xs) (ap test is ∙ passes)
any_true test (y ∷ xs) x (inr is) passes =
    or_right (test y) (list_any test xs) (any_true test xs x is passes)

any_found : {A : Type 0} (test : A → Bool) (xs : List A) → list_any test xs ≡ true
    → (x : A) × IsAmong xs x × (test x ≡ true)
any_found test [] is = absurd (false≢true is)
any_found test (y ∷ xs) is = elim (or_parts (test y) (list_any test xs) is) [
  | inl here ↦ (y, inl refl, here)
  | inr later ↦ let found = any_found test xs later in (found.0, inr found.1, found.2)
]

pub given_tests : (es : List Seen) (e : Seen) → IsGiven es e → is_given es e ≡ true
given_tests es e given =
    let plain = some_reading_gives es e in
    let last = last_behind 0 es in
    elim given.way as (λ _. is_given es e ≡ true) [
      | inl way ↦
          or_left plain (put_back_gives [] es e)
          (any_true (λ (r : Reading). is_next r.clock last e) (readings es) way.reading way.reads
          (next_true way.reading.clock last e (given.count ∙ ap stamp_count way.clock_is)
          way.last_is))
      | inr way ↦
          or_right plain (put_back_gives [] es e)
          (subst (λ xs. put_back_gives [] xs e ≡ true) (sym way.split)
          (later_true [] way.front way.back e
          (put_true way.front way.back e (taken_true way.back way.receives)
          (leads_true (tokens way.front) way.back e way.token way.held
          (next_true (clock_behind way.token.this way.back) (last_behind way.token.prev way.back) e
          (given.count ∙ ap stamp_count way.clock_is) way.last_is)))))
    ]

pub test_gives : (es : List Seen) (e : Seen) → is_given es e ≡ true → IsGiven es e
test_gives es e is =
    let last = last_behind 0 es in
    elim (or_parts (some_reading_gives es e) (put_back_gives [] es e) is) [
      | inl plain ↦
          let found = any_found (λ (r : Reading). is_next r.clock last e) (readings es) plain in
          let parts = next_parts found.0.clock last e found.2 in
          record {
            clock = found.0.clock;
            count = parts.0;
            way = inl (record {
              reading = found.0;
              reads = found.1;
              clock_is = refl;
              last_is = parts.1;
            });
          }
      | inr put ↦
          let found = put_found [] es e put in
          let token = leads_by (tokens found.front) found.back e found.leading in
          let t = token.0 in
          let parts = next_parts (clock_behind t.this found.back) (last_behind t.prev found.back) e
          token.2 in
          record {
            clock = clock_behind t.this found.back;
            count = parts.0;
            way = inr (record {
              front = found.front;
              back = found.back;
              split = found.split;
              receives = taken_all found.back found.are;
              token = t;
              held = token.1;
              clock_is = refl;
              last_is = parts.1;
            });
          }
    ]

-- no run that keeps to the premises has a stamp that isn't given
pub stamps_final : (es : List Seen) (i : ℕ) (e : Seen) → slice_get es i ≡ Some e
    → e.kind ≢ kind.Receive
    → is_given (take i es) e ≡ false → (pids : List Pid) (acts : List NodeAct)
    → (os : List Outcome)
    → node_run pids acts ≡ Some os → NoNodeReset acts → (p : Pid)
    → ReportsTokens p (zero_state pids) acts os → PutsBackOwn p [] (zero_state pids) acts os
    → ¬ (seen_stream acts os p ≡ es)
stamps_final es i e at stamp lacks pids acts os run none p tells own same =
    let there : slice_get (seen_stream acts os p) i ≡ Some e =
    ap (λ xs. slice_get xs i) same ∙ at in
    let given = stamps_given pids acts os run none p tells own i e there stamp in
    let test : is_given (take i es) e ≡ true =
    given_tests (take i es) e (subst (λ xs. IsGiven (take i xs) e) same given) in
    false≢true (sym lacks ∙ test)
