-- A text is its parts, one after the other. Each text begins with a line, so none is empty; and an
-- event that was told has no line.
use Rattle.std.proofs.Common.{◌≡◌, ℕ, zero, suc, ◌+◌, ◌<◌, Bool, true, false, List, [], ◌∷◌, ◌++◌}
use Rattle.std.proofs.Common.{length, map, Some, refl, sym, ◌∙◌, ap, arith, append_assoc, codes}
use Rattle.std.proofs.Common.{decimal, if◌then◌else◌, subst, Result, Ok, Err}
use Rattle.std.specs.Prelude.{get_or, option_map, slice_get}
use Rattle.std.specs.List.{flat_map}
use Rattle.std.specs.Result.{IsErr, OnOk}
use Rattle.std.proofs.lemmas.List.{append-nil}
use Rattle.st_core.specs.declared.types.Pid.{Pid}
use Rattle.st_core.specs.declared.types.Event.{Event}
use Rattle.st_core.specs.Run.{Stream, pids_of}
use Rattle.st_core.specs.Streams.{events_of}
use Rattle.st_pair.specs.Places.{event_at}
use Rattle.st_plan.specs.Marks.{all_streams, Marked, Whole}
use Rattle.lack_laws.specs.Needs.{marked_of}
use Rattle.lack_laws.proofs.ForCallers.{events_all}
use Rattle.lack_decide.specs.declared.answer.Never.{Never}
use Rattle.lack_decide.specs.declared.answer.Never.TheVariants as never
use Rattle.lack_laws.specs.Silent.{with_silent}
use Rattle.lack_needs.specs.Completions.{added_in, marked_with, Completed}
use Rattle.lack_needs.proofs.ForCallers.{mark_read}
use Rattle.st_text.specs.Writing.{Goes, WritesOn, WritesPart, WritesText}
use Rattle.st_text.proofs.ForCallers.{finishes, front_some, line_some}
use Rattle.st_chart.specs.Words.{place_words}
use Rattle.st_chart.specs.Report.{event_line, place_line}
use Rattle.seqtool_commands.specs.Complete.{added_from, added_text, never_text}
use Rattle.seqtool_commands.specs.Lines.{added_at, added_line, added_of, added_parts, count_line}
use Rattle.seqtool_commands.specs.Lines.{if_untold, never_line}
use Rattle.seqtool_commands.specs.Lines.{never_parts, never_words, other_line, unlisted_line, up_to}

-- THE PARTS OF A TEXT

module _ {S T E : Type 0} (puts : S → List ℕ → S → Type 0) (failed : S → Bool) (parts text : List ℕ)
    (same : parts ≡ text) where
  -- all parts were written
  pub finishes_as : {a b : S} (c : S) {x : List ℕ} (y : List ℕ) (r : Result T E) → 0 < length parts
      → Goes puts failed parts a b [] x → WritesOn puts failed [] b c x y r → OnOk r (y ≡ [])
      → WritesText puts failed text a c r
  finishes_as {a} c y r some went flushed over =
      subst (λ (t : List ℕ). WritesText puts failed t a c r) same
      (finishes puts failed parts c y r some went flushed over)

  -- the device failed after some parts
  pub fails_as : {a b : S} (r : Result T E) → IsErr r → WritesPart puts failed parts a b
      → WritesText puts failed text a b r
  fails_as (Ok v) is part = absurd cc
  fails_as {a} {b} (Err e) is part = subst (λ (t : List ℕ). WritesPart puts failed t a b) same part

-- THE ADDED EVENTS

-- the first text comes before the others
front_first : (f : ℕ → List ℕ) (n : ℕ) → up_to f (suc n) ≡ f 0 ++ up_to (λ i. f (suc i)) n
front_first f zero = sym (append-nil (f 0))
front_first f (suc n) =
    ap (λ t. t ++ f (suc n)) (front_first f n)
    ∙ append_assoc (f 0) (up_to (λ i. f (suc i)) n) (f (suc n))

-- the line of event i of the marked events, which are from index k of p on
abbrev line_at : Pid → ℕ → List Marked → ℕ → List ℕ
line_at p k ms i =
    if_untold (option_map (λ (m : Marked). m.told) (slice_get ms i))
    (place_line (codes "added ") p (k + i) (slice_get (map (λ (m : Marked). m.event) ms) i))

untold_if : (b : Bool) (line : List ℕ) → if_untold (Some b) line ≡ (if b then [] else line)
untold_if true line = refl
untold_if false line = refl

line_later : (p : Pid) (k : ℕ) (m : Marked) (ms : List Marked) (i : ℕ)
    → line_at p k (m ∷ ms) (suc i) ≡ line_at p (k + 1) ms i
line_later p k m ms i =
    let place : k + suc i ≡ k + 1 + i = omega arith in
    ap (λ n. if_untold (option_map (λ (x : Marked). x.told) (slice_get ms i))
    (place_line (codes "added ") p n (slice_get (map (λ (x : Marked). x.event) ms) i))) place

lines_from : (p : Pid) (k : ℕ) (ms : List Marked)
    → up_to (line_at p k ms) (length (map (λ (m : Marked). m.event) ms)) ≡ added_from p k ms
lines_from p k [] = refl
lines_from p k (m ∷ ms) =
    let n = length (map (λ (x : Marked). x.event) ms) in
    let here : k + 0 ≡ k = omega arith in
    let first : line_at p k (m ∷ ms) 0
    ≡ (if m.told then [] else place_line (codes "added ") p k (Some m.event)) =
    untold_if m.told (place_line (codes "added ") p (k + 0) (Some m.event))
    ∙ ap (λ j. if m.told then [] else place_line (codes "added ") p j (Some m.event)) here in
    front_first (line_at p k (m ∷ ms)) n
    ∙ ap (λ t. t ++ up_to (λ i. line_at p k (m ∷ ms) (suc i)) n) first
    ∙ (λ j. (if m.told then [] else place_line (codes "added ") p k (Some m.event))
    ++ up_to (λ i. line_later p k m ms i j) n)
    ∙ ap (λ t. (if m.told then [] else place_line (codes "added ") p k (Some m.event)) ++ t)
    (lines_from p (k + 1) ms)

added_here : (wholes : List Whole) (p : Pid)
    → added_of wholes p ≡ added_from p 0 (marked_of wholes p)
added_here wholes p =
    let ms = marked_of wholes p in
    let first : (i : ℕ) → added_at wholes p i ≡ line_at p 0 ms i = λ i.
    let place : i ≡ 0 + i = omega arith in
    ap (λ (es : List Event). if_untold (option_map (λ (m : Marked). m.told) (slice_get ms i))
    (place_line (codes "added ") p i (slice_get es i))) (events_all wholes p)
    ∙ ap (λ n. if_untold (option_map (λ (m : Marked). m.told) (slice_get ms i))
    (place_line (codes "added ") p n (slice_get (map (λ (m : Marked). m.event) ms) i))) place in
    (λ j. up_to (λ i. first i j) (length (events_all wholes p j))) ∙ lines_from p 0 ms

pub added_same : (c : Completed) → added_parts c ≡ added_text c
added_same c =
    let front = count_line (added_in c.wholes) ++ flat_map unlisted_line c.unlisted in
    λ j. front ++ flat_map (λ p. added_here c.wholes p j) (pids_of (all_streams c.wholes))

pub added_some : (c : Completed) → 0 < length (added_parts c)
added_some c =
    let first = count_line (added_in c.wholes) in
    let second = flat_map unlisted_line c.unlisted in
    front_some (first ++ second) (flat_map (added_of c.wholes) (pids_of (all_streams c.wholes)))
    (front_some first second (line_some (codes "added " ++ decimal (added_in c.wholes))))

-- NO COMPLETION

pub never_same : (streams : List Stream) (p : Pid) (i : ℕ) (r : Never)
    → never_parts streams p i r ≡ never_text streams p i r
never_same streams p i never.PrevNotBefore = refl
never_same streams p i (never.NotRising j) = refl
never_same streams p i (never.Repeated q j) = refl
never_same streams p i (never.Mismatch q j) = refl
never_same streams p i (never.Late j) = refl
never_same streams p i never.Unfounded = refl
never_same streams p i never.TooHigh = refl

pub never_some : (streams : List Stream) (p : Pid) (i : ℕ) (r : Never)
    → 0 < length (never_parts streams p i r)
never_some streams p i r =
    front_some (never_line p i r ++ event_line streams p i) (other_line streams p r)
    (front_some (never_line p i r) (event_line streams p i)
    (line_some (codes "never " ++ place_words p i ++ codes " " ++ never_words p r)))

-- the line of an event follows from its mark
pub line_by : (p : Pid) (es : List Event) (marks : List Bool) (i : ℕ) (e : Event) (b : Bool)
    → slice_get es i ≡ Some e → get_or marks i false ≡ b
    → added_line p es marks i ≡ if_untold (Some b) (place_line (codes "added ") p i (Some e))
line_by p es marks i e b at is =
    let told = mark_read es marks i ∙ ap (option_map (λ (d : Event). get_or marks i false)) at
    ∙ ap Some is in
    ap (λ o. if_untold o (place_line (codes "added ") p i (slice_get es i))) told
    ∙ ap (λ o. if_untold (Some b) (place_line (codes "added ") p i o)) at

-- the line of an event of a completion follows from its mark, if es and marks are those of p
pub line_in : (wholes : List Whole) (p : Pid) (es : List Event) (marks : List Bool) (i : ℕ)
    → es ≡ events_of (all_streams wholes) p
    → marked_with (events_of (all_streams wholes) p) marks ≡ marked_of wholes p
    → added_line p es marks i ≡ added_at wholes p i
line_in wholes p es marks i are is =
    ap (λ xs. added_line p xs marks i) are
    ∙ ap (λ (ms : List Marked). if_untold (option_map (λ (m : Marked). m.told) (slice_get ms i))
    (place_line (codes "added ") p i (event_at (all_streams wholes) p i))) is

-- with no unlisted process, the streams stay as they are
pub as_they_are : (streams : List Stream) (qs : List Pid) → length qs ≡ 0
    → streams ≡ with_silent streams qs
as_they_are streams [] e = refl
as_they_are streams (q ∷ qs) e = absurd (omega arith)
