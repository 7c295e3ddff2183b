-- A line names a pid of another node exactly if its process, event or act does, so the tests of
-- the parts test the lines.
use Rattle.std.proofs.Common.{◌≡◌, ℕ, suc, zero, ◌<◌, Bool, true, false, ◌||◌, List, [], ◌∷◌}
use Rattle.std.proofs.Common.{length, map, get_or, Option, Some, None, refl, ap, ◌∙◌, arith}
use Rattle.std.specs.List.{list_any, flat_map}
use Rattle.std.proofs.lemmas.List.{append-nil}
use Rattle.std.proofs.lemmas.List.Folds.{list_any-append}
use Rattle.std.specs.Borrow.{Bor}
use Rattle.st_core.specs.declared.types.Pid.{Pid}
use Rattle.st_core.specs.declared.types.Event.{Event}
use Rattle.st_core.specs.declared.types.Act.{Act}
use Rattle.st_core.specs.Run.{Stream, pids_of}
use Rattle.st_core.specs.Streams.{events_of, IsStreams}
use Rattle.st_text.specs.declared.line.Line.TheVariants as lines
use Rattle.st_text.specs.Text.{is_away, is_remote, process_lines, body, parts}
use Rattle.st_text.specs.Parts.Remote.{is_event_remote, is_act_remote, is_process_remote}
use Rattle.st_text.proofs.ListedPids.{by_pids, stream_at}
use Rattle.st_core.proofs.ForCallers.{or_true, or_false}

pub any-map : {X Y : Type 0} (test : Y → Bool) (f : X → Y) (xs : List X)
    → list_any test (map f xs) ≡ list_any (λ x. test (f x)) xs
any-map test f [] = refl
any-map test f (x ∷ xs) = ap (λ b. test (f x) || b) (any-map test f xs)

pub any-flat_map : {X Y : Type 0} (test : Y → Bool) (f : X → List Y) (xs : List X)
    → list_any test (flat_map f xs) ≡ list_any (λ x. list_any test (f x)) xs
any-flat_map test f [] = refl
any-flat_map test f (x ∷ xs) =
    list_any-append test (f x) (flat_map f xs) ∙ ap (λ b. list_any test (f x) || b)
    (any-flat_map test f xs)

pub any_same : {X : Type 0} (p q : X → Bool) → ((x : X) → p x ≡ q x) → (xs : List X)
    → list_any p xs ≡ list_any q xs
any_same p q same [] = refl
any_same p q same (x ∷ xs) = rw (same x, any_same p q same xs) refl

pub any_at : {X : Type 0} (p : X → Bool) (xs : List X) (i : ℕ) (d : X) → i < length xs
    → p (get_or xs i d) ≡ true
    → list_any p xs ≡ true
any_at p [] i d lt e = absurd (omega arith)
any_at p (x ∷ xs) zero d lt e = rw e refl
any_at p (x ∷ xs) (suc i) d lt e = rw (any_at p xs i d (omega arith) e) (or_true (p x))

pub events_remote : (es : List Event)
    → list_any is_remote (map lines.Event es) ≡ list_any is_event_remote es
events_remote es = any-map is_remote lines.Event es

pub acts_remote : (list : List Act)
    → list_any is_remote (map lines.Act list) ≡ list_any is_act_remote list
acts_remote list = any-map is_remote lines.Act list

process_remote : (ss : List Stream) (p : Pid)
    → list_any is_remote (process_lines (stream_at (events_of ss) p)) ≡ is_process_remote ss p
process_remote ss p = rw (or_false (is_away p), events_remote (events_of ss p)) refl

pub streams_remote : (ss : List Stream) → IsStreams ss
    → list_any is_remote (flat_map process_lines ss) ≡ list_any (is_process_remote ss) (pids_of ss)
streams_remote ss is =
    ap (list_any is_remote) (by_pids ss is.draft.rising)
    ∙ any-flat_map is_remote (λ p. process_lines (stream_at (events_of ss) p)) (pids_of ss)
    ∙ any_same (λ p. list_any is_remote (process_lines (stream_at (events_of ss) p)))
    (is_process_remote ss)
    (process_remote ss) (pids_of ss)

pub body_none : (ss : List Stream)
    → list_any is_remote (body (record { streams = ss; acts = None }))
    ≡ list_any is_remote (flat_map process_lines ss)
body_none ss = ap (list_any is_remote) (append-nil (flat_map process_lines ss))

pub body_some : (ss : List Stream) (list : List Act)
    → list_any is_remote (body (record { streams = ss; acts = Some list }))
    ≡ (list_any is_remote (flat_map process_lines ss) || list_any is_act_remote list)
body_some ss list =
    list_any-append is_remote (flat_map process_lines ss) (lines.Acts ∷ map lines.Act list)
    ∙ ap (λ b. list_any is_remote (flat_map process_lines ss) || b) (acts_remote list)

pub body_true : (ss : List Stream) (o : Option (List Act))
    → list_any is_remote (flat_map process_lines ss) ≡ true
    → list_any is_remote (body (record { streams = ss; acts = o })) ≡ true
body_true ss None e = body_none ss ∙ e
body_true ss (Some list) e = body_some ss list ∙ rw e refl

pub parts_none : (ss : List Stream) (o : Option (Bor (List Act))) → o ≡ None
    → list_any is_remote (flat_map process_lines ss) ≡ false
    → list_any is_remote (body (parts ss o)) ≡ false
parts_none ss None e none = body_none ss ∙ none
parts_none ss (Some a) e none = absurd cc

pub parts_some : (ss : List Stream) (o : Option (Bor (List Act))) (a : Bor (List Act)) → o ≡ Some a
    → list_any is_remote (flat_map process_lines ss) ≡ false
    → list_any is_remote (body (parts ss o)) ≡ list_any is_act_remote a.now
parts_some ss o a e none =
    ap (λ (x : Option (Bor (List Act))). list_any is_remote (body (parts ss x))) e
    ∙ body_some ss a.now ∙ rw none refl
