-- No spelling is empty, for each begins with a word, a digit or a bracket.
use Rattle.std.proofs.Common.{ℕ, ◌<◌, Bool, true, false, List, [], ◌∷◌, ◌++◌, length, lit<, arith}
use Rattle.std.specs.Prelude.{codes}
use Rattle.std.proofs.lemmas.List.{length-append}
use Rattle.std.specs.List.{flat_map, list_any}
use Rattle.st_core.specs.declared.types.Event.{Event}
use Rattle.st_text.specs.Spelling.{event, ended_line}
use Rattle.st_text.specs.declared.line.Line.TheVariants as lines
use Rattle.st_text.specs.Text.{Contents, body, is_remote, ended, spelling}

pub front_some : (xs ys : List ℕ) → 0 < length xs → 0 < length (xs ++ ys)
front_some xs ys some = omega (arith, length-append xs ys)

pub line_some : (words : List ℕ) → 0 < length (ended_line words)
line_some words = omega (arith, length-append words (10 ∷ []))

header_some : (b : Bool) → 0 < length (ended (lines.Header b))
header_some true = lit< tt
header_some false = lit< tt

pub text_some : (c : Contents) → 0 < length (spelling c)
text_some c =
    front_some (ended (lines.Header (list_any is_remote (body c)))) (flat_map ended (body c))
    (header_some (list_any is_remote (body c)))

pub event_some : (e : Event) → 0 < length (event e)
event_some e = front_some (codes "{seq_trace,") _ (lit< tt)
