-- Which bytes are the text of which bundle: the bundle's lines in order, each in its one spelling
-- and ended by a newline.
use Rattle.std.specs.Prelude.{◌≡◌, ℕ, ◌≤◌, Bool, true, not, ◌&&◌, List, [], ◌∷◌, ◌++◌, length, map}
use Rattle.std.specs.Prelude.{Option, Some, None, ◌==◌, option_to_list, option_map, position}
use Rattle.std.specs.List.{flat_map, list_any, list_all, AllByRecursion}
use Rattle.std.specs.Borrow.{Bor}
use Rattle.st_core.specs.declared.types.Pid.{Pid}
use Rattle.st_core.specs.declared.types.Want.{Want}
use Rattle.st_core.specs.declared.types.Want.TheVariants as wants
use Rattle.st_core.specs.declared.types.Act.{Act}
use Rattle.st_core.specs.declared.types.Act.TheVariants as acts
use Rattle.st_core.specs.Pid.{node_of}
use Rattle.st_core.specs.Step.{actor, receiver}
use Rattle.st_core.specs.Run.{Stream, pids_of}
use Rattle.st_core.specs.Streams.{IsStreams, is_among}
use Rattle.st_text.specs.declared.line.Line.{Line}
use Rattle.st_text.specs.declared.line.Line.TheVariants as lines
use Rattle.st_text.specs.Spelling.{line, ended_line}
use Rattle.st_text.specs.Range.{Fits}
use Rattle.st_text.specs.declared.limits.Limits.{Limits}

-- the contents of a bundle: streams, and acts if there are any
pub record Contents : Type 0 where
  pub streams : List Stream
  pub acts : Option (List Act)

-- the contents of streams, and of borrowed acts if there are any
abbrev pub parts : List Stream → Option (Bor (List Act)) → Contents
parts streams acts = record { streams = streams; acts = option_map (λ a. a.now) acts }

-- ---- the pids of a line

-- the pids that a want names
abbrev pub wanted : Want → List Pid
wanted (wants.From p) = p ∷ []
wanted (wants.Both p v) = p ∷ []
wanted w = []

-- the pids that an act names: its actor, a send's receiver, and those of a want or a restored token
abbrev pub named : Act → List Pid
named (acts.Send p q v) = p ∷ q ∷ []
named (acts.Receive p w) = p ∷ wanted w
named (acts.Restore p t) = p ∷ t.from ∷ []
named a = actor a ∷ []

-- the pids that a line names
abbrev pub names : Line → List Pid
names (lines.Header b) = []
names (lines.Process p) = p ∷ []
names (lines.Event e) = e.from ∷ option_to_list e.to
names lines.Acts = []
names (lines.Act a) = named a

-- the pid is of another node than 0
abbrev pub is_away : Pid → Bool
is_away p = not (node_of p == 0)

-- the line names a pid of another node than 0
abbrev pub is_remote : Line → Bool
is_remote l = list_any is_away (names l)

-- ---- the lines of a bundle

-- the lines of a process: its pid, then its events
abbrev pub process_lines : Stream → List Line
process_lines s = lines.Process s.pid ∷ map lines.Event s.events

-- the lines of acts, if there are any: the word `acts`, then each act
abbrev pub act_lines : Option (List Act) → List Line
act_lines None = []
act_lines (Some list) = lines.Acts ∷ map lines.Act list

-- all lines after the header
abbrev pub body : Contents → List Line
body c = flat_map process_lines c.streams ++ act_lines c.acts

-- all lines: the header is 2 exactly if a line names a pid of another node
abbrev pub lines_of : Contents → List Line
lines_of c = lines.Header (list_any is_remote (body c)) ∷ body c

-- the bytes of a line and its newline
abbrev pub ended : Line → List ℕ
ended l = ended_line (line l)

-- the one spelling of a bundle
abbrev pub spelling : Contents → List ℕ
spelling c = flat_map ended (lines_of c)

-- ---- bundles

-- the act's actor, and a send's receiver, are listed
abbrev pub is_listed : List Pid → Act → Bool
is_listed ps a = is_among ps (actor a) && is_among ps (receiver a)

abbrev pub acts_or_none : Option (List Act) → List Act
acts_or_none None = []
acts_or_none (Some list) = list

-- the number of the first act whose actor or receiver isn't listed
abbrev pub unlisted_act : List Stream → Option (List Act) → Option ℕ
unlisted_act streams acts = position (λ a. not (is_listed (pids_of streams) a)) (acts_or_none acts)

-- a bundle: its streams are well formed, its acts are those of listed processes, and each line can
-- be spelled
pub record IsBundle (c : Contents) : Type 0 where
  pub streams : IsStreams c.streams
  pub listed : list_all (is_listed (pids_of c.streams)) (acts_or_none c.acts) ≡ true
  pub fits : AllByRecursion Fits (body c)

-- the bytes are the text of the bundle
pub record IsText (bytes : List ℕ) (c : Contents) : Type 0 where
  pub bundle : IsBundle c
  pub spelled : bytes ≡ spelling c

-- the bundle and its text are within the limits
pub record IsWithin (limits : Limits) (c : Contents) : Type 0 where
  pub bytes : length (spelling c) ≤ limits.bytes
  pub processes : length c.streams ≤ limits.processes
  pub events : length (flat_map (λ s. s.events) c.streams) ≤ limits.events
  pub acts : length (acts_or_none c.acts) ≤ limits.acts
