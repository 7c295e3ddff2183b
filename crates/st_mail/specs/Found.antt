-- How the messages of queues are found. No public clause cites this module.
use Rattle.std.specs.Prelude.{List, IfSome}
use Rattle.std.specs.List.{AllZip}
use Rattle.st_core.specs.declared.types.Message.{Message}
use Rattle.st_mail.specs.Index.{IsIndex, IsIndexOf}
use Rattle.st_mail.specs.declared.finder.Finder.{Finder}

-- the finder's index, if it has one, is an index of the queue
abbrev pub Finds : Finder → List Message → Type 0
Finds finder queue = IfSome finder.index (λ index. IsIndexOf index.value queue)

-- the finder's index, if it has one, is an index of some queue
abbrev pub IsFinder : Finder → Type 0
IsFinder finder = IfSome finder.index (λ index. IsIndex index.value)

-- there is a finder for each queue, and its index is of that queue
abbrev pub AllFound : List Finder → List (List Message) → Type 0
AllFound finders queues = AllZip Finds finders queues
