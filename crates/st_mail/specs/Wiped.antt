-- How mailboxes store their queues: a wipe only counts the messages in the queue, so stored
-- messages may have tokens that are gone. No public clause cites this module.
use Rattle.std.specs.Prelude.{ℕ, ◌≤◌, List, [], ◌∷◌, ◌++◌, length, map, take, drop}
use Rattle.std.specs.List.{AllZip}
use Rattle.st_core.specs.declared.types.Message.{Message}
use Rattle.st_core.specs.Step.{untraced}

-- the queue that is stored, with its first `count` messages wiped: they have no tokens
abbrev pub front_wiped : ℕ → List Message → List Message
front_wiped count stored = map untraced (take count stored) ++ drop count stored

-- the queues of all mailboxes, each with its own count of wiped messages
abbrev pub fronts_wiped : List ℕ → List (List Message) → List (List Message)
fronts_wiped [] stored = []
fronts_wiped (count ∷ counts) [] = []
fronts_wiped (count ∷ counts) (queue ∷ stored) =
    front_wiped count queue ∷ fronts_wiped counts stored

-- each mailbox has a count of wiped messages, which is at most the length of its queue
abbrev pub AreFronts : List ℕ → List (List Message) → Type 0
AreFronts counts stored = AllZip (λ count queue. count ≤ length queue) counts stored
