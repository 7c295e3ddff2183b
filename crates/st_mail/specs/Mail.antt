-- Mailboxes as contracts see them.
use Rattle.std.specs.Prelude.{ℕ, List, [], Option, Some, None, remove, slice_index_or}
use Rattle.st_core.specs.declared.types.Message.{Message}
-- the test for a token with a given from and own count
pub use Rattle.st_mail.specs.Index.{bears_stamp}

-- the queue of each mailbox, from its oldest message on, and the number of messages for which
-- there is room already
pub record Mail : Type 0 where
  pub boxes : List (List Message)
  pub spare : ℕ

-- the queue of mailbox i
abbrev pub queue_in : List (List Message) → ℕ → List Message
queue_in boxes i = slice_index_or boxes i []

-- the queue after a receive: without the message that it found, or unchanged if it found none
abbrev pub queue_without : Option (ℕ × Message) → List Message → List Message
queue_without None queue = queue
queue_without (Some found) queue = remove queue found.0
