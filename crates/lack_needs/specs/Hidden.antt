-- For the parts alone: hidden sends, which nobody reported though their messages were received.
use Rattle.std.specs.Prelude.{Bool, true, false, Option, Some, None}
use Rattle.st_pair.specs.declared.answer.Source.{Source}
use Rattle.st_pair.specs.declared.answer.Source.TheVariants as source

-- the source of a receive is a hidden send
abbrev pub is_hidden_in : Option Source → Bool
is_hidden_in None = false
is_hidden_in (Some source.Hidden) = true
is_hidden_in (Some (source.Event q j)) = false
