-- So far the table has the tokens that the events show.
use Rattle.std.proofs.Common.{◌+◌, []}
use Rattle.node_origins.specs.Tables.{IsSince}
use Rattle.node_origins.proofs.first_tokens.FirstTokens.of.Given as goal

abbrev pub invariant-loop-index : goal.invariant-loop-index
invariant-loop-index l = IsSince l.events (l.index + 1) [] l.tokens
