use Rattle.hpack.proofs.Blocks.{block_read, block_spelled, block_within}
use Rattle.hpack.proofs.laws.reading_is_the_grammar.Goals as goal

pub returns-clause-only : goal.returns-clause-only
returns-clause-only c = block_read

pub returns-clause-found : goal.returns-clause-found
returns-clause-found c = block_spelled

pub returns-clause-within : goal.returns-clause-within
returns-clause-within c = block_within
