use Rattle.hpack_huffman.proofs.CodeTable.{are_short}
use Rattle.hpack_huffman.proofs.code.symbol_of.Goals as goal

pub symbol_by-requires-clause-short : goal.symbol_by-requires-clause-short
symbol_by-requires-clause-short c = are_short
