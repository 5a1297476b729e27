use Rattle.std.proofs.Common.{drop}
use Rattle.hpack_huffman.specs.Table.{IsInRows}
use Rattle.hpack_huffman.proofs.code.symbol_among.Given as goal

abbrev pub invariant-loop-codes : goal.invariant-loop-codes
invariant-loop-codes l = IsInRows l.window (drop l.codes-index l.rows)
