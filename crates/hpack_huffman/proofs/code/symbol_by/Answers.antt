use Rattle.hpack_huffman.proofs.CodeTable.{among_all}
use Rattle.hpack_huffman.proofs.code.symbol_by.Goals as goal

pub symbol_among-requires-clause-among : goal.symbol_among-requires-clause-among
symbol_among-requires-clause-among c = among_all c.args.window
