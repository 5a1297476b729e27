use Rattle.hpack_huffman.proofs.CodeTable.{among_at, among_end, among_next}
use Rattle.hpack_huffman.proofs.code.symbol_among.Goals as goal

pub symbol_in-requires : goal.symbol_in-requires
symbol_in-requires c = among_at c.args.window c.args.rows.now c.loop-codes.codes-index _ c.loop-codes-test.true c.if-window-codes.true
    c.loop-codes.invariant

pub loop-codes-preserved : goal.loop-codes-preserved
loop-codes-preserved c = among_next c.args.window c.args.rows.now c.loop-codes.codes-index _ c.loop-codes-test.true c.if-window-codes.false
    c.loop-codes.invariant

pub unreachable-requires : goal.unreachable-requires
unreachable-requires c = among_end c.args.window c.args.rows.now c.loop-codes.codes-index c.requires.code c.loop-codes-test.false
    c.loop-codes.invariant
