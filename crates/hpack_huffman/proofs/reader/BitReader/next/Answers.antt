use Rattle.std.proofs.Common.{◌-◌, ◌≤◌, ◌++◌, sym, ap, ◌∙◌, arith, rules}
use Rattle.hpack_huffman.specs.Code.{bits}
use Rattle.hpack_huffman.specs.Left.{bits_left}
use Rattle.hpack_huffman.specs.Reading.{text_of_bits}
use Rattle.hpack_huffman.proofs.Windows.{code_beyond, left_after, left_at_least, left_exactly, symbol_read, left_shorter}
use Rattle.hpack_huffman.proofs.reader.BitReader.next.Goals as goal

pub returns-then-self-length-clause-reads : goal.returns-then-self-length-clause-reads
returns-then-self-length-clause-reads c =
    let r = c.fill.new.self in
    let s = c.symbol_of-symbol.result.0 in
    let used = c.symbol_of-symbol.ensures.known in
    let short = c.symbol_of-symbol.ensures.short in
    let long = left_exactly r.held r.buffer r.octets.now (c.fill.ensures.enough (omega arith)) in
    ap text_of_bits (sym c.fill.ensures.same)
    ∙ code_beyond s (bits_left r) (bits (30 - c.symbol_of-symbol.result.1) c.window-window.result) (search rules) (omega arith)
    (sym c.window-window.ensures.bits ∙ c.symbol_of-symbol.ensures.opens)

pub returns-clause-reads : goal.returns-clause-reads
returns-clause-reads c =
    let r = c.fill.new.self in
    let s = c.symbol_of-symbol.result.0 in
    let used = c.symbol_of-symbol.ensures.known in
    let short = c.symbol_of-symbol.ensures.short in
    let long = left_at_least r.held r.buffer r.octets.now in
    ap text_of_bits (sym c.fill.ensures.same)
    ∙ symbol_read s (bits_left r) (bits (r.held - c.symbol_of-symbol.result.1) r.buffer ++ _)
    (bits (30 - c.symbol_of-symbol.result.1) c.window-window.result)
    (search rules) (omega arith) (omega arith) (sym c.window-window.ensures.bits ∙ c.symbol_of-symbol.ensures.opens)
    (rw (← used) (left_after r.held r.buffer c.symbol_of-symbol.result.1 r.octets.now (omega arith)))

pub returns-clause-shorter : goal.returns-clause-shorter
returns-clause-shorter c some =
    let r = c.fill.new.self in
    let used = c.symbol_of-symbol.ensures.known in
    let known : c.symbol_of-symbol.result.0 ≤ 256 = search rules in
    rw (← c.fill.ensures.same) (left_shorter c.symbol_of-symbol.result.0 r.held r.buffer c.symbol_of-symbol.result.1 r.octets.now known used
    (omega arith))
