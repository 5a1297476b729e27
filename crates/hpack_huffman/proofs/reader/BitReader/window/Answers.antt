use Rattle.std.proofs.Common.{◌∙◌, arith, ap}
use Rattle.hpack_huffman.specs.Code.{bits}
use Rattle.hpack_huffman.proofs.Readers.{end_is, window_end, window_full}
use Rattle.hpack_huffman.proofs.reader.BitReader.window.Goals as goal

pub overflow_cast-result-then-self-lt-LONGEST : goal.overflow_cast-result-then-self-lt-LONGEST
overflow_cast-result-then-self-lt-LONGEST c = let small =
    (end_is c.args.self.now.held c.args.self.now.buffer c.if-self-lt-LONGEST.true).small in record { fits = omega arith }

pub returns-then-self-lt-LONGEST-clause-bits : goal.returns-then-self-lt-LONGEST-clause-bits
returns-then-self-lt-LONGEST-clause-bits c =
    let e = end_is c.args.self.now.held c.args.self.now.buffer c.if-self-lt-LONGEST.true in
    ap (bits 30) e.value ∙ window_end c.args.self.now.held c.args.self.now.buffer c.args.self.now.octets.now c.if-self-lt-LONGEST.true
    (c.requires.enough c.if-self-lt-LONGEST.true)

pub returns-then-self-lt-LONGEST-clause-short : goal.returns-then-self-lt-LONGEST-clause-short
returns-then-self-lt-LONGEST-clause-short c = (end_is c.args.self.now.held c.args.self.now.buffer c.if-self-lt-LONGEST.true).small

pub returns-else-self-lt-LONGEST-clause-bits : goal.returns-else-self-lt-LONGEST-clause-bits
returns-else-self-lt-LONGEST-clause-bits c = window_full c.args.self.now.held c.args.self.now.buffer _ c.if-self-lt-LONGEST.false
