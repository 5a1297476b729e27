use Rattle.std.proofs.Common.{arith}
use Rattle.hpack_huffman.specs.Left.{bits_left}
use Rattle.hpack_huffman.proofs.Windows.{ones_is, ones_long, ones_padding, ones_too_long, left_at_least, left_exactly}
use Rattle.hpack_huffman.proofs.reader.BitReader.end.Goals as goal

pub returns-in-0-to-7-clause-reads : goal.returns-in-0-to-7-clause-reads
returns-in-0-to-7-clause-reads c =
    let r = c.args.self.now in
    let long = left_exactly r.held r.buffer r.octets.now (c.requires.enough (omega arith)) in
    ones_padding (bits_left r) (omega arith) (ones_is (bits_left r) c.requires.ones)

pub returns-in-8-to-29-clause-reads : goal.returns-in-8-to-29-clause-reads
returns-in-8-to-29-clause-reads c =
    let r = c.args.self.now in
    let long = left_exactly r.held r.buffer r.octets.now (c.requires.enough (omega arith)) in
    ones_too_long (bits_left r) (omega arith) (omega arith) (ones_is (bits_left r) c.requires.ones)

pub returns-in_default-clause-reads : goal.returns-in_default-clause-reads
returns-in_default-clause-reads c =
    let r = c.args.self.now in
    let long = left_at_least r.held r.buffer r.octets.now in
    ones_long (bits_left r) (omega arith) (ones_is (bits_left r) c.requires.ones)
