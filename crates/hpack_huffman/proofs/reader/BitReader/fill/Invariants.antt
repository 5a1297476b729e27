use Rattle.std.proofs.Common.{◌≡◌, ◌≤◌, length}
use Rattle.hpack_huffman.specs.Left.{bits_left}
use Rattle.hpack_huffman.proofs.reader.BitReader.fill.Given as goal

abbrev pub invariant-loop-self : goal.invariant-loop-self
invariant-loop-self l = record {
  same : bits_left l.self ≡ bits_left l.fn.self;
  held : l.self.held ≤ 64;
}

abbrev pub decreases-loop-self : goal.decreases-loop-self
decreases-loop-self l = length l.self.octets.now
