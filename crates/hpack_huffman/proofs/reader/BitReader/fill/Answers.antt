use Rattle.std.proofs.Common.{◌∙◌, arith, rules}
use Rattle.hpack_huffman.proofs.Readers.{taken}
use Rattle.hpack_huffman.proofs.reader.BitReader.fill.Goals as goal

pub loop-self-preserved : goal.loop-self-preserved
loop-self-preserved c = record {
  same = taken c.loop-self.self.held c.loop-self.self.buffer c.from.result c.loop-self.self.octets.now (omega arith) (search rules)
      (omega arith) c.from.ensures ∙ c.loop-self.invariant.same;
  held = omega arith;
}
