use Rattle.hpack_huffman.proofs.Canonical.{prefix_free}
use Rattle.hpack_huffman.proofs.laws.no_code_begins_another.Goals as goal

pub returns : goal.returns
returns c = prefix_free
