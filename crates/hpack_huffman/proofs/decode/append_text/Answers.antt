use Rattle.std.proofs.Common.{◌≡◌, ◌*◌, length, ap, ◌∙◌, arith, rules}
use Rattle.std.proofs.lemmas.List.{take_all}
use Rattle.hpack_huffman.specs.Left.{bits_left}
use Rattle.hpack_huffman.specs.Reading.{text_of_octets}
use Rattle.hpack_huffman.proofs.Windows.{length-bits_of}
use Rattle.hpack_huffman.proofs.decode.append_text.Goals as goal

pub loop-symbol-init : goal.loop-symbol-init
unfolding text_of_octets
loop-symbol-init c =
    let whole : length (bits_left c.new-reader.result) ≡ 8 * length c.args.octets.now =
    ap length c.new-reader.ensures.left ∙ length-bits_of c.args.octets.now in
    record {
      read = search rules;
      front = take_all (length c.args.text.now.items) c.args.text.now.items (omega arith);
      held = omega arith;
      short = omega arith;
      room = omega arith;
    }
