use Rattle.std.proofs.Common.{◌≡◌, ◌+◌, ◌*◌, ◌≤◌, length, take}
use Rattle.std.specs.Prelude.{vec_capacity, vec_len}
use Rattle.hpack_huffman.specs.Left.{bits_left, with_front}
use Rattle.hpack_huffman.specs.Reading.{text_of_octets, text_of_bits}
use Rattle.hpack_huffman.proofs.decode.append_text.Given as goal

abbrev pub invariant-loop-symbol : goal.invariant-loop-symbol
invariant-loop-symbol l = record {
  read : with_front l.text.items (text_of_bits (bits_left l.reader)) ≡ with_front l.fn.text.items (text_of_octets l.octets);
  front : take (length l.fn.text.items) l.text.items ≡ l.fn.text.items;
  held : l.reader.held ≤ 64;
  short : 5 * vec_len l.text + length (bits_left l.reader) ≤ 5 * vec_len l.fn.text + 8 * length l.octets;
  room : vec_capacity l.fn.text ≤ vec_capacity l.text;
}

abbrev pub decreases-loop-symbol : goal.decreases-loop-symbol
decreases-loop-symbol l = length (bits_left l.reader)
