use Rattle.std.proofs.Common.{arith}
use Rattle.hex.specs.Hex.{IsBytes}
use Rattle.script.proofs.HexadecimalLemmas.{bytes_of_hex-hex_word, hex_word-bytes_of_hex}
use Rattle.script.proofs.laws.hexadecimal_is_read_back.Goals as goal

pub returns-clause-read : goal.returns-clause-read
returns-clause-read c =
    let fit : IsBytes c.args.bytes.now = λ i. let f = c.type_inv.bytes i in omega arith in
    bytes_of_hex-hex_word c.args.bytes.now fit

pub returns-clause-only : goal.returns-clause-only
returns-clause-only c word read = hex_word-bytes_of_hex word c.args.bytes.now read
