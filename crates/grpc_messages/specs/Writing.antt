-- How a message is written (gRPC over HTTP2, Length-Prefixed-Message): never compressed.
use Rattle.std.specs.Prelude.{ℕ, List, ◌∷◌, ◌++◌, length}
use Rattle.byteorder.specs.Endian.{big_bytes}

abbrev pub framed_message : List ℕ → List ℕ
framed_message message = (0 ∷ big_bytes 4 (length message)) ++ message
