-- What a reader of bits has still to give. For the code alone: no public contract speaks of it.
use Rattle.std.specs.Prelude.{ℕ, List, [], ◌++◌, Option, Some, None, Result, Ok, Err, take, replicate}
use Rattle.hpack_huffman.specs.declared.HuffmanError.{HuffmanError}
use Rattle.hpack_huffman.specs.declared.reader.BitReader.{BitReader}
use Rattle.hpack_huffman.specs.Code.{bits, bits_of}
use Rattle.hpack_huffman.specs.Reading.{with_first}

abbrev pub bits_left : BitReader → List ℕ
bits_left reader = bits reader.held reader.buffer ++ bits_of reader.octets.now

-- the first thirty bits, with ones after the last
unfoldable pub window_of : List ℕ → List ℕ
window_of bs = take 30 (bs ++ replicate 30 1)

-- an answer, and then what is read after it
abbrev pub reads_then : Result (Option ℕ) HuffmanError → Result (List ℕ) HuffmanError →
    Result (List ℕ) HuffmanError
reads_then (Ok (Some symbol)) rest = with_first symbol rest
reads_then (Ok None) rest = Ok []
reads_then (Err e) rest = Err e

-- a text before what is read
abbrev pub with_front : List ℕ → Result (List ℕ) HuffmanError → Result (List ℕ) HuffmanError
with_front front (Ok text) = Ok (front ++ text)
with_front front (Err e) = Err e
