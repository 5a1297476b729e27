-- String literals: RFC 7541, section 5.2.
use Rattle.std.specs.Prelude.{◌≡◌, ℕ, ◌-◌, ◌⊎◌, List, [], ◌∷◌, ◌++◌, length, take, drop, Result, Ok, Err, nat_lt, if◌then◌else◌}
use Rattle.hpack_huffman.specs.declared.HuffmanError.{HuffmanError}
use Rattle.hpack_huffman.specs.Grammar.{IsHuffman}
use Rattle.hpack_huffman.specs.Reading.{text_of_octets}
use Rattle.hpack.specs.declared.error.HpackError.{HpackError}
use Rattle.hpack.specs.declared.error.HpackError.TheVariants.{String as TooShort, Huffman}
use Rattle.hpack.specs.Results.{◌>>=◌}
use Rattle.hpack.specs.Integer.{IsInteger, integer_at, integer_text}

-- ---- which octets are a string

-- its length, and then its octets as they are
pub record IsPlain (bytes text : List ℕ) : Type 0 where
  pub len : List ℕ
  pub counted : IsInteger 0 127 len (length text)
  pub parts : bytes ≡ len ++ text

-- the length of its Huffman coding, and then that coding
pub record IsCoded (bytes text : List ℕ) : Type 0 where
  pub len : List ℕ
  pub coding : List ℕ
  pub counted : IsInteger 128 127 len (length coding)
  pub expands : IsHuffman coding text
  pub parts : bytes ≡ len ++ coding

abbrev pub IsString : List ℕ → List ℕ → Type 0
IsString bytes text = IsPlain bytes text ⊎ IsCoded bytes text

-- ---- reading a string from left to right; given with it is what follows

abbrev pub octets_at : ℕ → List ℕ → Result (List ℕ × List ℕ) HpackError
octets_at count bytes =
    if nat_lt (length bytes) count then Err TooShort else Ok (take count bytes, drop count bytes)

abbrev pub expansion_of : Result (List ℕ) HuffmanError → Result (List ℕ) HpackError
expansion_of (Ok text) = Ok text
expansion_of (Err e) = Err Huffman

abbrev pub expansion : List ℕ → Result (List ℕ) HpackError
expansion coding = expansion_of (text_of_octets coding)

unfoldable pub string_at : List ℕ → Result (List ℕ × List ℕ) HpackError
string_at [] = Err TooShort
string_at (b ∷ bs) =
    if nat_lt b 128 then (integer_at 127 b bs >>= λ n. octets_at n.0 n.1)
    else (integer_at 127 (b - 128) bs >>= λ n. octets_at n.0 n.1 >>=
    λ s. expansion s.0 >>= λ text. Ok (text, s.1))

-- ---- writing a string, always as it is

abbrev pub string_text : List ℕ → List ℕ
string_text text = integer_text 0 127 (length text) ++ text
