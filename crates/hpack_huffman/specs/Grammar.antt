-- Which octets are the Huffman coding of a text (RFC 7541, section 5.2).
use Rattle.std.specs.Prelude.{◌≡◌, ℕ, ◌<◌, ◌≤◌, List, ◌++◌, replicate}
use Rattle.std.specs.List.{AllByRecursion}
use Rattle.hpack_huffman.specs.Code.{eos, bits_of, code, codes_of}

abbrev pub AreOctets : List ℕ → Type 0
AreOctets text = AllByRecursion (λ b. b < 256) text

-- the codes of the text, and then at most seven bits of padding, all of them ones
pub record IsHuffman (octets text : List ℕ) : Type 0 where
  pub padding : ℕ
  pub short : padding ≤ 7
  pub symbols : AreOctets text
  pub parts : bits_of octets ≡ codes_of text ++ replicate padding 1

-- the codes of some octets, and then the code of EOS
pub record HasEos (octets : List ℕ) : Type 0 where
  pub front : List ℕ
  pub rest : List ℕ
  pub symbols : AreOctets front
  pub parts : bits_of octets ≡ codes_of front ++ code eos ++ rest
