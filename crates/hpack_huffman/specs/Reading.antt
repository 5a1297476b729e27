-- Reading from left to right, with the first fault that is met.
use Rattle.std.specs.Prelude.{ℕ, zero, suc, Bool, ◌&&◌, List, [], ◌∷◌, length, drop, Option, Some, None, Result, Ok, Err, nat_eq, nat_le, ◌==◌, if◌then◌else◌}
use Rattle.std.specs.List.{list_all, starts_with}
use Rattle.hpack_huffman.specs.declared.HuffmanError.{HuffmanError}
use Rattle.hpack_huffman.specs.declared.HuffmanError.TheVariants.{Eos, Padding}
use Rattle.hpack_huffman.specs.Code.{eos, bits_of, code, code_length}

-- the symbol below n whose code begins the bits
unfoldable pub symbol_below : ℕ → List ℕ → Option ℕ
symbol_below zero bs = None
symbol_below (suc n) bs = if starts_with nat_eq bs (code n) then Some n else symbol_below n bs

unfoldable pub symbol_at : List ℕ → Option ℕ
symbol_at bs = symbol_below 257 bs

unfoldable pub is_padding : List ℕ → Bool
is_padding bs = nat_le (length bs) 7 && list_all (λ b. b == 1) bs

abbrev pub with_first : ℕ → Result (List ℕ) HuffmanError → Result (List ℕ) HuffmanError
with_first symbol (Ok text) = Ok (symbol ∷ text)
with_first symbol (Err e) = Err e

abbrev pub after_symbol : Option ℕ → (ℕ → Result (List ℕ) HuffmanError) → List ℕ →
    Result (List ℕ) HuffmanError
after_symbol None more bs = if is_padding bs then Ok [] else Err Padding
after_symbol (Some symbol) more bs =
    if symbol == eos then Err Eos else with_first symbol (more symbol)

-- the text that bits spell, of which there are at most so many symbols
unfoldable pub text_in : ℕ → List ℕ → Result (List ℕ) HuffmanError
text_in zero bs = after_symbol None (λ symbol. Ok []) bs
text_in (suc most) bs =
    after_symbol (symbol_at bs) (λ symbol. text_in most (drop (code_length symbol) bs)) bs

unfoldable pub text_of_bits : List ℕ → Result (List ℕ) HuffmanError
text_of_bits bs = text_in (length bs) bs

-- the text that octets spell
unfoldable pub text_of_octets : List ℕ → Result (List ℕ) HuffmanError
text_of_octets octets = text_of_bits (bits_of octets)
