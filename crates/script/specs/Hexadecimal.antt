-- Bytes in lower-case hexadecimal, two digits a byte, the high four bits first, and `-` for no
-- bytes.
use Rattle.std.specs.Prelude.{ℕ, if◌then◌else◌, List, [], ◌∷◌, codes, Option, Some, None}
use Rattle.std.specs.List.{list_all}
use Rattle.std.specs.Result.{result_ok}
use Rattle.std.specs.Str.{bytes_eq}
use Rattle.hex.specs.Hex.{decode_of, encode_lower}
pub use Rattle.hex.specs.Hex.{IsBytes}
pub use Rattle.digest.specs.Text.{is_lower_hex_digit}

-- the word that writes some bytes
abbrev pub hex_word : List ℕ → List ℕ
hex_word [] = codes "-"
hex_word (byte ∷ bytes) = encode_lower (byte ∷ bytes)

-- the bytes that digits write, where each is a digit in lower case and they come in pairs
abbrev pub digits_bytes : List ℕ → Option (List ℕ)
digits_bytes digits =
    if list_all is_lower_hex_digit digits then result_ok (decode_of digits) else None

-- the bytes that a word writes: none for `-`, and an empty word writes nothing
abbrev pub bytes_of_hex : List ℕ → Option (List ℕ)
bytes_of_hex [] = None
bytes_of_hex (byte ∷ word) =
    if bytes_eq (byte ∷ word) (codes "-") then Some [] else digits_bytes (byte ∷ word)
