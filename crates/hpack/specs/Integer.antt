-- Integers: RFC 7541, section 5.1.
use Rattle.std.specs.Prelude.{◌≡◌, ℕ, ◌+◌, ◌-◌, ◌*◌, ◌^◌, ◌<◌, ◌≤◌, List, [], ◌∷◌, length, Result, Ok, Err, nat_lt, nat_le, if◌then◌else◌}
pub use Rattle.numerals.specs.Groups.{AreGroups}
unfoldable pub use Rattle.numerals.specs.Groups.{groups_in, groups}
use Rattle.hpack.specs.declared.error.HpackError.{HpackError}
use Rattle.hpack.specs.declared.error.HpackError.TheVariants.{Integer}
use Rattle.hpack.specs.Results.{◌>>=◌}

-- ---- which octets are a number

-- A number begins in the low bits of an octet, the prefix, below its other bits, the flags. It
-- stands there if it is less than full, the prefix of ones alone; otherwise those ones stand there,
-- and groups with what is beyond follow. Taken are at most five of these, and numbers below 2^32.
abbrev pub IsInteger : ℕ → ℕ → List ℕ → ℕ → Type 0
IsInteger flags full [] n = ⊥
IsInteger flags full (b ∷ []) n = (b ≡ flags + n) × (n < full)
IsInteger flags full (b ∷ c ∷ bs) n =
    (b ≡ flags + full) × (beyond : ℕ) × (n ≡ full + beyond) × AreGroups (c ∷ bs) beyond
    × (length (c ∷ bs) ≤ 5) × (n < 2 ^ 32)

-- ---- reading a number from left to right; given with it is what follows

abbrev pub below_limit : ℕ → List ℕ → Result (ℕ × List ℕ) HpackError
below_limit n rest = if nat_lt n (2 ^ 32) then Ok (n, rest) else Err Integer

-- at most `left` groups
unfoldable pub groups_at : ℕ → List ℕ → Result (ℕ × List ℕ) HpackError
groups_at left [] = Err Integer
groups_at left (b ∷ bs) =
    if nat_lt b 128 then Ok (b, bs)
    else (if nat_le left 1 then Err Integer
    else (groups_at (left - 1) bs >>= λ high. below_limit (128 * high.0 + (b - 128)) high.1))

-- a number with this prefix, which is at most `full`
unfoldable pub integer_at : ℕ → ℕ → List ℕ → Result (ℕ × List ℕ) HpackError
integer_at full prefix bytes =
    if nat_lt prefix full then Ok (prefix, bytes)
    else (if nat_lt full prefix then Err Integer
    else (groups_at 5 bytes >>= λ beyond. below_limit (full + beyond.0) beyond.1))

-- ---- writing a number with as few octets as there can be

unfoldable pub integer_text : ℕ → ℕ → ℕ → List ℕ
integer_text flags full n =
    if nat_lt n full then (flags + n) ∷ [] else (flags + full) ∷ groups (n - full)
