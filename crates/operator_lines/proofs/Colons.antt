-- Colons of a text that is cut at the first.
use Rattle.std.proofs.Common.{◌≡◌, ℕ, ◌<◌, ◌==◌, ◌+◌, Bool, true, false, List, [], ◌∷◌, length, suc, refl, ap, sym, ◌∙◌, Option, Some, None, Bor, arith}
use Rattle.std.specs.List.{after_first, before_first, position_or_len}
use Rattle.std.specs.Prelude.{IfNone, IfSome, MatchOption}
use Rattle.operator_lines.specs.Mistakes.{colons}

none_stands : (byte : ℕ) (text : List ℕ) → position_or_len (λ b. b == 58) (byte ∷ text) ≡ length (byte ∷ text) → (colon : Bool) →
    (byte == 58) ≡ colon
    → (position_or_len (λ b. b == 58) text ≡ length text → colons text ≡ 0) → colons (byte ∷ text) ≡ 0
none_stands byte text is true e rest = let here : 0 ≡ length (byte ∷ text) = rw e at is in absurd (omega (arith, here))
none_stands byte text is false e rest =
    let later : 1 + position_or_len (λ b. b == 58) text ≡ length (byte ∷ text) = rw e at is in
    rw e (rest (omega (arith, later)))

-- where none is found there is none
pub none_found : (text : List ℕ) → position_or_len (λ b. b == 58) text ≡ length text → colons text ≡ 0
none_found [] is = refl
none_found (byte ∷ text) is = none_stands byte text is (byte == 58) refl (λ later. none_found text later)

one_stands : (byte : ℕ) (text : List ℕ) → position_or_len (λ b. b == 58) (byte ∷ text) < length (byte ∷ text) → (colon : Bool) →
    (byte == 58) ≡ colon
    → (position_or_len (λ b. b == 58) text < length text → colons text ≡ colons (after_first (λ b. b == 58) text) + 1)
    → colons (byte ∷ text) ≡ colons (after_first (λ b. b == 58) (byte ∷ text)) + 1
one_stands byte text less true e rest = let sum : 1 + colons text ≡ colons text + 1 = omega arith in rw e sum
one_stands byte text less false e rest =
    let later : 1 + position_or_len (λ b. b == 58) text < length (byte ∷ text) = rw e at less in
    let more : (1 + position_or_len (λ b. b == 58) text) + 1 ≡ suc (position_or_len (λ b. b == 58) text + 1) = omega arith in
    rw (e, more) (rest (omega (arith, later)))

-- one stands before what is behind the first
pub one_found : (text : List ℕ) → position_or_len (λ b. b == 58) text < length text →
    colons text ≡ colons (after_first (λ b. b == 58) text) + 1
one_found [] less = absurd (omega (arith, less))
one_found (byte ∷ text) less = one_stands byte text less (byte == 58) refl (λ later. one_found text later)

-- what is cut at the first colon
abbrev pub IsCut : List ℕ → Option (Bor (List ℕ) × Bor (List ℕ)) → Type 0
IsCut text r = MatchOption r (position_or_len (λ b. b == 58) text ≡ length text)
    (λ x. (x.0.now ≡ before_first (λ b. b == 58) text) × (x.1.now ≡ after_first (λ b. b == 58) text)
    × (position_or_len (λ b. b == 58) text < length text))

pub first_is : (text : List ℕ) (r : Option (Bor (List ℕ) × Bor (List ℕ))) → IsCut text r →
    IfSome r (λ parts. colons text ≡ colons parts.1.now + 1)
first_is text None cut = tt
first_is text (Some x) cut = one_found text cut.2 ∙ ap (λ t. colons t + 1) (sym cut.1)

pub none_is : (text : List ℕ) (r : Option (Bor (List ℕ) × Bor (List ℕ))) → IsCut text r → IfNone r (colons text ≡ 0)
none_is text None cut = none_found text cut
none_is text (Some x) cut = tt
