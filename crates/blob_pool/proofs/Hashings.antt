-- A text that is hashed part by part.
use Rattle.std.proofs.Common.{◌≡◌, ℕ, ◌+◌, ◌≤◌, List, ◌++◌, length, take, drop, sym, ap, ◌∙◌, append_assoc, arith, length-append}
use Rattle.std.proofs.lemmas.List.{take_at, take-append-drop, length-take}
use Rattle.blob_pool.proofs.Parts.{part_before}

-- a front of a text and the part behind it
pub front_more : (t part : List ℕ) (from count : ℕ) → from ≤ length t → part ≡ take count (drop from t) →
    take from t ++ part ≡ take (from + length part) t
front_more t part from count within cut =
    let front = take from t in
    let rest = drop (from + length part) t in
    let whole : (front ++ part) ++ rest ≡ t = append_assoc front part rest
    ∙ ap (λ (r : List ℕ). front ++ r) (part_before t part from count cut) ∙ take-append-drop from t in
    let size : length (front ++ part) ≡ from + length part = let both = length-append front part in let least = length-take from t in
    omega (arith, both, least, within) in
    sym (ap (take (from + length part)) (sym whole) ∙ take_at (front ++ part) rest (from + length part) size)
