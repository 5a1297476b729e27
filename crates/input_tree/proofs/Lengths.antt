-- How long a text is that was found.
use Rattle.std.proofs.Common.{◌≡◌, ℕ, ◌+◌, ◌-◌, ◌<◌, ◌≤◌, List, [], ◌∷◌, drop, take, arith, Option, Some, length, unwrap_or, ap}
use Rattle.std.specs.Prelude.{slice_index_or}
use Rattle.std.proofs.Math.Seq.{take-length}
use Rattle.digest.specs.declared.Digest.{Digest}
use Rattle.input_tree.specs.Listing.{Lookup}
use Rattle.input_tree.specs.Pages.{text_or_none}
use Rattle.input_tree.specs.Work.{texts_length}

pub length_found : (look : Lookup) (d : Digest) (text : List ℕ) → Some text ≡ look d → length text ≡ length (text_or_none look d)
length_found look d text h = ap (λ (o : Option (List ℕ)). length (unwrap_or o [])) h

-- the first of a list that was read, and those behind it
pub texts_next : (look : Lookup) (left : List Digest) (first default : Digest) (new old : ℕ) → 0 < length left →
    first ≡ slice_index_or left 0 default → new ≤ old + length (text_or_none look first) →
    new + texts_length look (take (length left - 1) (drop 1 left)) ≤ old + texts_length look left
texts_next look [] first default new old some is read = absurd (omega arith)
texts_next look (d ∷ ds) first default new old some is read =
    let count : length (d ∷ ds) - 1 ≡ length ds = omega arith in
    let one : length (text_or_none look first) ≡ length (text_or_none look d) = ap (λ (e : Digest). length (text_or_none look e)) is in
    rw (count, take-length) (omega (arith, read, one))
