-- The pages of a text: a part of it that is as long as it, and one page more.
use Rattle.std.proofs.Common.{◌≡◌, ℕ, ◌+◌, ◌-◌, ◌%◌, min, List, [], ◌∷◌, ◌++◌, length, take, drop, ap, ◌∙◌, append_assoc, arith}
use Rattle.std.specs.List.{flat_map}
use Rattle.std.proofs.lemmas.List.{append-nil, take_all, length-take}
use Rattle.std.proofs.lemmas.List.Concat.{flat_map-append}
use Rattle.blob_pool.proofs.Parts.{part_before}

cut_whole : (t page : List ℕ) (most count : ℕ) → page ≡ take most t → count ≡ length t → length page ≡ count → page ≡ t
cut_whole t page most count cut is same =
    let short = length-take most t in
    let as_cut : length page ≡ length (take most t) = ap (length {A = ℕ}) cut in
    cut ∙ take_all most t (omega arith)

pub whole_page : (t page : List ℕ) (size most count : ℕ) → page ≡ take (min most (size - 0 % size)) (drop 0 t) → count ≡ length t →
    length page ≡ count → page ≡ t
whole_page t page size most count cut is same = cut_whole t page (min most (size - 0 % size)) count cut is same

-- one page more
pub page_added : {A : Type 0} (bytes : A → List ℕ) (pages : List A) (page : A) (t : List ℕ) (from count : ℕ) →
    bytes page ≡ take count (drop from t)
    → flat_map bytes pages ++ drop from t ≡ t → flat_map bytes (pages ++ page ∷ []) ++ drop (from + length (bytes page)) t ≡ t
page_added bytes pages page t from count cut h =
    let last : flat_map bytes (page ∷ []) ≡ bytes page = append-nil (bytes page) in
    let added = flat_map-append bytes pages (page ∷ []) ∙ ap (λ (b : List ℕ). flat_map bytes pages ++ b) last in
    ap (λ (b : List ℕ). b ++ drop (from + length (bytes page)) t) added
    ∙ append_assoc (flat_map bytes pages) (bytes page) (drop (from + length (bytes page)) t)
    ∙ ap (λ (b : List ℕ). flat_map bytes pages ++ b) (part_before t (bytes page) from count cut) ∙ h
