-- Segments taken off the front of a text, one after another.
use Rattle.std.proofs.Common.{◌≡◌, ℕ, ◌<◌, ◌==◌, Bool, List, [], ◌∷◌, length, arith}
use Rattle.std.proofs.lemmas.List.Splits.{slice_split_first, slice_split_none}
use Rattle.std.proofs.lemmas.List.Sums.{fails_before_first}
use Rattle.std.specs.List.{position_or_len, before_first, after_first}
use Rattle.run_folders.specs.Segments.{segments_of}

abbrev pub is_slash : ℕ → Bool
is_slash byte = byte == 47

pub segments_of-cut : (text segment rest : List ℕ) → position_or_len is_slash text < length text
    → segment ≡ before_first is_slash text → rest ≡ after_first is_slash text → segments_of text ≡ segment ∷ segments_of rest
segments_of-cut text segment rest within here later = rw (here, later) (slice_split_first is_slash text 0 within)

pub segments_of-last : (text : List ℕ) → position_or_len is_slash text ≡ length text → segments_of text ≡ text ∷ []
segments_of-last text none = slice_split_none is_slash text (λ k d lt. fails_before_first is_slash text k d (omega arith))
