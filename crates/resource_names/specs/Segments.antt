-- The segments of a resource name: what stands between its slashes.
use Rattle.std.specs.Prelude.{ℕ, ◌==◌, Bool, List, [], ◌∷◌, ◌++◌, Option, Some, None, if◌then◌else◌}
use Rattle.std.specs.Borrow.{Bor}
use Rattle.std.specs.List.{slice_split, join_with_byte}

-- the parts of a text between its slashes (byte 47); one part more than there are slashes
abbrev pub segments_of : List ℕ → List (List ℕ)
segments_of text = slice_split (λ byte. byte == 47) text

-- the segments of what is left of a text, and none once its last one was taken
abbrev pub segments_left : Option (Bor (List ℕ)) → List (List ℕ)
segments_left None = []
segments_left (Some rest) = segments_of rest.now

-- segments with a slash between each two, and none where there is no segment
abbrev pub joined_segments : List (List ℕ) → Option (List ℕ)
joined_segments [] = None
joined_segments (segment ∷ segments) = Some (join_with_byte 47 (segment ∷ segments))

-- a text around the segment that it is divided at: what stands before the slash before it, where
-- there is one, that segment, and those after it
pub record DivisionValue : Type 0 where
  pub before : Option (List ℕ)
  pub segment : List ℕ
  pub after : List (List ℕ)

-- the first segment that passes a test, where these were passed before it
abbrev pub division_after : List (List ℕ) → (List ℕ → Bool) → List (List ℕ) → Option DivisionValue
division_after passed divides [] = None
division_after passed divides (segment ∷ segments) =
    if divides segment
    then Some (record { before = joined_segments passed; segment = segment; after = segments })
    else division_after (passed ++ segment ∷ []) divides segments

abbrev pub division_of : (List ℕ → Bool) → List (List ℕ) → Option DivisionValue
division_of divides segments = division_after [] divides segments
