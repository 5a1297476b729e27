-- Lines and words: the parts of a text between its newlines, and of a line between its spaces.
use Rattle.std.specs.Prelude.{ℕ, ◌==◌, List, [], Option, Some, None}
use Rattle.std.specs.Borrow.{Bor}
use Rattle.std.specs.List.{join_with_byte, slice_split}

-- the parts of a text between the bytes equal to the separator; one part more than there are
-- separators
abbrev pub parts_of : ℕ → List ℕ → List (List ℕ)
parts_of separator text = slice_split (λ byte. byte == separator) text

-- the lines of a text: what stands between its newlines (byte 10)
abbrev pub lines_of : List ℕ → List (List ℕ)
lines_of text = parts_of 10 text

-- the words of a line: what stands between its spaces (byte 32)
abbrev pub words_of : List ℕ → List (List ℕ)
words_of line = parts_of 32 line

-- a line of these words, with one space between each two
abbrev pub spaced_line : List (List ℕ) → List ℕ
spaced_line words = join_with_byte 32 words

-- the parts of what is left of a text, and none once its last part was given
abbrev pub parts_left : ℕ → Option (Bor (List ℕ)) → List (List ℕ)
parts_left separator None = []
parts_left separator (Some rest) = parts_of separator rest.now
