-- What is written for what is read, and the status.
use Rattle.std.specs.Prelude.{◌≡◌, ⊤, ℕ, List, [], take, Option, Result, Ok, Err}
use Rattle.std.specs.Io.KnownBytes.{Appends, Keeps}
use Rattle.tool_programs.specs.declared.status.Status.{Status}
use Rattle.tool_programs.specs.declared.status.Status.TheVariants.{Done, Failed, BadLine, TooFew, OutOfMemory}
use Rattle.tool_programs.specs.Session.{text_of_lines}

-- the first of the lines
abbrev pub front_of : ℕ → Result (List (List ℕ)) ℕ → List (List ℕ)
front_of count (Ok lines) = take count lines
front_of count (Err number) = []

-- what a status says of the lines that a script prints, and of the output before and after: all of
-- them were written; or the script has a bad line, and nothing was written; or, for want of memory,
-- the first of them were
abbrev pub IsOutcome : Result (List (List ℕ)) ℕ → Status → Option (List ℕ) → Option (List ℕ) →
    Type 0
IsOutcome printed Done before after =
    (lines : List (List ℕ)) × (printed ≡ Ok lines) × Appends before after (text_of_lines lines)
IsOutcome printed (BadLine number) before after = (printed ≡ Err number) × Keeps before after
IsOutcome printed OutOfMemory before after =
    (count : ℕ) × Appends before after (text_of_lines (front_of count printed))
IsOutcome printed Failed before after = ⊤
IsOutcome printed (TooFew count) before after = ⊥
