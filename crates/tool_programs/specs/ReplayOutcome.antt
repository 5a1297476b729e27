-- What is written for what is read, and the status.
use Rattle.std.specs.Prelude.{◌≡◌, ⊤, ℕ, List, Option, Result, Ok, Err}
use Rattle.std.specs.Io.KnownBytes.{Appends, Keeps}
use Rattle.tool_programs.specs.declared.status.Status.{Status}
use Rattle.tool_programs.specs.declared.status.Status.TheVariants.{Done, Failed, BadLine, TooFew, OutOfMemory}

-- What a status says of what a script prints, and of the output before and after: it was written;
-- or the script has a bad line, or memory was refused, and nothing was written.
abbrev pub IsOutcome : Result (List ℕ) ℕ → Status → Option (List ℕ) → Option (List ℕ) → Type 0
IsOutcome printed Done before after =
    (text : List ℕ) × (printed ≡ Ok text) × Appends before after text
IsOutcome printed (BadLine number) before after = (printed ≡ Err number) × Keeps before after
IsOutcome printed OutOfMemory before after = Keeps before after
IsOutcome printed Failed before after = ⊤
IsOutcome printed (TooFew count) before after = ⊥
