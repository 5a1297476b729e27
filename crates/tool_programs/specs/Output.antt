-- What a program's output holds.
use Rattle.std.specs.Prelude.{◌≡◌, ◌⊎◌, ℕ, List, ◌++◌, Some, Result, Ok, Err}
use Rattle.std.specs.Option.{option_or}
use Rattle.tool_programs.specs.declared.status.Fault.{Fault}
use Rattle.tool_programs.specs.declared.status.Fault.TheVariants.{OutOfMemory}
use Rattle.tool_programs.specs.declared.output.Output.{Output}

-- the first failure stays
abbrev pub with_fault : Fault → Output → Output
with_fault fault output = record output { fault = option_or output.fault (Some fault) }

-- behind an answer whose only failure is that memory was refused
abbrev pub after_answer : {A E : Type 0} → Result A E → Output → Output
after_answer (Ok value) output = output
after_answer (Err refused) output = with_fault OutOfMemory output

-- the bytes stand behind the text, or memory was refused for them
abbrev pub HasPrinted : List ℕ → Output → Output → Type 0
HasPrinted bytes old new =
    ((new.text.items ≡ old.text.items ++ bytes) × (new.fault ≡ old.fault))
    ⊎ ((new.text.items ≡ old.text.items) × (new.fault ≡ option_or old.fault (Some OutOfMemory)))
