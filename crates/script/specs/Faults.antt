-- Why a text was not read.
use Rattle.std.specs.Prelude.{◌≡◌, ⊤, ℕ, Result, Err}
use Rattle.script.specs.declared.fault.ScriptFault.{ScriptFault}
use Rattle.script.specs.declared.fault.ScriptFault.TheVariants.{BadLine, NoMemory}

-- a fault is the number of the bad line, but for refused memory
abbrev pub IsFaultOf : {S : Type 0} → Result S ℕ → ScriptFault → Type 0
IsFaultOf read (BadLine number) = read ≡ Err number
IsFaultOf read NoMemory = ⊤
