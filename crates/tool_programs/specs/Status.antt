-- The number and the line of each status.
use Rattle.std.specs.Prelude.{ℕ, List, [], ◌++◌, Result, Ok, Err, codes}
use Rattle.std.specs.Fmt.{decimal}
use Rattle.script.specs.declared.fault.ScriptFault.{ScriptFault}
use Rattle.script.specs.declared.fault.ScriptFault.TheVariants as script_fault
use Rattle.tool_programs.specs.declared.status.Fault.{Fault}
use Rattle.tool_programs.specs.declared.status.Fault.TheVariants as fault
use Rattle.tool_programs.specs.declared.status.Status.{Status}
use Rattle.tool_programs.specs.declared.status.Status.TheVariants.{Done, Failed, BadLine, TooFew, OutOfMemory}

-- the status of a run, whose error is the status of one that was not done
abbrev pub status_of : Result Unit Status → Status
status_of (Ok done) = Done
status_of (Err status) = status

-- the number with which the program ends
abbrev pub code_of : Status → ℕ
code_of Done = 0
code_of Failed = 1
code_of (BadLine number) = 3
code_of (TooFew count) = 4
code_of OutOfMemory = 5

-- the line on standard error
abbrev pub fault_line : Status → List ℕ
fault_line Done = []
fault_line Failed = codes "remoted: input or output failed\n"
fault_line (BadLine number) = codes "remoted: bad line " ++ decimal number ++ codes "\n"
fault_line (TooFew count) = codes "remoted: " ++ decimal count ++ codes " bytes came\n"
fault_line OutOfMemory = codes "remoted: out of memory\n"

abbrev pub status_of_fault : Fault → Status
status_of_fault fault.InputOrOutput = Failed
status_of_fault fault.OutOfMemory = OutOfMemory

abbrev pub status_of_script_fault : ScriptFault → Status
status_of_script_fault (script_fault.BadLine number) = BadLine number
status_of_script_fault script_fault.NoMemory = OutOfMemory

-- the line on standard error where a file cannot be read
abbrev pub unread_line : List ℕ → List ℕ
unread_line file = codes "remoted: cannot read " ++ file ++ codes "\n"
