-- What the fault of a run says of the calls that failed, and of their counts.
use Rattle.std.specs.Prelude.{◌≡◌, ℕ, ◌⊎◌, Result, Ok, Err}
use Rattle.std.specs.IoError.{error_kind}
use Rattle.std.specs.declared.io.Error.{Error}
use Rattle.std.specs.declared.io.ErrorKind.{ErrorKind}
use Rattle.std.specs.declared.io.ErrorKind.TheVariants.{OutOfMemory, ConnectionAborted}
use Rattle.run_calls.specs.Failures.{Rises}
use Rattle.runner.specs.declared.fault.RunFault.{RunFault}
use Rattle.runner.specs.declared.fault.RunFault.TheVariants.{Folder, Start, Launcher, TooLarge, NoMemory, Left}

-- ---- what a fault of one call says

-- want of memory is told apart, and of programs that what started one was lost
abbrev pub folder_fault : ErrorKind → RunFault
folder_fault OutOfMemory = NoMemory
folder_fault kind = Folder

abbrev pub programs_fault : ErrorKind → RunFault
programs_fault OutOfMemory = NoMemory
programs_fault ConnectionAborted = Launcher
programs_fault kind = Start

abbrev pub FolderAnswered : {A : Type 0} → Result A Error → Result A RunFault → Type 0
FolderAnswered (Ok x) result = result ≡ Ok x
FolderAnswered (Err e) result = result ≡ Err (folder_fault (error_kind e))

abbrev pub ProgramsAnswered : {A : Type 0} → Result A Error → Result A RunFault → Type 0
ProgramsAnswered (Ok x) result = result ≡ Ok x
ProgramsAnswered (Err e) result = result ≡ Err (programs_fault (error_kind e))

-- ---- what a fault says of the count of folders' failures, in parts that ask nothing of programs

abbrev pub FolderFaultCounts : RunFault → ℕ → ℕ → Type 0
FolderFaultCounts Folder old new = Rises old new
FolderFaultCounts Start old new = ⊥
FolderFaultCounts Launcher old new = ⊥
FolderFaultCounts TooLarge old new = Unit {0}
FolderFaultCounts NoMemory old new = Unit {0}
FolderFaultCounts Left old new = ⊥

abbrev pub FolderCounts : {A : Type 0} → Result A RunFault → ℕ → ℕ → Type 0
FolderCounts (Ok x) old new = new ≡ old
FolderCounts (Err f) old new = FolderFaultCounts f old new

abbrev pub ProgramsFaultCounts : RunFault → ℕ → ℕ → Type 0
ProgramsFaultCounts Start old new = Rises old new
ProgramsFaultCounts Launcher old new = Rises old new
ProgramsFaultCounts Folder old new = ⊥
ProgramsFaultCounts TooLarge old new = Unit {0}
ProgramsFaultCounts NoMemory old new = Unit {0}
ProgramsFaultCounts Left old new = ⊥

abbrev pub ProgramsCounts : {A : Type 0} → Result A RunFault → ℕ → ℕ → Type 0
ProgramsCounts (Ok x) old new = new ≡ old
ProgramsCounts (Err f) old new = ProgramsFaultCounts f old new

-- ---- of a whole call

-- the folders' fault comes only where their count rose, as does that a folder is left, and the
-- programs' two where theirs did
abbrev pub FaultFailed : RunFault → ℕ → ℕ → ℕ → ℕ → Type 0
FaultFailed Folder f_old f_new p_old p_new = Rises f_old f_new
FaultFailed Start f_old f_new p_old p_new = Rises p_old p_new
FaultFailed Launcher f_old f_new p_old p_new = Rises p_old p_new
FaultFailed TooLarge f_old f_new p_old p_new = Unit {0}
FaultFailed NoMemory f_old f_new p_old p_new = Unit {0}
FaultFailed Left f_old f_new p_old p_new = Rises f_old f_new

abbrev pub StaysOrRises : ℕ → ℕ → Type 0
StaysOrRises old new = (new ≡ old) ⊎ Rises old new

-- no call of the folders failed where the call succeeded, and none of the programs but to end one
-- that has exited; its fault is of what failed
abbrev pub Counted : {A : Type 0} → Result A RunFault → ℕ → ℕ → ℕ → ℕ → Type 0
Counted (Ok x) f_old f_new p_old p_new = (f_new ≡ f_old) × StaysOrRises p_old p_new
Counted (Err f) f_old f_new p_old p_new = FaultFailed f f_old f_new p_old p_new
