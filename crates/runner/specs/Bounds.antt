-- How much a run asks for in one call of `ask`.
use Rattle.std.specs.Prelude.{◌≡◌, ◌≤◌, ◌⊎◌, ℕ, List, length, Option, Result, Ok}
use Rattle.std.specs.List.{AllByRecursion}
use Rattle.std.specs.declared.io.ErrorKind.{ErrorKind}
use Rattle.run_calls.specs.Calls.{FolderCall, FolderQuestion, FolderAnswer, text_asked, list_asked, bytes_asked, call, ProgramCall, ProgramQuestion, ProgramAnswer, read_asked, called, RunCall, of_folder, of_programs, folder_calls, program_calls, Adds}
use Rattle.runner.specs.declared.fault.RunFault.{RunFault}
use Rattle.runner.specs.declared.stage.Step.{Step}
use Rattle.runner.specs.declared.stage.Step.TheVariants as steps
use Rattle.runner.specs.declared.stage.Stopped.{Stopped}
use Rattle.runner.specs.Listed.{most_nodes}

-- calls of folders and of programs together: of eight steps each makes one at most, and the one
-- that exits makes none, in whose place the program is let go of
abbrev pub most_calls : ℕ
most_calls = 8

-- bytes of a file or of a stream
abbrev pub most_in_piece : ℕ
most_in_piece = 65536

-- ---- one call

-- a file is written or read by so many bytes at most, and a directory listed by so many entries
abbrev pub IsFolderPiece : FolderQuestion → Type 0
IsFolderPiece (text_asked run names bytes) = length bytes ≤ most_in_piece
IsFolderPiece (bytes_asked place path names from most) = most ≤ most_in_piece
IsFolderPiece (list_asked place path names most) = most ≤ most_nodes
IsFolderPiece q = Unit {0}

-- a stream is read by so many bytes at most
abbrev pub IsProgramPiece : ProgramQuestion → Type 0
IsProgramPiece (read_asked run stream from most) = most ≤ most_in_piece
IsProgramPiece q = Unit {0}

abbrev pub IsPiece : RunCall → Type 0
IsPiece (of_folder c) = IsFolderPiece c.question
IsPiece (of_programs c) = IsProgramPiece c.question

-- ---- calls

-- What was asked meanwhile, of folders and of programs together, is so many calls at most, and each
-- of them is for a piece.
pub record AddsAtMost (most : ℕ) (f_before f_now : Option (List FolderCall))
    (p_before p_now : Option (List ProgramCall)) : Type 0 where
  pub calls : List RunCall
  pub folder_asked : Adds f_before f_now (folder_calls calls)
  pub programs_asked : Adds p_before p_now (program_calls calls)
  pub few : length calls ≤ most
  pub pieces : AllByRecursion IsPiece calls

-- by a step, which asks for nothing where it exits
abbrev pub most_of_step : Result Step RunFault → ℕ
most_of_step (Ok (steps.Exits e)) = 0
most_of_step r = 1

-- by the steps of one call
abbrev pub most_of_steps : Result Step Stopped → ℕ
most_of_steps (Ok (steps.Exits e)) = 7
most_of_steps r = 8

-- ---- steps that ask folders alone, or programs alone

-- where it exits nothing was asked
abbrev pub ExitsUnasked : Step → Option (List FolderCall) → Option (List FolderCall) → Type 0
ExitsUnasked (steps.Goes s cost) before now = Unit {0}
ExitsUnasked (steps.Exits e) before now = now ≡ before

-- one piece is asked for, or nothing
abbrev pub FolderAsks : Option (List FolderCall) → Option (List FolderCall) → Type 0
FolderAsks before now =
    (now ≡ before) ⊎ ((q : FolderQuestion) × (a : Result FolderAnswer ErrorKind)
    × IsFolderPiece q × Adds before now (call q a))

-- of programs
abbrev pub ProgramAsks : Option (List ProgramCall) → Option (List ProgramCall) → Type 0
ProgramAsks before now =
    (now ≡ before) ⊎ ((q : ProgramQuestion) × (a : Result ProgramAnswer ErrorKind)
    × IsProgramPiece q × Adds before now (called q a))
