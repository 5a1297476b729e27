-- A fault of a run: what was asked last, and whether that told of more than is taken.
use Rattle.std.specs.Prelude.{◌≡◌, ◌≤◌, ◌<◌, ℕ, List, [], ◌∷◌, ◌++◌, length, string_bytes, Option, Result, Ok, Err}
use Rattle.runner.specs.declared.fault.RunFault.{RunFault}
use Rattle.runner.specs.declared.fault.RunFault.TheVariants.{TooLarge, NoMemory}
use Rattle.std.specs.declared.io.ErrorKind.{ErrorKind}
use Rattle.runner.specs.Faults.{folder_fault, programs_fault}
use Rattle.run_calls.specs.declared.programs.Stream.TheVariants as streams
use Rattle.runner.specs.declared.stage.Making.TheVariants as makings
use Rattle.runner.specs.declared.stage.Stage.{Stage}
use Rattle.runner.specs.declared.stage.Stage.TheVariants as stages
use Rattle.run_calls.specs.Values.{PlaceValue, command_shown}
use Rattle.run_calls.specs.Calls.{FolderCall, FolderQuestion, FolderAnswer, bytes_asked, ProgramCall, ProgramQuestion, ProgramAnswer, start_asked, end_asked, length_asked, read_asked, RunCall, of_folder, of_programs, folder_calls, program_calls, Adds}
use Rattle.runner.specs.Made.{MadeItem, made_by}
use Rattle.runner.specs.Own.{AreOwn}
use Rattle.runner.specs.Steps.{making_left, to_look}
use Rattle.runner.specs.Listed.{Walk, walk_at, most_nodes}
use Rattle.runner.specs.Sizes.{held, Fits}

-- ---- what a run at a stage asks next

-- something is made, which is the next of what is left to be made
abbrev pub IsMadeNext : List MadeItem → List MadeItem → Type 0
IsMadeNext left [] = ⊥
IsMadeNext left (i ∷ is) = (rest : List MadeItem) × (left ≡ (i ∷ is) ++ rest)

-- some bytes of a file are asked for, from the place on up to which it was read
abbrev pub IsPieceNext : PlaceValue → List ℕ → List (List ℕ) → List ℕ → FolderQuestion → Type 0
IsPieceNext place path names content q =
    (most : ℕ) × (0 < most) × (q ≡ bytes_asked place path names (length content) most)

-- the next file of an output directory is looked at, or the next directory is listed
abbrev pub IsEntryNext : Walk → FolderQuestion → Type 0
IsEntryNext w q = (w.nodes ≤ most_nodes) × (rest : List FolderQuestion) × (w.left ≡ q ∷ rest)

-- of folders
abbrev pub AsksFolder : Walk → (ℕ → List ℕ) → PlaceValue → Stage → FolderQuestion → Type 0
AsksFolder before text place (stages.Making m) q = IsMadeNext (making_left text place m) (made_by q)
AsksFolder before text place (stages.Outputs g) q =
    (rest : List FolderQuestion) × (to_look place (stages.Outputs g) ≡ q ∷ rest)
AsksFolder before text place (stages.File g f) q =
    IsPieceNext place (string_bytes f.path) [] f.content q
AsksFolder before text place (stages.Listing g path) q = IsEntryNext before q
AsksFolder before text place (stages.Tree g t) q = IsEntryNext before q
AsksFolder before text place (stages.TreeFile g t f) q =
    IsPieceNext place (string_bytes t.path) (t.nodes.above ++ string_bytes f.name ∷ []) f.content q
AsksFolder before text place s q = ⊥

-- of programs; what is asked to end one that has exited is asked again where it fails
abbrev pub AsksPrograms : PlaceValue → Stage → ProgramQuestion → Type 0
AsksPrograms place (stages.Making (makings.Starting p)) q =
    q ≡ start_asked place (command_shown p.command)
AsksPrograms place (stages.Running outputs) q = q ≡ end_asked place.run
AsksPrograms place (stages.Measuring e) q = q ≡ length_asked place.run
AsksPrograms place (stages.Output e out) q =
    (most : ℕ) × (0 < most) × (q ≡ read_asked place.run streams.Output (length out) most)
AsksPrograms place (stages.Error e out err) q =
    (most : ℕ) × (0 < most) × (q ≡ read_asked place.run streams.Error (length err) most)
AsksPrograms place s q = ⊥

-- nothing, or one thing more
abbrev pub AsksNext : Walk → (ℕ → List ℕ) → PlaceValue → Stage → List RunCall → Type 0
AsksNext before text place s [] = Unit {0}
AsksNext before text place s (of_folder c ∷ []) = AsksFolder before text place s c.question
AsksNext before text place s (of_programs c ∷ []) = AsksPrograms place s c.question
AsksNext before text place s (c ∷ d ∷ cs) = ⊥

-- ---- the fault

-- what is said to be too large is
abbrev pub IsTrueOf : RunFault → ℕ → List RunCall → Type 0
IsTrueOf TooLarge n calls = Fits n calls → ⊥
IsTrueOf fault n calls = Unit {0}

-- memory was refused, or more was told of than is taken
abbrev pub IsOwnFault : RunFault → Type 0
IsOwnFault TooLarge = Unit {0}
IsOwnFault NoMemory = Unit {0}
IsOwnFault fault = ⊥

-- where the call failed the fault is that of its error
abbrev pub IsFolderFault : RunFault → Result FolderAnswer ErrorKind → Type 0
IsFolderFault fault (Ok a) = IsOwnFault fault
IsFolderFault fault (Err kind) = fault ≡ folder_fault kind

abbrev pub IsProgramsFault : RunFault → Result ProgramAnswer ErrorKind → Type 0
IsProgramsFault fault (Ok a) = IsOwnFault fault
IsProgramsFault fault (Err kind) = fault ≡ programs_fault kind

abbrev pub IsFaultOf : RunFault → List RunCall → Type 0
IsFaultOf fault [] = IsOwnFault fault
IsFaultOf fault (of_folder c ∷ []) = IsFolderFault fault c.answer
IsFaultOf fault (of_programs c ∷ []) = IsProgramsFault fault c.answer
IsFaultOf fault (c ∷ d ∷ cs) = ⊥

-- A run at this stage has this fault, and asked for one thing more at most, which is its own.
pub record StopsWith (before : Walk) (text : ℕ → List ℕ) (place : PlaceValue) (from : Stage)
    (fault : RunFault) (f_before f_now : Option (List FolderCall))
    (p_before p_now : Option (List ProgramCall)) : Type 0 where
  pub calls : List RunCall
  pub own : AreOwn place.run calls
  pub folder_asked : Adds f_before f_now (folder_calls calls)
  pub programs_asked : Adds p_before p_now (program_calls calls)
  pub asks : AsksNext before text place from calls
  pub is_true : IsTrueOf fault (held from) calls
  pub is_of : IsFaultOf fault calls

abbrev pub Stops : (ℕ → List ℕ) → PlaceValue → Stage → RunFault → Option (List FolderCall) →
    Option (List FolderCall) → Option (List ProgramCall) → Option (List ProgramCall) → Type 0
Stops text place from fault f_before f_now p_before p_now =
    StopsWith (walk_at place from) text place from fault f_before f_now p_before p_now

-- the same of a step that asks folders alone, and for any texts
abbrev pub FolderStops : PlaceValue → Stage → RunFault → Option (List FolderCall) →
    Option (List FolderCall) → Type 0
FolderStops place from fault f_before f_now =
    (text : ℕ → List ℕ) → (p : Option (List ProgramCall)) →
    Stops text place from fault f_before f_now p p

-- of one from a stage at which an output directory was gathered so far
abbrev pub FolderStopsWith : Walk → PlaceValue → Stage → RunFault → Option (List FolderCall) →
    Option (List FolderCall) → Type 0
FolderStopsWith before place from fault f_before f_now =
    (text : ℕ → List ℕ) → (p : Option (List ProgramCall)) →
    StopsWith before text place from fault f_before f_now p p

-- of one that asks programs alone
abbrev pub ProgramStops : PlaceValue → Stage → RunFault → Option (List ProgramCall) →
    Option (List ProgramCall) → Type 0
ProgramStops place from fault p_before p_now =
    (text : ℕ → List ℕ) → (f : Option (List FolderCall)) →
    Stops text place from fault f f p_before p_now
