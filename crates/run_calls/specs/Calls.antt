-- What is asked of folders and of programs, and what they answer.
use Rattle.std.specs.Prelude.{◌≡◌, ◌⊎◌, ℕ, ℤ, Bool, List, [], ◌∷◌, ◌++◌, map, Option, Some, None, Result, Ok, Err, ⊤}
use Rattle.std.specs.Option.{option_map}
use Rattle.std.specs.Global.{Vec}
use Rattle.std.specs.IoError.{error_kind}
use Rattle.std.specs.declared.io.Error.{Error}
use Rattle.std.specs.declared.io.ErrorKind.{ErrorKind}
use Rattle.run_calls.specs.declared.task.RunKey.{RunKey}
use Rattle.run_calls.specs.declared.folder.Found.{Found}
use Rattle.run_calls.specs.declared.folder.FileFacts.{FileFacts}
use Rattle.run_calls.specs.declared.folder.Entry.{Entry}
use Rattle.run_calls.specs.declared.programs.Stream.{Stream}
use Rattle.run_calls.specs.Values.{PlaceValue, CommandValue, EntryValue, TaskKindValue, entry_shown}

-- ---- of folders

pub data FolderQuestion : Type 0 where
  -- to make the folder of a run
  root_asked : RunKey → FolderQuestion
  -- to make a node in it, which has these names from the root on; a file is empty
  node_asked : RunKey → List (List ℕ) → TaskKindValue → FolderQuestion
  -- to add bytes to a file that was made
  text_asked : RunKey → List (List ℕ) → List ℕ → FolderQuestion
  -- to make the directory in which its program runs
  directory_asked : PlaceValue → FolderQuestion
  -- to make the directories above an output
  parents_asked : PlaceValue → List ℕ → FolderQuestion
  -- what stands at an output's path
  look_asked : PlaceValue → List ℕ → FolderQuestion
  -- what is told of a file, which has these names below an output's path
  file_asked : PlaceValue → List ℕ → List (List ℕ) → FolderQuestion
  -- what is in a directory, at most so much
  list_asked : PlaceValue → List ℕ → List (List ℕ) → ℕ → FolderQuestion
  -- the bytes of a file from a place on, at most so many
  bytes_asked : PlaceValue → List ℕ → List (List ℕ) → ℕ → ℕ → FolderQuestion
  -- to remove some of the folder of a run
  removal_asked : RunKey → FolderQuestion

pub data FolderAnswer : Type 0 where
  done : FolderAnswer
  found : Found → FolderAnswer
  facts : Option FileFacts → FolderAnswer
  entries : List EntryValue → FolderAnswer
  file_bytes : List ℕ → FolderAnswer
  -- whether nothing is left
  gone : Bool → FolderAnswer

-- what was answered, or the kind of the error with which the call failed
pub record FolderCall : Type 0 where
  pub question : FolderQuestion
  pub answer : Result FolderAnswer ErrorKind

abbrev pub call : FolderQuestion → Result FolderAnswer ErrorKind → List FolderCall
call q a = record { question = q; answer = a } ∷ []

abbrev pub done_of : Result ⊤ Error → Result FolderAnswer ErrorKind
done_of (Ok x) = Ok done
done_of (Err e) = Err (error_kind e)

abbrev pub found_of : Result Found Error → Result FolderAnswer ErrorKind
found_of (Ok f) = Ok (found f)
found_of (Err e) = Err (error_kind e)

abbrev pub facts_of : Result (Option FileFacts) Error → Result FolderAnswer ErrorKind
facts_of (Ok f) = Ok (facts f)
facts_of (Err e) = Err (error_kind e)

abbrev pub entries_of : Result (Vec Entry) Error → Result FolderAnswer ErrorKind
entries_of (Ok es) = Ok (entries (map entry_shown es.items))
entries_of (Err e) = Err (error_kind e)

abbrev pub folder_bytes_of : Result (Vec ℕ) Error → Result FolderAnswer ErrorKind
folder_bytes_of (Ok bytes) = Ok (file_bytes bytes.items)
folder_bytes_of (Err e) = Err (error_kind e)

abbrev pub gone_of : Result Bool Error → Result FolderAnswer ErrorKind
gone_of (Ok is_gone) = Ok (gone is_gone)
gone_of (Err e) = Err (error_kind e)

-- ---- of programs

pub data ProgramQuestion : Type 0 where
  start_asked : PlaceValue → CommandValue → ProgramQuestion
  end_asked : RunKey → ProgramQuestion
  kill_asked : RunKey → ProgramQuestion
  -- how much it wrote to both streams
  length_asked : RunKey → ProgramQuestion
  -- what it wrote to a stream from a place on, at most so many bytes
  read_asked : RunKey → Stream → ℕ → ℕ → ProgramQuestion
  forget_asked : RunKey → ProgramQuestion

pub data ProgramAnswer : Type 0 where
  program_done : ProgramAnswer
  running : ProgramAnswer
  -- with a code
  ended : ℤ → ProgramAnswer
  -- whether it and all that it started are ended
  killed : Bool → ProgramAnswer
  written : ℕ → ProgramAnswer
  bytes : List ℕ → ProgramAnswer

pub record ProgramCall : Type 0 where
  pub question : ProgramQuestion
  pub answer : Result ProgramAnswer ErrorKind

abbrev pub called : ProgramQuestion → Result ProgramAnswer ErrorKind → List ProgramCall
called q a = record { question = q; answer = a } ∷ []

abbrev pub started_of : Result ⊤ Error → Result ProgramAnswer ErrorKind
started_of (Ok x) = Ok program_done
started_of (Err e) = Err (error_kind e)

abbrev pub state_shown : Option ℤ → ProgramAnswer
state_shown None = running
state_shown (Some code) = ended code

abbrev pub state_of : Result (Option ℤ) Error → Result ProgramAnswer ErrorKind
state_of (Ok s) = Ok (state_shown s)
state_of (Err e) = Err (error_kind e)

abbrev pub killed_of : Result Bool Error → Result ProgramAnswer ErrorKind
killed_of (Ok is_killed) = Ok (killed is_killed)
killed_of (Err e) = Err (error_kind e)

abbrev pub length_of : Result ℕ Error → Result ProgramAnswer ErrorKind
length_of (Ok n) = Ok (written n)
length_of (Err e) = Err (error_kind e)

abbrev pub bytes_of : Result (Vec ℕ) Error → Result ProgramAnswer ErrorKind
bytes_of (Ok text) = Ok (bytes text.items)
bytes_of (Err e) = Err (error_kind e)

-- ---- in order

-- all that was asked, and then this, where it is known
abbrev pub after : {C : Type 0} → Option (List C) → List C → Option (List C)
after known more = option_map (λ h. h ++ more) known

-- where it is known then what was asked, it was known before, and this was asked next
abbrev pub Adds : {C : Type 0} → Option (List C) → Option (List C) → List C → Type 0
Adds before now more = (now ≡ None) ⊎ (now ≡ after before more)

-- what each gives, in order
abbrev pub collect : {C A : Type 0} → (C → List A) → List C → List A
collect f [] = []
collect f (c ∷ cs) = f c ++ collect f cs

-- ---- of both, in one order

pub data RunCall : Type 0 where
  of_folder : FolderCall → RunCall
  of_programs : ProgramCall → RunCall

abbrev pub folder_call : RunCall → List FolderCall
folder_call (of_folder c) = c ∷ []
folder_call (of_programs c) = []

abbrev pub program_call : RunCall → List ProgramCall
program_call (of_folder c) = []
program_call (of_programs c) = c ∷ []

abbrev pub folder_calls : List RunCall → List FolderCall
folder_calls calls = collect folder_call calls

abbrev pub program_calls : List RunCall → List ProgramCall
program_calls calls = collect program_call calls
