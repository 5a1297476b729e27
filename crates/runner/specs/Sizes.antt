-- How many bytes a run holds, how many more an answer tells of, and the most that are taken.
use Rattle.std.specs.Prelude.{◌≡◌, ◌≤◌, ◌<◌, ◌+◌, ℕ, List, [], ◌∷◌, length, Some, Result, Ok}
use Rattle.run_calls.specs.declared.folder.Found.TheVariants as founds
use Rattle.run_calls.specs.declared.outcome.Exited.{Exited}
use Rattle.run_calls.specs.declared.outcome.Output.{Output}
use Rattle.run_calls.specs.declared.outcome.OutputKind.{OutputKind}
use Rattle.run_calls.specs.declared.outcome.OutputKind.TheVariants as kinds
use Rattle.run_calls.specs.declared.outcome.OutputNode.{OutputNode}
use Rattle.run_calls.specs.declared.outcome.OutputNodeKind.{OutputNodeKind}
use Rattle.run_calls.specs.declared.outcome.OutputNodeKind.TheVariants as node_kinds
use Rattle.runner.specs.declared.stage.Stage.{Stage}
use Rattle.runner.specs.declared.stage.Stage.TheVariants as stages
use Rattle.runner.specs.declared.stage.Step.{Step}
use Rattle.runner.specs.declared.stage.Step.TheVariants as steps
use Rattle.runner.specs.Listed.{most_nodes, IsTreeStack}
use Rattle.std.specs.declared.io.ErrorKind.{ErrorKind}
use Rattle.run_calls.specs.Calls.{FolderQuestion, FolderAnswer, look_asked, file_asked, bytes_asked, found, facts, file_bytes, ProgramQuestion, ProgramAnswer, length_asked, read_asked, written, bytes, RunCall, of_folder, of_programs}

-- of standard output, standard error and output files together
abbrev pub most_bytes : ℕ
most_bytes = 1073741824

-- ---- what a run holds

abbrev pub node_length : OutputNodeKind → ℕ
node_length (node_kinds.File content is_executable) = length content
node_length node_kinds.Directory = 0

abbrev pub nodes_length : List OutputNode → ℕ
nodes_length [] = 0
nodes_length (n ∷ ns) = node_length n.kind + nodes_length ns

abbrev pub output_length : OutputKind → ℕ
output_length (kinds.File content is_executable) = length content
output_length (kinds.Tree nodes) = nodes_length nodes.items

abbrev pub outputs_length : List Output → ℕ
outputs_length [] = 0
outputs_length (o ∷ os) = output_length o.kind + outputs_length os

-- of its streams and of its files
abbrev pub exited_length : Exited → ℕ
exited_length e =
    length e.streams.value.stdout + (length e.streams.value.stderr + outputs_length e.outputs.items)

abbrev pub held : Stage → ℕ
held (stages.Making m) = 0
held (stages.Running outputs) = 0
held (stages.Stopping e) = 0
held (stages.Measuring e) = 0
held (stages.Output e out) = length out
held (stages.Error e out err) = length out + length err
held (stages.Outputs g) = exited_length g.exited
held (stages.File g f) = exited_length g.exited + length f.content
held (stages.Listing g path) = exited_length g.exited
held (stages.Tree g t) = exited_length g.exited + nodes_length t.nodes.nodes
held (stages.TreeFile g t f) =
    exited_length g.exited + (nodes_length t.nodes.nodes + length f.content)

abbrev pub then_held : Step → ℕ
then_held (steps.Goes s cost) = held s
then_held (steps.Exits e) = exited_length e

-- ---- what answers tell of

-- bytes that were read
abbrev pub part_length : Result FolderAnswer ErrorKind → ℕ
part_length (Ok (file_bytes bs)) = length bs
part_length a = 0

abbrev pub folder_read : FolderQuestion → Result FolderAnswer ErrorKind → ℕ
folder_read (bytes_asked place path names from most) a = part_length a
folder_read q a = 0

-- the size of a file of which nothing is read yet
abbrev pub found_size : Result FolderAnswer ErrorKind → ℕ
found_size (Ok (found (founds.File f))) = f.size
found_size a = 0

abbrev pub facts_size : Result FolderAnswer ErrorKind → ℕ
facts_size (Ok (facts (Some f))) = f.size
facts_size a = 0

abbrev pub folder_told : FolderQuestion → Result FolderAnswer ErrorKind → ℕ
folder_told (look_asked place path) a = found_size a
folder_told (file_asked place path names) a = facts_size a
folder_told q a = folder_read q a

-- the bytes of a stream that were read
abbrev pub stream_length : Result ProgramAnswer ErrorKind → ℕ
stream_length (Ok (bytes bs)) = length bs
stream_length a = 0

abbrev pub program_read : ProgramQuestion → Result ProgramAnswer ErrorKind → ℕ
program_read (read_asked run stream from most) a = stream_length a
program_read q a = 0

-- the size of both streams, of which nothing is read yet
abbrev pub written_size : Result ProgramAnswer ErrorKind → ℕ
written_size (Ok (written n)) = n
written_size a = 0

abbrev pub program_told : ProgramQuestion → Result ProgramAnswer ErrorKind → ℕ
program_told (length_asked run) a = written_size a
program_told q a = program_read q a

abbrev pub told : RunCall → ℕ
told (of_folder c) = folder_told c.question c.answer
told (of_programs c) = program_told c.question c.answer

abbrev pub read : RunCall → ℕ
read (of_folder c) = folder_read c.question c.answer
read (of_programs c) = program_read c.question c.answer

abbrev pub all_read : List RunCall → ℕ
all_read [] = 0
all_read (c ∷ cs) = read c + all_read cs

-- What each answer tells of, with all that is held when it comes, is not too large.
abbrev pub Fits : ℕ → List RunCall → Type 0
Fits n [] = Unit {0}
Fits n (c ∷ cs) = (n + told c ≤ most_bytes) × Fits (n + read c) cs

-- ---- what was taken is counted, and is not too large; directories that are to be listed are
-- stacked

abbrev pub IsTaken : ℕ → ℕ → Type 0
IsTaken taken n = (taken ≡ n) × (n ≤ most_bytes)

abbrev pub IsCounted : Stage → Type 0
IsCounted (stages.Making m) = Unit {0}
IsCounted (stages.Running outputs) = Unit {0}
IsCounted (stages.Stopping e) = Unit {0}
IsCounted (stages.Measuring e) = Unit {0}
IsCounted (stages.Output e out) = held (stages.Output e out) ≤ most_bytes
IsCounted (stages.Error e out err) = held (stages.Error e out err) ≤ most_bytes
IsCounted (stages.Outputs g) = IsTaken g.taken (held (stages.Outputs g))
IsCounted (stages.File g f) = IsTaken g.taken (held (stages.File g f))
IsCounted (stages.Listing g path) = IsTaken g.taken (held (stages.Listing g path))
IsCounted (stages.Tree g t) = IsTaken g.taken (held (stages.Tree g t)) × IsTreeStack t
IsCounted (stages.TreeFile g t f) =
    IsTaken g.taken (held (stages.TreeFile g t f)) × IsTreeStack t
    × (length t.nodes.nodes < most_nodes)

abbrev pub IsCountedThen : Step → Type 0
IsCountedThen (steps.Goes s cost) = IsCounted s
IsCountedThen (steps.Exits e) = exited_length e ≤ most_bytes

-- of a step after which the run goes on
abbrev pub GoesCounted : Step → Type 0
GoesCounted (steps.Goes s cost) = IsCounted s
GoesCounted (steps.Exits e) = ⊥
