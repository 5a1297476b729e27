-- For which run something is asked.
use Rattle.std.specs.Prelude.{◌≡◌, List}
use Rattle.std.specs.List.{AllByRecursion}
use Rattle.run_calls.specs.declared.task.RunKey.{RunKey}
use Rattle.run_calls.specs.Calls.{FolderQuestion, root_asked, node_asked, text_asked, directory_asked, parents_asked, look_asked, file_asked, list_asked, bytes_asked, removal_asked, ProgramQuestion, start_asked, end_asked, kill_asked, length_asked, read_asked, forget_asked, RunCall, of_folder, of_programs}

abbrev pub folder_run : FolderQuestion → RunKey
folder_run (root_asked run) = run
folder_run (node_asked run names kind) = run
folder_run (text_asked run names bytes) = run
folder_run (directory_asked place) = place.run
folder_run (parents_asked place path) = place.run
folder_run (look_asked place path) = place.run
folder_run (file_asked place path names) = place.run
folder_run (list_asked place path names most) = place.run
folder_run (bytes_asked place path names from most) = place.run
folder_run (removal_asked run) = run

abbrev pub program_run : ProgramQuestion → RunKey
program_run (start_asked place command) = place.run
program_run (end_asked run) = run
program_run (kill_asked run) = run
program_run (length_asked run) = run
program_run (read_asked run stream from most) = run
program_run (forget_asked run) = run

abbrev pub asked_for : RunCall → RunKey
asked_for (of_folder c) = folder_run c.question
asked_for (of_programs c) = program_run c.question

-- all of it is asked for this run
abbrev pub AreOwn : RunKey → List RunCall → Type 0
AreOwn run calls = AllByRecursion (λ c. asked_for c ≡ run) calls
