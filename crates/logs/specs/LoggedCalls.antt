-- What logs of folders and of programs say.
use Rattle.std.specs.Prelude.{List, map, string_bytes, Option, Result, Ok, Err}
use Rattle.std.specs.Rc.{rc_str_bytes}
use Rattle.std.specs.Option.{option_map}
use Rattle.std.specs.Global.{Vec}
use Rattle.std.specs.declared.io.ErrorKind.{ErrorKind}
use Rattle.logs.specs.declared.logged_folder.FolderAsked.{FolderAsked}
use Rattle.logs.specs.declared.logged_folder.FolderAsked.TheVariants as asked
use Rattle.logs.specs.declared.logged_folder.FolderAnswered.{FolderAnswered}
use Rattle.logs.specs.declared.logged_folder.FolderAnswered.TheVariants as answered
use Rattle.logs.specs.declared.logged_folder.FolderRecord.{FolderRecord}
use Rattle.logs.specs.declared.logged_programs.ProgramAsked.{ProgramAsked}
use Rattle.logs.specs.declared.logged_programs.ProgramAsked.TheVariants as program_asked
use Rattle.logs.specs.declared.logged_programs.ProgramAnswered.{ProgramAnswered}
use Rattle.logs.specs.declared.logged_programs.ProgramAnswered.TheVariants as program_answered
use Rattle.logs.specs.declared.logged_programs.ProgramRecord.{ProgramRecord}
use Rattle.run_calls.specs.Calls.{FolderCall, FolderQuestion, FolderAnswer, root_asked, node_asked, text_asked, directory_asked, parents_asked, look_asked, file_asked, list_asked, bytes_asked, removal_asked, done, found, facts, entries, file_bytes, gone, ProgramCall, ProgramQuestion, ProgramAnswer, start_asked, end_asked, kill_asked, length_asked, read_asked, forget_asked, program_done, state_shown, killed, written, bytes}
use Rattle.run_calls.specs.Values.{place_shown, entry_shown, command_shown, task_kind_shown}

-- ---- of folders

abbrev pub folder_question : FolderAsked → FolderQuestion
folder_question (asked.Root run) = root_asked run
folder_question (asked.Node run names kind) =
    node_asked run (map rc_str_bytes names.items) (task_kind_shown kind)
folder_question (asked.Text run names text) =
    text_asked run (map rc_str_bytes names.items) text.items
folder_question (asked.Directory place) = directory_asked (place_shown place)
folder_question (asked.Parents place path) = parents_asked (place_shown place) (string_bytes path)
folder_question (asked.Look place path) = look_asked (place_shown place) (string_bytes path)
folder_question (asked.File place path names) =
    file_asked (place_shown place) (string_bytes path) (map string_bytes names.items)
folder_question (asked.List place path names most) =
    list_asked (place_shown place) (string_bytes path) (map string_bytes names.items) most
folder_question (asked.Bytes place path names from most) =
    bytes_asked (place_shown place) (string_bytes path) (map string_bytes names.items) from most
folder_question (asked.Removal run) = removal_asked run

abbrev pub folder_answer : FolderAnswered → FolderAnswer
folder_answer answered.Done = done
folder_answer (answered.Found what) = found what
folder_answer (answered.Facts what) = facts what
folder_answer (answered.Entries list) = entries (map entry_shown list.items)
folder_answer (answered.Bytes text) = file_bytes text.items
folder_answer (answered.Gone is_gone) = gone is_gone

-- or the kind of the error with which a call failed
abbrev pub folder_result : Result FolderAnswered ErrorKind → Result FolderAnswer ErrorKind
folder_result (Ok answer) = Ok (folder_answer answer)
folder_result (Err kind) = Err kind

abbrev pub folder_call_of : FolderRecord → FolderCall
folder_call_of r =
    record { question = folder_question r.asked; answer = folder_result r.answered }

-- all that was asked, where the log is there
abbrev pub folder_log : Option (Vec FolderRecord) → Option (List FolderCall)
folder_log log = option_map (λ records. map folder_call_of records.items) log

-- ---- of programs

abbrev pub program_question : ProgramAsked → ProgramQuestion
program_question (program_asked.Start place command) =
    start_asked (place_shown place) (command_shown command)
program_question (program_asked.End run) = end_asked run
program_question (program_asked.Kill run) = kill_asked run
program_question (program_asked.Length run) = length_asked run
program_question (program_asked.Read run stream from most) = read_asked run stream from most
program_question (program_asked.Forget run) = forget_asked run

abbrev pub program_answer : ProgramAnswered → ProgramAnswer
program_answer program_answered.Done = program_done
program_answer (program_answered.State code) = state_shown code
program_answer (program_answered.Killed is_killed) = killed is_killed
program_answer (program_answered.Length count) = written count
program_answer (program_answered.Bytes text) = bytes text.items

abbrev pub program_result : Result ProgramAnswered ErrorKind → Result ProgramAnswer ErrorKind
program_result (Ok answer) = Ok (program_answer answer)
program_result (Err kind) = Err kind

abbrev pub program_call_of : ProgramRecord → ProgramCall
program_call_of r =
    record { question = program_question r.asked; answer = program_result r.answered }

abbrev pub program_log : Option (Vec ProgramRecord) → Option (List ProgramCall)
program_log log = option_map (λ records. map program_call_of records.items) log
