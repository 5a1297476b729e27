-- Which rule the outputs of a run break, and what is told of a run whose outputs break one.
use Rattle.std.specs.Prelude.{◌≡◌, ◌⊎◌, ℕ, List, [], ◌∷◌, length, nat_le, Option, Some, None, is_some, Result, Ok, Err, if◌then◌else◌}
use Rattle.std.specs.List.{list_all}
use Rattle.actions.specs.Commands.{AskedOutput, asked_outputs}
use Rattle.actions.specs.declared.walking.TheConstants.{MOST_NODES}
use Rattle.execution.specs.Job.{TaskValue}
use Rattle.outcomes.specs.Asked.{are_asked, is_asked}
use Rattle.outcomes.specs.Trees.{is_shallow}
use Rattle.run_calls.specs.Outcomes.{ExitedValue, OutputNodeValue, OutputValue, output_file, output_tree}
use Rattle.run_calls.specs.Shown.{exited_shown}
use Rattle.run_calls.specs.declared.outcome.Outcome.{Outcome}
use Rattle.run_calls.specs.declared.outcome.Outcome.TheVariants as outcomes
use Rattle.runner.specs.declared.fault.RunFault.{RunFault}
use Rattle.runner.specs.declared.fault.RunFault.TheVariants.{Folder, NoMemory}
use Rattle.job_runs.specs.declared.output_rules.OutputRule.{OutputRule}
use Rattle.job_runs.specs.declared.output_rules.OutputRule.TheVariants.{Kind, Nodes, Levels}
use Rattle.job_runs.specs.Tasks.{command_for}

-- ---- rules

-- an output directory has no more nodes than an input tree, and no directory of a higher level
abbrev pub broken_by_nodes : List OutputNodeValue → Option OutputRule
broken_by_nodes nodes =
    if nat_le (length nodes) MOST_NODES
    then (if list_all is_shallow nodes then None else Some Levels) else Some Nodes

abbrev pub broken_by : OutputValue → Option OutputRule
broken_by (output_file path text is_executable) = None
broken_by (output_tree path nodes) = broken_by_nodes nodes

abbrev pub first_of : Option OutputRule → Option OutputRule → Option OutputRule
first_of None later = later
first_of (Some rule) later = Some rule

abbrev pub first_broken : List OutputValue → Option OutputRule
first_broken [] = None
first_broken (o ∷ os) = first_of (broken_by o) (first_broken os)

-- what is given is what was asked for, of its kind
abbrev pub broken_of : List AskedOutput → List OutputValue → Option OutputRule
broken_of asked outputs =
    if are_asked asked outputs then first_broken outputs else Some Kind

abbrev pub broken_by_run : TaskValue → ExitedValue → Option OutputRule
broken_by_run task x = broken_of (asked_outputs (command_for task.command)) x.outputs

-- ---- by which output

abbrev pub path_of : OutputValue → List ℕ
path_of (output_file path text is_executable) = path
path_of (output_tree path nodes) = path

-- the path of the first that breaks a rule by itself
abbrev pub first_breaking : List OutputValue → Option (List ℕ)
first_breaking [] = None
first_breaking (o ∷ os) = if is_some (broken_by o) then Some (path_of o) else first_breaking os

-- the path of the first that is not asked for, behind those before it
abbrev pub first_unasked : List AskedOutput → List OutputValue → Option (List ℕ)
first_unasked asked [] = None
first_unasked [] (o ∷ os) = Some (path_of o)
first_unasked (a ∷ asked) (o ∷ os) =
    if is_asked a o then first_unasked asked os else first_unasked asked (o ∷ os)

-- the path of the output by which a rule is broken
abbrev pub breaking_path : List AskedOutput → List OutputValue → OutputRule → Option (List ℕ)
breaking_path asked outputs Kind = first_unasked asked outputs
breaking_path asked outputs Nodes = first_breaking outputs
breaking_path asked outputs Levels = first_breaking outputs

-- ---- what is told

abbrev pub fault_of_rule : Option OutputRule → Option RunFault
fault_of_rule None = None
fault_of_rule (Some rule) = Some Folder

-- what a run gave is a fault where its outputs break a rule, and where memory was refused to see
-- that
abbrev pub IsRefusal : Option TaskValue → Result (Option Outcome) RunFault → Option RunFault →
    Type 0
IsRefusal (Some task) (Ok (Some (outcomes.Exited x))) fault =
    (fault ≡ fault_of_rule (broken_by_run task (exited_shown x))) ⊎ (fault ≡ Some NoMemory)
IsRefusal lent answer fault = fault ≡ None

-- what a run answered is told as it is, or as a fault
abbrev pub IsJudged : Option TaskValue → Result (Option Outcome) RunFault →
    Result (Option Outcome) RunFault → Type 0
IsJudged lent answer told =
    ((told ≡ answer) × IsRefusal lent answer None)
    ⊎ ((fault : RunFault) × (told ≡ Err fault) × IsRefusal lent answer (Some fault))
