-- A run that has come so far: what was asked for it is a front of what is to be.
use Rattle.std.specs.Prelude.{◌≡◌, ℕ, List, [], ◌∷◌, ◌++◌, map, string_bytes}
use Rattle.run_calls.specs.declared.task.Task.{Task}
use Rattle.run_calls.specs.Values.{PlaceValue, command_shown}
use Rattle.run_calls.specs.Calls.{ProgramQuestion, start_asked, RunCall, folder_calls, program_calls}
use Rattle.runner.specs.Made.{MadeItem, root_item, directory_item, parents_item, nodes_made, made}
use Rattle.runner.specs.Told.{starts}
use Rattle.runner.specs.declared.stage.Stage.{Stage}
use Rattle.runner.specs.declared.stage.Step.TheVariants as steps
use Rattle.runner.specs.Runs.{IsStageOf}
use Rattle.runner.specs.Whole.{GoesBy}

-- all that is made for a task: its folder, its tree, and what is needed besides
abbrev pub all_made : (ℕ → List ℕ) → PlaceValue → Task → List MadeItem
all_made text place task =
    root_item place.run ∷ (nodes_made text place.run [] task.nodes.items
    ++ directory_item place ∷ map (λ o. parents_item place (string_bytes o)) task.outputs.items)

-- what was made is a front of that, and what was started is nothing, or its command, once
pub record IsBegun (text : ℕ → List ℕ) (place : PlaceValue) (task : Task) (calls : List RunCall) :
    Type 0 where
  pub to_make : List MadeItem
  pub to_start : List ProgramQuestion
  pub makes : all_made text place task ≡ made (folder_calls calls) ++ to_make
  pub starts_it : start_asked place (command_shown task.command) ∷ []
      ≡ starts (program_calls calls) ++ to_start

-- by these calls, from its start on, a run of this task has come to a stage. For the code alone
pub record HasReached (text : ℕ → List ℕ) (place : PlaceValue) (task : Task) (stage : Stage)
    (calls : List RunCall) : Type 0 where
  pub from : Stage
  pub of_task : IsStageOf from task
  pub cost : ℕ
  pub by : GoesBy text place from (steps.Goes stage cost) calls
