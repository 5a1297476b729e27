-- A whole run of a task, from its start to its exit, call after call.
use Rattle.std.specs.Prelude.{◌≡◌, ℕ, List, [], ◌∷◌, ◌++◌, map, string_bytes, Option, Some}
use Rattle.run_calls.specs.declared.outcome.Exited.{Exited}
use Rattle.run_calls.specs.declared.task.Task.{Task}
use Rattle.runner.specs.declared.stage.Stage.{Stage}
use Rattle.runner.specs.declared.stage.Step.{Step}
use Rattle.runner.specs.declared.stage.Step.TheVariants as steps
use Rattle.run_calls.specs.Values.{PlaceValue, command_shown}
use Rattle.run_calls.specs.Calls.{look_asked, start_asked, FolderCall, ProgramCall, RunCall, folder_calls, program_calls, Adds}
use Rattle.runner.specs.Made.{root_item, directory_item, parents_item, nodes_made, made}
use Rattle.runner.specs.Gathered.{items_answered, output_items}
use Rattle.runner.specs.Told.{items_told, starts, forgets, failures}
use Rattle.runner.specs.Listed.{no_walk, Meets}
use Rattle.runner.specs.Steps.{Goes, exited_told, looks}

-- a call of `ask` leads a run from a stage on by these calls of folders and of programs
abbrev pub GoesBy : (ℕ → List ℕ) → PlaceValue → Stage → Step → List RunCall → Type 0
GoesBy text place from to calls =
    Goes text place from to (Some []) (Some (folder_calls calls)) (Some [])
    (Some (program_calls calls))

-- .. whatever was asked before, for this run or for others
pub record IsPart (text : ℕ → List ℕ) (place : PlaceValue) (from : Stage) (to : Step)
    (f_before f_now : Option (List FolderCall))
    (p_before p_now : Option (List ProgramCall)) : Type 0 where
  pub calls : List RunCall
  pub goes_by : GoesBy text place from to calls
  pub folder_asked : Adds f_before f_now (folder_calls calls)
  pub programs_asked : Adds p_before p_now (program_calls calls)

-- calls of `ask`, each with what it asked for, lead it from a stage to its exit; with one look-up
-- of texts
abbrev pub ExitsBy : (ℕ → List ℕ) → PlaceValue → Stage → List (List RunCall) → Exited → Type 0
ExitsBy text place from [] e = ⊥
ExitsBy text place from (calls ∷ []) e = GoesBy text place from (steps.Exits e) calls
ExitsBy text place from (calls ∷ more ∷ parts) e =
    (next : Stage) × (cost : ℕ) × GoesBy text place from (steps.Goes next cost) calls
    × ExitsBy text place next (more ∷ parts) e

abbrev pub all_calls : List (List RunCall) → List RunCall
all_calls [] = []
all_calls (calls ∷ parts) = calls ++ all_calls parts

-- its folder is made, its task's tree, each node once, in walk order, and what is needed besides;
-- its command is started once; each output is looked at, and of one that is a directory all is met;
-- what it exits with is what was answered; its program is not let go of before; and nothing that
-- was asked of programs failed, but to end one
pub record IsWhole (text : ℕ → List ℕ) (place : PlaceValue) (task : Task) (e : Exited)
    (calls : List RunCall) : Type 0 where
  pub makes : made (folder_calls calls)
      ≡ root_item place.run ∷ (nodes_made text place.run [] task.nodes.items
      ++ directory_item place ∷ map (λ o. parents_item place (string_bytes o)) task.outputs.items)
  pub starts_once : starts (program_calls calls)
      ≡ start_asked place (command_shown task.command) ∷ []
  pub looks_at : looks (folder_calls calls)
      ≡ map (look_asked place) (map string_bytes task.outputs.items)
  pub meets : Meets no_walk (folder_calls calls) no_walk
  pub gathers : items_answered (folder_calls calls) ≡ output_items place e.outputs.items
  pub is_told : items_told (program_calls calls) ≡ exited_told place e
  pub keeps : forgets (program_calls calls) ≡ []
  pub succeeds : failures (program_calls calls) ≡ []
