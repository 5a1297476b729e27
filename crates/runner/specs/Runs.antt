-- The runs of a runner, and what its calls make of them.
use Rattle.std.specs.Prelude.{◌≡◌, ◌==◌, ◌&&◌, ◌⊎◌, ⊤, ℕ, Bool, true, false, List, [], ◌∷◌, ◌++◌, take, drop, Option, Some, None, option_map, slice_get, Result, Ok, Err}
use Rattle.std.specs.Option.{option_map_or}
use Rattle.std.specs.List.{list_any}
use Rattle.run_calls.specs.declared.task.RunKey.{RunKey}
use Rattle.run_calls.specs.declared.task.Task.{Task}
use Rattle.run_calls.specs.declared.folder.Place.{Place}
use Rattle.runner.specs.declared.fault.RunFault.{RunFault}
use Rattle.runner.specs.declared.fault.RunFault.TheVariants.{Left}
use Rattle.run_calls.specs.declared.outcome.Outcome.{Outcome}
use Rattle.run_calls.specs.declared.outcome.Outcome.TheVariants as outcomes
use Rattle.runner.specs.declared.stage.Making.{Making}
use Rattle.runner.specs.declared.stage.Making.TheVariants as makings
use Rattle.runner.specs.declared.stage.Stage.{Stage}
use Rattle.runner.specs.declared.stage.Stage.TheVariants as stages
use Rattle.runner.specs.declared.stage.Step.TheVariants as steps
use Rattle.runner.specs.declared.stage.Ending.{Ending}
use Rattle.runner.specs.declared.stage.Ending.TheVariants.{Killing, Removing}
use Rattle.runner.specs.declared.stage.State.{State}
use Rattle.runner.specs.declared.stage.State.TheVariants.{Live, Over}
use Rattle.runner.specs.declared.stage.Run.{Run}
use Rattle.runner.specs.declared.stage.Stopped.{Stopped}
use Rattle.run_calls.specs.Values.{place_shown}
use Rattle.std.specs.declared.io.ErrorKind.{ErrorKind}
use Rattle.run_calls.specs.Calls.{FolderCall, FolderAnswer, removal_asked, gone, call, ProgramCall, ProgramAnswer, program_done, killed, kill_asked, forget_asked, called, Adds}
use Rattle.runner.specs.Steps.{Goes}
use Rattle.runner.specs.Stops.{Stops}

abbrev pub run_of : Place → State → Run
run_of place state = record { place = place; state = state }

abbrev pub is_run_of : RunKey → Run → Bool
is_run_of key run = run.place.run.instance == key.instance && run.place.run.job == key.job

-- no run has this key
abbrev pub HasNone : RunKey → List Run → Type 0
HasNone key runs = list_any (is_run_of key) runs ≡ false

-- the first run of a key stands there
pub record IsAt (key : RunKey) (runs : List Run) (at : ℕ) : Type 0 where
  pub run : Run
  pub rest : List Run
  pub there : drop at runs ≡ run ∷ rest
  pub same_key : run.place.run ≡ key

-- a run of a task of which nothing is done yet
abbrev pub IsRootOf : Making → Task → Type 0
IsRootOf (makings.Root n) t =
    (n.above.items ≡ []) × (n.left ≡ t.nodes) × (n.next.command ≡ t.command)
    × (n.next.outputs ≡ t.outputs)
IsRootOf m t = ⊥

abbrev pub IsStageOf : Stage → Task → Type 0
IsStageOf (stages.Making m) t = IsRootOf m t
IsStageOf s t = ⊥

abbrev pub IsStateOf : State → Task → Type 0
IsStateOf (Live s) t = IsStageOf s t
IsStateOf (Over e) t = ⊥

abbrev pub IsStarted : RunKey → Task → Run → Type 0
IsStarted key t run =
    (run.place ≡ record { run = key; directory = t.working_directory; function = t.function })
    × IsStateOf run.state t

-- whether it can go on at once: it waits neither for its folder to be made or removed, nor for its
-- program to end or to be killed
abbrev pub can_go_on : State → Bool
can_go_on (Live (stages.Making (makings.Root n))) = false
can_go_on (Live (stages.Running outputs)) = false
can_go_on (Live (stages.Stopping e)) = false
can_go_on (Live s) = true
can_go_on (Over e) = false

-- whether its program runs
abbrev pub runs_program : State → Bool
runs_program (Live (stages.Running outputs)) = true
runs_program (Live s) = false
runs_program (Over e) = false

-- whether the program of the run of this number runs
abbrev pub runs_at : List Run → ℕ → Bool
runs_at runs at = option_map_or (λ (run : Run). runs_program run.state) (slice_get runs at) false

-- ---- of runs that are over

-- what is to be done for a run that is to be over: before its root is made nothing is there to
-- remove, nor was its program started
abbrev pub ending_at : Stage → Option Ending
ending_at (stages.Making (makings.Root n)) = None
ending_at s = Some Killing

abbrev pub ending_of : State → Option Ending
ending_of (Live s) = ending_at s
ending_of (Over e) = Some e

-- what is left once a program was to be ended: the answer says whether it is
abbrev pub left_of_kill : Result ProgramAnswer ErrorKind → Ending
left_of_kill (Ok (killed true)) = Removing
left_of_kill a = Killing

-- what is left once a folder was to be removed, which is tried until nothing is left, or it fails:
-- then the folder is left, and that is told
abbrev pub left_of_removal : Result FolderAnswer ErrorKind → Result (Option Ending) RunFault
left_of_removal (Ok (gone false)) = Ok (Some Removing)
left_of_removal (Ok a) = Ok None
left_of_removal (Err e) = Err Left

-- what is let go of where a program is ended
abbrev pub forgotten : RunKey → Ending → List ProgramCall
forgotten key Removing = called (forget_asked key) (Ok program_done)
forgotten key Killing = []

-- a program was to be ended, and is let go of once it is
abbrev pub KillsBy : RunKey → Ending → Option (List ProgramCall) → Option (List ProgramCall) →
    Type 0
KillsBy key left before now =
    (a : Result ProgramAnswer ErrorKind) × (left ≡ left_of_kill a)
    × Adds before now (called (kill_asked key) a ++ forgotten key (left_of_kill a))

-- the program was to be ended, or the folder to be removed, or nothing
abbrev pub EndsBy : RunKey → Option Ending → Result (Option Ending) RunFault →
    Option (List FolderCall) → Option (List FolderCall) →
    Option (List ProgramCall) → Option (List ProgramCall) → Type 0
EndsBy key None left f_before f_now p_before p_now =
    (left ≡ Ok None) × (f_now ≡ f_before) × (p_now ≡ p_before)
EndsBy key (Some Killing) left f_before f_now p_before p_now =
    (then : Ending) × (left ≡ Ok (Some then)) × (f_now ≡ f_before) × KillsBy key then p_before p_now
EndsBy key (Some Removing) left f_before f_now p_before p_now =
    (a : Result FolderAnswer ErrorKind) × (left ≡ left_of_removal a)
    × Adds f_before f_now (call (removal_asked key) a)
    × (p_now ≡ p_before)

-- what is still to be done
abbrev pub still_left : Result (Option Ending) RunFault → Option Ending
still_left (Ok left) = left
still_left (Err fault) = None

-- what is told of it, which is no more than that its folder is left
abbrev pub end_told : {A : Type 0} → A → Result (Option Ending) RunFault → Result A RunFault
end_told x (Ok left) = Ok x
end_told x (Err fault) = Err fault

-- a run, where it is not done with
abbrev pub run_kept : Place → Option State → List Run
run_kept place (Some s) = run_of place s ∷ []
run_kept place None = []

abbrev pub first_kept : List Run → Option State → List Run
first_kept [] kept = []
first_kept (run ∷ runs) kept = run_kept run.place kept ++ runs

-- these runs, where the one that stands there is kept in a state, or is done with
abbrev pub kept_at : List Run → ℕ → Option State → List Run
kept_at runs at kept = take at runs ++ first_kept (drop at runs) kept

-- a run that is over, where something is left to do for it
abbrev pub run_left : Place → Option Ending → List Run
run_left place left = run_kept place (option_map Over left)

-- one of these runs, which has this key, is over, and the next of what ends it was asked for
pub record Ends (key : RunKey) (state : State) (old new : List Run)
    (f_before f_now : Option (List FolderCall))
    (p_before p_now : Option (List ProgramCall)) : Type 0 where
  pub earlier : List Run
  pub later : List Run
  pub place : Place
  pub left : Result (Option Ending) RunFault
  pub there : old ≡ earlier ++ run_of place state ∷ later
  pub then : new ≡ earlier ++ (run_left place (still_left left) ++ later)
  pub same_key : place.run ≡ key
  pub by : EndsBy key (ending_of state) left f_before f_now p_before p_now

-- no run has this key, nothing was asked, and the runs are as they were
abbrev pub Stands : RunKey → List Run → List Run → Option (List FolderCall) →
    Option (List FolderCall) → Option (List ProgramCall) → Option (List ProgramCall) → Type 0
Stands key old new f_before f_now p_before p_now =
    HasNone key old × (new ≡ old) × (f_now ≡ f_before) × (p_now ≡ p_before)

abbrev pub IsKilled : RunKey → Result ⊤ RunFault → List Run → List Run →
    Option (List FolderCall) → Option (List FolderCall) →
    Option (List ProgramCall) → Option (List ProgramCall) → Type 0
IsKilled key told old new f_before f_now p_before p_now =
    (Stands key old new f_before f_now p_before p_now × (told ≡ Ok tt))
    ⊎ ((state : State) × (ends : Ends key state old new f_before f_now p_before p_now)
    × (told ≡ end_told tt ends.left))

-- one of these runs, which has this key, is over
pub record IsOver (key : RunKey) (runs : List Run) : Type 0 where
  pub earlier : List Run
  pub later : List Run
  pub place : Place
  pub ending : Ending
  pub there : runs ≡ earlier ++ run_of place (Over ending) ∷ later
  pub same_key : place.run ≡ key

-- ---- of runs that are not

abbrev pub fault_of : {A : Type 0} → Result A Stopped → Result A RunFault
fault_of (Ok x) = Ok x
fault_of (Err stopped) = Err stopped.fault

-- it came to a stage, and stopped there
abbrev pub FailsBy : (ℕ → List ℕ) → Place → Stage → Stopped → Option (List FolderCall) →
    Option (List FolderCall) → Option (List ProgramCall) → Option (List ProgramCall) → Type 0
FailsBy text place stage stopped f_before f_now p_before p_now =
    (reached : Stage) × (cost : ℕ) × (f_mid : Option (List FolderCall))
    × (p_mid : Option (List ProgramCall))
    × (stopped.ending ≡ ending_at reached)
    × Goes text (place_shown place) stage (steps.Goes reached cost) f_before f_mid p_before p_mid
    × Stops text (place_shown place) reached stopped.fault f_mid f_now p_mid p_now

-- what becomes of a run that is not over: it goes on, or it is over with an outcome, or with a
-- fault
abbrev pub Becomes : (ℕ → List ℕ) → Place → Stage → Result (Option Outcome) RunFault →
    Option State → Option (List FolderCall) → Option (List FolderCall) → Option (List ProgramCall) →
    Option (List ProgramCall) → Type 0
Becomes text place stage (Ok None) kept f_before f_now p_before p_now =
    (next : Stage) × (cost : ℕ) × (kept ≡ Some (Live next))
    × Goes text (place_shown place) stage (steps.Goes next cost) f_before f_now p_before p_now
Becomes text place stage (Ok (Some outcomes.Failed)) kept f_before f_now p_before p_now = ⊥
Becomes text place stage (Ok (Some (outcomes.Exited e))) kept f_before f_now p_before p_now =
    (p_mid : Option (List ProgramCall)) × (kept ≡ Some (Over Removing))
    × Goes text (place_shown place) stage (steps.Exits e) f_before f_now p_before p_mid
    × Adds p_mid p_now (called (forget_asked place.run) (Ok program_done))
Becomes text place stage (Err fault) kept f_before f_now p_before p_now =
    (left : Option Ending) × (kept ≡ option_map Over left)
    × FailsBy text place stage record { fault = fault; ending = left } f_before f_now p_before p_now

-- one of these runs, which has this key, was not over; the others stay
pub record GoesOn (text : ℕ → List ℕ) (key : RunKey) (result : Result (Option Outcome) RunFault)
    (old new : List Run) (f_before f_now : Option (List FolderCall))
    (p_before p_now : Option (List ProgramCall)) : Type 0 where
  pub earlier : List Run
  pub later : List Run
  pub place : Place
  pub stage : Stage
  pub kept : Option State
  pub there : old ≡ earlier ++ run_of place (Live stage) ∷ later
  pub then : new ≡ earlier ++ (run_kept place kept ++ later)
  pub same_key : place.run ≡ key
  pub becomes : Becomes text place stage result kept f_before f_now p_before p_now

-- A run that is over gives no outcome, and no fault but that its folder is left.
abbrev pub IsAsked : (ℕ → List ℕ) → RunKey → Result (Option Outcome) RunFault → List Run →
    List Run → Option (List FolderCall) → Option (List FolderCall) → Option (List ProgramCall) →
    Option (List ProgramCall) → Type 0
IsAsked text key result old new f_before f_now p_before p_now =
    (Stands key old new f_before f_now p_before p_now × (result ≡ Ok None))
    ⊎ (((e : Ending) × (ends : Ends key (Over e) old new f_before f_now p_before p_now)
    × (result ≡ end_told None ends.left))
    ⊎ GoesOn text key result old new f_before f_now p_before p_now)
