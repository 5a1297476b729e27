-- How a table of programs starts them, and what is still looked for.
use Rattle.std.specs.Prelude.{◌≡◌, ◌⊎◌, ◌==◌, ◌&&◌, Bool, List, [], ◌∷◌, map, Option, None, Some, IsSomeAnd, Result, string_bytes}
use Rattle.run_calls.specs.declared.task.RunKey.{RunKey}
use Rattle.run_calls.specs.Values.{CommandValue, PlaceValue, command_shown}
use Rattle.run_folders.specs.Folders.{root_path, working_path}
use Rattle.system.specs.Starting.{Start}
use Rattle.run_programs.specs.declared.launching.Launcher.{Launcher}
use Rattle.run_programs.specs.declared.programs.Table.{Table}
use Rattle.run_programs.specs.declared.sought.Sought.{Sought}
use Rattle.run_programs.specs.declared.way.Way.{Way}
use Rattle.run_programs.specs.declared.way.Way.TheVariants.{By, AsTheyAre}
use Rattle.run_programs.specs.Launching.{StartsLauncher, Text}
use Rattle.run_programs.specs.Spawning.{MayStartBy, StartsItself, StartsOrdered}

-- a program that is looked for: what is to be started for which run, and where
pub record SoughtValue : Type 0 where
  pub run : RunKey
  pub directory : Text
  pub command : CommandValue

abbrev pub sought_shown : Sought → SoughtValue
sought_shown s = record {
  run = s.run;
  directory = string_bytes s.directory;
  command = command_shown s.ordered;
}

-- what starts programs, where they are not started as they are
abbrev pub launcher_of : Way → Option Launcher
launcher_of (By launcher) = Some launcher
launcher_of (AsTheyAre sought) = None

-- what is still looked for: nothing where a launcher starts programs
abbrev pub sought_of : Way → List SoughtValue
sought_of (By launcher) = []
sought_of (AsTheyAre sought) = map sought_shown sought.items

abbrev pub is_run : RunKey → RunKey → Bool
is_run run other = other.instance == run.instance && other.job == run.job

abbrev pub is_of : RunKey → SoughtValue → Bool
is_of run sought = is_run run sought.run

abbrev pub IsAmong : {X : Type 0} → X → List X → Type 0
IsAmong x [] = ⊥
IsAmong x (y ∷ ys) = (x ≡ y) ⊎ IsAmong x ys

-- all that is looked for now was before
abbrev pub AddsNone : Way → Way → Type 0
AddsNone old new = (v : SoughtValue) → IsAmong v (sought_of new) → IsAmong v (sought_of old)

-- .. or is this
abbrev pub AddsAtMost : SoughtValue → Way → Way → Type 0
AddsAtMost this old new =
    (v : SoughtValue) → IsAmong v (sought_of new) → (v ≡ this) ⊎ IsAmong v (sought_of old)

-- by the same launcher or none, for the same directory, in sessions or not, as before
pub record KeepsWay {H S E A B C D F : Type 0} (old new : Table H S E A B C D F) : Type 0 where
  pub launcher : launcher_of new.way ≡ launcher_of old.way
  pub work : new.work ≡ old.work
  pub sessions : new.has_sessions ≡ old.has_sessions

-- what is looked for where a command was ordered at a place
abbrev pub sought_for : {H S E A B C D F : Type 0} → Table H S E A B C D F → PlaceValue
    → CommandValue → SoughtValue
sought_for table place command = record {
  run = place.run;
  directory = working_path (string_bytes table.work) place;
  command = command;
}

-- what is started for a command that was ordered at a place: where there is a launcher that, told
-- the instance, the folder and the command of that run; else the command itself, in its directory,
-- at once or once it is found
abbrev pub StartsFor : {H S E A B C D F X G : Type 0} → Table H S E A B C D F → PlaceValue
    → CommandValue → Result X G → Option (List Start) → Option (List Start) → Type 0
StartsFor table place command result before after = StartsOrdered (launcher_of table.way)
    (λ launcher. StartsLauncher table.has_sessions launcher place (root_path (string_bytes table.work)
    place.run.instance place.run.job) command)
    (StartsItself table.has_sessions (working_path (string_bytes table.work) place) command)
    result before after

-- of what was looked for, where it was, that is started as it is, or nothing yet
abbrev pub StartsFound : {H S E A B C D F X G : Type 0} → Table H S E A B C D F
    → Option SoughtValue → Result X G → Option (List Start) → Option (List Start) → Type 0
StartsFound table found result before after = MayStartBy (λ start. IsSomeAnd found (λ sought.
    StartsItself table.has_sessions sought.directory sought.command start)) result before after
