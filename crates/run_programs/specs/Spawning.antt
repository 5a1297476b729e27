-- What is started for a command that was ordered.
use Rattle.std.specs.Prelude.{◌≡◌, ◌⊎◌, Bool, true, List, [], ◌∷◌, Option, None, Some, Result, Ok, Err, bytes_eq, if◌then◌else◌}
use Rattle.run_calls.specs.Values.{CommandValue, VariableValue}
use Rattle.system.specs.Starting.{Start, StartsBy, StartsNone, StartsOne}
use Rattle.run_programs.specs.declared.launching.Launcher.{Launcher}
use Rattle.run_programs.specs.Launching.{Text, session_words}

-- where it is known then what was started, one of which this holds was started since, or none
abbrev pub StartsAtMost : {C : Type 0} → (C → Type 0) → Option (List C) → Option (List C) → Type 0
StartsAtMost IsSo before after = (after ≡ before) ⊎ StartsOne IsSo before after

-- after a call that went well one was started at most; after one that failed none was
abbrev pub MayStartBy : {C X E : Type 0} → (C → Type 0) → Result X E → Option (List C) →
    Option (List C) → Type 0
MayStartBy IsSo (Ok x) before after = StartsAtMost IsSo before after
MayStartBy IsSo (Err e) before after = StartsNone before after

-- what a name is set to by variables, where something was said of it before: of several of one
-- name the last counts
abbrev pub set_by : List VariableValue → Text → Option (Option Text) → Option (Option Text)
set_by [] name before = before
set_by (v ∷ vs) name before =
    set_by vs name (if bytes_eq v.name name then Some (Some v.value) else before)

-- a program is started as it is, in a directory: the words that were ordered, with the variables
-- that were ordered and no others
abbrev pub StartsItself : Bool → Text → CommandValue → Start → Type 0
StartsItself has_sessions directory ordered start =
    (start.words ≡ session_words has_sessions ordered.arguments)
    × (start.clears_env ≡ true)
    × ((name : Text) → start.variable name ≡ set_by ordered.variables name None)
    × (start.directory ≡ Some directory)

-- what is started for a command that was ordered: where there is a launcher that, and told all;
-- else the command alone, at once or once it is found
abbrev pub StartsOrdered : {C X E : Type 0} → Option Launcher → (Launcher → C → Type 0) →
    (C → Type 0) → Result X E → Option (List C) → Option (List C) → Type 0
StartsOrdered (Some launcher) IsTold IsItself result before after =
    StartsBy (IsTold launcher) result before after
StartsOrdered None IsTold IsItself result before after = MayStartBy IsItself result before after
