-- How a program is started, by itself or by a launcher.
use Rattle.std.specs.Prelude.{◌≡◌, ℕ, Bool, true, false, List, [], ◌∷◌, ◌++◌, None, Some, IsSomeAnd, codes, map, slice_get, string_bytes}
use Rattle.run_calls.specs.Values.{CommandValue, PlaceValue, VariableValue}
use Rattle.system.specs.Starting.{Start}
use Rattle.run_programs.specs.declared.launching.Launcher.{Launcher}

abbrev pub Text : Type 0
Text = List ℕ

-- `NAME=VALUE`
abbrev pub assignment : VariableValue → Text
assignment v = v.name ++ (codes "=" ++ v.value)

-- a working directory as a word: the folder of the run itself is `.`
abbrev pub directory_word : Text → Text
directory_word [] = codes "."
directory_word (c ∷ cs) = c ∷ cs

-- a launcher and what it is told: the instance, the folder of the run, the working directory from
-- there on, each variable, and the command
abbrev pub launcher_words : Text → Text → Text → Text → CommandValue → List Text
launcher_words launcher instance root directory command =
    launcher ∷ instance ∷ root ∷ directory_word directory
    ∷ (map assignment command.variables ++ command.arguments)

-- a program and its arguments, started in a session of its own where there are such
abbrev pub session_words : Bool → List Text → List Text
session_words true words = codes "/usr/bin/setsid" ∷ codes "--" ∷ words
session_words false words = words

-- the first of the words is started with the others as its arguments, in a directory, with no
-- variables
abbrev pub StartsBare : List Text → Text → Start → Type 0
StartsBare words directory start =
    (start.words ≡ words)
    × (start.clears_env ≡ true)
    × ((name : Text) → start.variable name ≡ None)
    × (start.directory ≡ Some directory)

-- a launcher is started, in no directory of an action; the name that it is told is that of
-- the run's instance
abbrev pub StartsLauncher : Bool → Launcher → PlaceValue → Text → CommandValue → Start → Type 0
StartsLauncher has_sessions launcher place root ordered start =
    IsSomeAnd (slice_get launcher.instances.items place.run.instance) (λ instance.
    StartsBare (session_words has_sessions (launcher_words (string_bytes launcher.program)
    (string_bytes instance) root place.directory ordered)) (codes "/") start)
