-- Outputs that an action asks for (remote_execution.proto, Command), and those that were given.
use Rattle.std.specs.Prelude.{ℕ, Bool, true, false, List, [], ◌∷◌, ◌&&◌, if◌then◌else◌}
use Rattle.std.specs.Str.{bytes_eq}
use Rattle.actions.specs.Commands.{AskedOutput}
use Rattle.run_calls.specs.Outcomes.{OutputValue, output_file, output_tree}

abbrev pub is_asked : AskedOutput → OutputValue → Bool
is_asked a (output_file path text is_executable) = a.as_file && bytes_eq a.path path
is_asked a (output_tree path nodes) = a.as_tree && bytes_eq a.path path

-- the outputs are some of those that were asked for, in their order, each as often at most
abbrev pub are_asked : List AskedOutput → List OutputValue → Bool
are_asked asked [] = true
are_asked [] (o ∷ os) = false
are_asked (a ∷ asked) (o ∷ os) =
    if is_asked a o then are_asked asked os else are_asked asked (o ∷ os)
