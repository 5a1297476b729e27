-- What outputs print. For the code alone: no public contract speaks of it.
use Rattle.std.specs.Prelude.{ℕ, ◌+◌, List, [], ◌∷◌, ◌++◌}
use Rattle.server_core.specs.Outputs.{InstanceOutputValue}
use Rattle.tool_programs.specs.Printed.{output_lines}

-- what outputs of instances print, of which the first has this number
abbrev pub outputs_lines : ℕ → List InstanceOutputValue → List ℕ
outputs_lines instance [] = []
outputs_lines instance (output ∷ outputs) =
    output_lines instance output ++ outputs_lines (instance + 1) outputs
