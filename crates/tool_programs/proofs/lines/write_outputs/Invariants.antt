use Rattle.std.proofs.Common.{◌≡◌, ◌++◌, length, map, ◌+◌}
use Rattle.server_core.specs.Shown.{instance_output_shown}
use Rattle.tool_programs.specs.Outputs.{outputs_lines}
use Rattle.tool_programs.proofs.lines.write_outputs.Given as goal

abbrev pub invariant-outputs : goal.invariant-outputs
invariant-outputs l =
    (l.text.items ++ outputs_lines l.instance (map instance_output_shown l.left) ≡ l.fn.text.items
    ++ outputs_lines 0 (map instance_output_shown l.outputs))
    × (l.instance + length l.left ≡ length l.outputs)

abbrev pub decreases-outputs : goal.decreases-outputs
decreases-outputs l = length l.left
