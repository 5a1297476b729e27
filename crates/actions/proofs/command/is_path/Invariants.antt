use Rattle.std.proofs.Common.{◌≡◌, length}
use Rattle.resource_names.specs.Segments.{segments_left}
use Rattle.actions.specs.Commands.{is_path, are_names}
use Rattle.actions.proofs.command.is_path.Given as goal

abbrev pub invariant-loop-left : goal.invariant-loop-left
invariant-loop-left l = are_names (segments_left l.left) ≡ is_path l.path

abbrev pub decreases-loop-left : goal.decreases-loop-left
decreases-loop-left l = length (segments_left l.left)
