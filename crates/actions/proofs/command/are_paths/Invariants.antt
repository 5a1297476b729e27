use Rattle.std.proofs.Common.{◌≡◌, length, map}
use Rattle.actions.specs.Commands.{are_paths}
use Rattle.actions.proofs.command.are_paths.Given as goal

abbrev pub invariant-loop-left : goal.invariant-loop-left
invariant-loop-left l = are_paths (map (λ s. s.now) l.left) ≡ are_paths (map (λ s. s.now) l.paths)

abbrev pub decreases-loop-left : goal.decreases-loop-left
decreases-loop-left l = length l.left
