use Rattle.std.proofs.Common.{◌≡◌, ◌++◌, length, map}
use Rattle.actions.specs.Commands.{asked_as}
use Rattle.actions.specs.Shown.{asked_shown}
use Rattle.actions.proofs.outputs.add_paths.Given as goal

abbrev pub invariant-loop-left : goal.invariant-loop-left
invariant-loop-left l =
    map asked_shown l.asked.items ++ map (asked_as l.as_file l.as_tree) (map (λ s. s.now) l.left)
    ≡ map asked_shown l.fn.asked.items
    ++ map (asked_as l.as_file l.as_tree) (map (λ s. s.now) l.paths)

abbrev pub decreases-loop-left : goal.decreases-loop-left
decreases-loop-left l = length l.left
