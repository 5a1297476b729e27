use Rattle.std.proofs.Common.{◌≡◌, length, map, string_bytes}
use Rattle.run_folders.specs.Folders.{below_all}
use Rattle.run_folders.proofs.paths.add_all.Given as goal

abbrev pub invariant-loop-left : goal.invariant-loop-left
invariant-loop-left l =
    below_all (string_bytes l.whole) (map string_bytes l.left)
    ≡ below_all (string_bytes l.fn.whole) (map string_bytes l.names)

abbrev pub decreases-loop-left : goal.decreases-loop-left
decreases-loop-left l = length l.left
