use Rattle.std.proofs.Common.{◌≡◌, length, map, string_bytes}
use Rattle.std.specs.Rc.{rc_str_bytes}
use Rattle.run_folders.specs.Folders.{below_all, node_path}
use Rattle.run_folders.proofs.paths.node_path.Given as goal

abbrev pub invariant-loop-left : goal.invariant-loop-left
invariant-loop-left l =
    below_all (string_bytes l.path) (map rc_str_bytes l.left)
    ≡ node_path l.fn.run (map rc_str_bytes l.names)

abbrev pub decreases-loop-left : goal.decreases-loop-left
decreases-loop-left l = length l.left
