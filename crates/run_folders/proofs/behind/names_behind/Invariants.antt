use Rattle.std.proofs.Common.{◌≡◌, length, map}
use Rattle.std.specs.Rc.{rc_str_bytes}
use Rattle.run_folders.specs.Segments.{names_behind, path_names, segments_left}
use Rattle.run_folders.proofs.behind.names_behind.Given as goal

-- as many names were passed of both
abbrev pub invariant-names : goal.invariant-names
invariant-names l =
    names_behind (segments_left l.passed) (map rc_str_bytes l.left)
    ≡ names_behind (path_names l.path) (map rc_str_bytes l.names)

abbrev pub decreases-names : goal.decreases-names
decreases-names l = length (segments_left l.passed)
