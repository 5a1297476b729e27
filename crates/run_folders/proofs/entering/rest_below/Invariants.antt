use Rattle.std.proofs.Common.{◌≡◌, ℕ, List, ◌++◌, length}
use Rattle.run_folders.specs.Segments.{path_names, segments_left}
use Rattle.run_folders.proofs.entering.rest_below.Given as goal

-- the same names were passed of both
abbrev pub invariant-names : goal.invariant-names
invariant-names l =
    (names : List (List ℕ)) × (path_names l.path ≡ names ++ segments_left l.left)
    × (path_names l.above ≡ names ++ segments_left l.passed)

abbrev pub decreases-names : goal.decreases-names
decreases-names l = length (segments_left l.passed)
