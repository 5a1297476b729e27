use Rattle.std.proofs.Common.{◌≡◌, List, ◌++◌, ℕ, length}
use Rattle.resource_names.specs.Segments.{segments_of, segments_left, division_of, division_after}
use Rattle.resource_names.specs.Shown.{divides}
use Rattle.resource_names.proofs.segments.divide.Given as goal

-- these segments were passed, and what the name is divided at is still to come
abbrev pub invariant-segments : goal.invariant-segments
invariant-segments l =
    (passed : List (List ℕ)) × (segments_of l.text ≡ passed ++ segments_left l.left)
    × (division_of (divides l.divider) (segments_of l.text) ≡ division_after passed (divides l.divider) (segments_left l.left))

abbrev pub decreases-segments : goal.decreases-segments
decreases-segments l = length (segments_left l.left)
