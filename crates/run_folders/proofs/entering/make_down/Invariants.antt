use Rattle.std.proofs.Common.{◌≡◌, length}
use Rattle.system.specs.Places.{OnTheWay, place_below}
use Rattle.run_folders.specs.Segments.{segments_left}
use Rattle.run_folders.proofs.entering.make_down.Given as goal

-- what is left of the path leads from here to where the whole path leads
abbrev pub invariant-names : goal.invariant-names
invariant-names g l =
    (place_below (g.D.Directory.place l.directory) (segments_left l.left)
    ≡ place_below (g.D.Directory.place l.fn.from) (segments_left l.fn.path))
    × OnTheWay g.D.Directory.may_look (g.D.Directory.place l.directory) (segments_left l.left)
    × OnTheWay g.D.Directory.may_change (g.D.Directory.place l.directory) (segments_left l.left)

abbrev pub decreases-names : goal.decreases-names
decreases-names g l = length (segments_left l.left)
