use Rattle.std.proofs.Common.{[]}
use Rattle.std.specs.Rc.{rc_str_bytes}
use Rattle.run_folders.proofs.NamesBehind.{none_behind}
use Rattle.run_folders.specs.Segments.{segments_left}
use Rattle.run_folders.proofs.behind.names_behind.Goals as goal

pub returns-in_default-left : goal.returns-in_default-left
returns-in_default-left c = none_behind rc_str_bytes c.names.left.now (segments_left c.names.passed)
    c.first_segment.result.0.now (segments_left c.first_segment.result.1) _ c.in_default-left.len_below
    (rw c.in-Some.is c.first_segment.ensures) c.names.invariant
