use Rattle.std.proofs.Common.{◌≡◌, length}
use Rattle.script.specs.EventLines.{events_left}
use Rattle.script.specs.Parts.{parts_left}
use Rattle.script.proofs.replay.reader.first_event.Given as goal

abbrev pub invariant-lines : goal.invariant-lines
invariant-lines l = events_left l.rest ≡ events_left l.text

abbrev pub decreases-lines : goal.decreases-lines
decreases-lines l = length (parts_left 10 l.rest)
