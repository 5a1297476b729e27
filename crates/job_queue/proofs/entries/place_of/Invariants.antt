use Rattle.std.proofs.Common.{◌≡◌, ◌+◌, length}
use Rattle.job_queue.specs.Codes.{place_of}
use Rattle.job_queue.proofs.entries.place_of.Given as goal

abbrev pub invariant-entries : goal.invariant-entries
invariant-entries g l =
    (place_of l.number l.entries ≡ l.place + place_of l.number l.left)
    × (l.place + length l.left ≡ length l.entries)

abbrev pub decreases-entries : goal.decreases-entries
decreases-entries g l = length l.left
