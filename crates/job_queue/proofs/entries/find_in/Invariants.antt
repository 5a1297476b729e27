use Rattle.std.proofs.Common.{◌≡◌, length}
use Rattle.std.specs.Map.{lookup}
use Rattle.job_queue.specs.Jobs.{same_number}
use Rattle.job_queue.proofs.entries.find_in.Given as goal

abbrev pub invariant-entries : goal.invariant-entries
invariant-entries g l =
    lookup (same_number l.number) l.left ≡ lookup (same_number l.number) l.entries

abbrev pub decreases-entries : goal.decreases-entries
decreases-entries g l = length l.left
