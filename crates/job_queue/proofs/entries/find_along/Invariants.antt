use Rattle.std.proofs.Common.{◌≡◌, ◌≤◌, ◌-◌, length, drop}
use Rattle.std.specs.Map.{lookup}
use Rattle.job_queue.specs.Jobs.{same_number}
use Rattle.job_queue.proofs.entries.find_along.Given as goal

abbrev pub invariant-entries : goal.invariant-entries
invariant-entries g l =
    (lookup (same_number l.number) (drop l.place l.entries.items)
    ≡ lookup (same_number l.number) l.entries.items) × (l.place ≤ length l.entries.items)

abbrev pub decreases-entries : goal.decreases-entries
decreases-entries g l = length l.entries.items - l.place
