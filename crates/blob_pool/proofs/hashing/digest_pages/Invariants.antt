use Rattle.std.proofs.Common.{◌≤◌, ◌-◌, take}
use Rattle.digest.specs.Hashing.{Holds}
use Rattle.blob_pool.proofs.hashing.digest_pages.Given as goal

abbrev pub invariant-parts : goal.invariant-parts
invariant-parts l = Holds l.hasher l.fn.function (take l.from l.text) × (l.from ≤ l.length)

abbrev pub decreases-parts : goal.decreases-parts
decreases-parts l = l.length - l.from
