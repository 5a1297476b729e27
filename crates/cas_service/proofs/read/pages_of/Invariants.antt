use Rattle.std.proofs.Common.{◌≡◌, ◌≤◌, ◌-◌, ◌++◌, drop}
use Rattle.std.specs.List.{flat_map}
use Rattle.blob_pool.specs.Slots.{text_at}
use Rattle.cas_service.proofs.read.pages_of.Given as goal

abbrev pub invariant-pages : goal.invariant-pages
invariant-pages l =
    (flat_map (λ p. p.now) l.pages.items ++ drop l.from (text_at l.pool l.kept) ≡ text_at l.pool l.kept)
    × (l.from ≤ l.length)

abbrev pub decreases-pages : goal.decreases-pages
decreases-pages l = l.length - l.from
