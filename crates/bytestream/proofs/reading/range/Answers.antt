use Rattle.std.proofs.Common.{ℕ, ◌≤◌}
use Rattle.blob_pool.specs.Slots.{count_at}
use Rattle.instance_view.specs.declared.view.Seen.{Seen}
use Rattle.instance_view.specs.Shown.{holders_seen}
use Rattle.bytestream.proofs.HeldLemmas.{held_at, held_ok}
use Rattle.bytestream.proofs.reading.range.Goals as goal

pub returns-in-Some-clause-held : goal.returns-in-Some-clause-held
returns-in-Some-clause-held c =
    held_ok c.range_of.result c.in-Some.text (λ (s : Seen) (k : ℕ). holders_seen s k ≤ count_at c.args.pool.now k) c.range_of.ensures.text
    (held_at c.args.found c.in-Some.text (λ (s : Seen) (k : ℕ). holders_seen s k ≤ count_at c.args.pool.now k) c.requires c.in-Some.is)
