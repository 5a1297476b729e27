use Rattle.std.proofs.Common.{◌≡◌, map}
use Rattle.run_folders.proofs.listing.in_order.Given as goal

-- the names of what was added are those that were gone over
abbrev pub invariant-loop-name : goal.invariant-loop-name
invariant-loop-name l = map (λ e. e.name) l.entries.items ≡ map (λ p. p.0) l.yielded
