use Rattle.std.proofs.Common.{◌≡◌, ◌∷◌, ◌++◌, length, map}
use Rattle.system_faults.proofs.fake.below.Given as goal

-- the names that are there, and then those that are left
abbrev pub invariant-names : goal.invariant-names
invariant-names l =
    map (λ n. n.items) l.all.items ++ map (λ n. n.items) l.left ≡ l.name ∷ map (λ n. n.items) l.names

abbrev pub decreases-names : goal.decreases-names
decreases-names l = length l.left
