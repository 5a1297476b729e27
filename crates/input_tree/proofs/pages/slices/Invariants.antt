use Rattle.std.proofs.Common.{◌≡◌, ◌++◌, map, length}
use Rattle.input_tree.proofs.pages.slices.Given as goal

abbrev pub invariant-texts : goal.invariant-texts
invariant-texts l = map (λ b. b.now) l.slices.items ++ map (λ t. t.items) l.left ≡ map (λ t. t.items) l.texts

abbrev pub decreases-texts : goal.decreases-texts
decreases-texts l = length l.left
