use Rattle.std.proofs.Common.{◌≡◌, length}
use Rattle.rpc.specs.Methods.{method_in}
use Rattle.rpc.proofs.method.method_in.Given as goal

abbrev pub invariant-methods : goal.invariant-methods
invariant-methods l = method_in l.left l.path ≡ method_in l.methods l.path

abbrev pub decreases-methods : goal.decreases-methods
decreases-methods l = length l.left
