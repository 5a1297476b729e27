use Rattle.std.proofs.Common.{◌≡◌, ◌++◌, map}
use Rattle.script.specs.UnaryShown.{entry_value, instance_value}
use Rattle.script.proofs.unary.parser.instances.Given as goal

abbrev pub invariant-loop-name : goal.invariant-loop-name
invariant-loop-name l = map instance_value l.instances.items ++ map entry_value l.name-iterator ≡ map entry_value l.fn.quotas.entries
