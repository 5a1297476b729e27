use Rattle.std.proofs.Common.{◌≡◌, map, take}
use Rattle.script.specs.LimitsShown.{limits_value}
use Rattle.script.specs.UnaryShown.{instance_value}
use Rattle.tool_programs.specs.Session.{new_store}
use Rattle.tool_programs.proofs.session.open_all.Given as goal

abbrev pub invariant-loop-instance : goal.invariant-loop-instance
invariant-loop-instance l = l.stores.items ≡ map (new_store (limits_value l.limits))
    (map instance_value (take l.instance-index l.instances))
