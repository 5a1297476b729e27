use Rattle.std.proofs.Common.{◌≡◌, ◌++◌, map, drop}
use Rattle.served_instance.specs.Ranges.{sources_at}
use Rattle.served_instance.specs.Shown.{connection_shown}
use Rattle.served_instance.proofs.held.range_sources.Given as goal

abbrev pub invariant-loop-kept : goal.invariant-loop-kept
invariant-loop-kept l = l.sources.items ++ sources_at (map connection_shown (drop l.kept-index l.connections))
    ≡ sources_at (map connection_shown l.connections)
