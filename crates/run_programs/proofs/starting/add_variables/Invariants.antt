use Rattle.std.proofs.Common.{◌≡◌, ℕ, List, length, map}
use Rattle.run_calls.specs.Values.{variable_shown}
use Rattle.run_programs.specs.Spawning.{set_by}
use Rattle.run_programs.proofs.starting.add_variables.Given as goal

abbrev pub invariant-loop-left : goal.invariant-loop-left
invariant-loop-left g l =
    ((g.C.Command.shown l.command).words ≡ (g.C.Command.shown l.fn.command).words)
    × ((g.C.Command.shown l.command).clears_env ≡ (g.C.Command.shown l.fn.command).clears_env)
    × ((name : List ℕ) → set_by (map variable_shown l.left) name
    ((g.C.Command.shown l.command).variable name)
    ≡ set_by (map variable_shown l.variables) name ((g.C.Command.shown l.fn.command).variable name))
    × ((g.C.Command.shown l.command).directory ≡ (g.C.Command.shown l.fn.command).directory)

abbrev pub decreases-loop-left : goal.decreases-loop-left
decreases-loop-left g l = length l.left
