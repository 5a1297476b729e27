use Rattle.made_trees.specs.Claims.{MakesRoom}
use Rattle.made_trees.proofs.store.MadeTrees.make_room.Given as goal

abbrev pub invariant-loop : goal.invariant-loop
invariant-loop l = MakesRoom l.instance l.initial.self l.self
