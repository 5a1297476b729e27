use Rattle.std.proofs.Common.{◌≡◌, map}
use Rattle.run_calls.specs.Shown.{output_shown}
use Rattle.script.specs.ReplayEvents.{outputs_of}
use Rattle.script.proofs.OutputLemmas.{outputs_after}
use Rattle.script.proofs.replay.output.read_outputs.Given as goal

abbrev pub invariant-loop-word : goal.invariant-loop-word
invariant-loop-word l =
    (outputs_after (map output_shown l.outputs.items) l.word-iterator ≡ outputs_of l.fn.words)
    × (goal.iterator-loop-word).can_next l.word-iterator
    × (goal.iterator-loop-word).is_finite l.word-iterator
