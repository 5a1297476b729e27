use Rattle.std.proofs.Common.{◌≡◌, length, map}
use Rattle.std.specs.List.{list_all}
use Rattle.outcomes.specs.Completing.{collection_shown, no_outputs, with_outputs}
use Rattle.outcomes.specs.Results.{is_output}
use Rattle.run_calls.specs.Shown.{output_shown}
use Rattle.outcomes.proofs.completion.collect.Given as goal

abbrev pub invariant-loop-output : goal.invariant-loop-output
invariant-loop-output l = record {
  taken : list_all (is_output l.like) (map output_shown l.left.items) ≡ list_all (is_output l.like) (map output_shown l.fn.outputs.items);
  same : with_outputs l.like (collection_shown l.collection) (map output_shown l.left.items)
      ≡ with_outputs l.like no_outputs (map output_shown l.fn.outputs.items);
}

abbrev pub decreases-loop-output : goal.decreases-loop-output
decreases-loop-output l = length l.left.items
