use Rattle.std.proofs.Common.{◌≡◌, ℕ, length}
use Rattle.std.specs.Prelude.{Some}
use Rattle.server_core.specs.Runs.{Run, output_of_run}
use Rattle.server_core.specs.Shown.{output_at}
use Rattle.server_core.specs.RunTo.{IsNotedAt}
use Rattle.server_core.proofs.whole_run.outputs_of.Given as goal

abbrev pub invariant-loop-record : goal.invariant-loop-record
invariant-loop-record l = record {
  count : length l.outputs.items ≡ length l.yielded;
  outputs : (i : ℕ) (r : Run) → IsNotedAt i l.yielded r → output_at i l.outputs.items ≡ Some (output_of_run r);
}
