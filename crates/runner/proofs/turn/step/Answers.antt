use Rattle.std.specs.Prelude.{Ok}
use Rattle.runner.proofs.Bounds.{counted_then, folder_step, last_step, making_step, programs_step}
use Rattle.runner.proofs.turn.step.Goals as goal

pub returns-in-Making-clause-few : goal.returns-in-Making-clause-few
returns-in-Making-clause-few g c = making_step _ _ _ _ _ c.make.ensures.counted c.make.ensures.few

pub returns-in-Making-clause-counted : goal.returns-in-Making-clause-counted
returns-in-Making-clause-counted g c = counted_then _ c.make.ensures.counted

pub returns-in-Running-clause-few : goal.returns-in-Running-clause-few
returns-in-Running-clause-few g c = programs_step _ _ _ _ c.ask.ensures.counted c.ask.ensures.few

pub returns-in-Running-clause-counted : goal.returns-in-Running-clause-counted
returns-in-Running-clause-counted g c = counted_then _ c.ask.ensures.counted

pub returns-in-Stopping-clause-few : goal.returns-in-Stopping-clause-few
returns-in-Stopping-clause-few g c = programs_step (Ok c.stop.result) _ _ _ c.stop.ensures.counted c.stop.ensures.few

pub returns-in-Stopping-clause-counted : goal.returns-in-Stopping-clause-counted
returns-in-Stopping-clause-counted g c = counted_then (Ok c.stop.result) c.stop.ensures.counted

pub returns-in-Measuring-clause-few : goal.returns-in-Measuring-clause-few
returns-in-Measuring-clause-few g c = programs_step _ _ _ _ c.measure.ensures.counted c.measure.ensures.few

pub returns-in-Measuring-clause-counted : goal.returns-in-Measuring-clause-counted
returns-in-Measuring-clause-counted g c = counted_then _ c.measure.ensures.counted

pub returns-in-Output-clause-few : goal.returns-in-Output-clause-few
returns-in-Output-clause-few g c = programs_step _ _ _ _ c.read_output.ensures.counted c.read_output.ensures.few

pub returns-in-Output-clause-counted : goal.returns-in-Output-clause-counted
returns-in-Output-clause-counted g c = counted_then _ c.read_output.ensures.counted

pub returns-in-Error-clause-few : goal.returns-in-Error-clause-few
returns-in-Error-clause-few g c = programs_step _ _ _ _ c.read_error.ensures.counted c.read_error.ensures.few

pub returns-in-Error-clause-counted : goal.returns-in-Error-clause-counted
returns-in-Error-clause-counted g c = counted_then _ c.read_error.ensures.counted

pub returns-in-Outputs-clause-few : goal.returns-in-Outputs-clause-few
returns-in-Outputs-clause-few g c = last_step _ _ _ _ c.next_output.ensures.exits c.next_output.ensures.few

pub returns-in-File-clause-few : goal.returns-in-File-clause-few
returns-in-File-clause-few g c = folder_step _ _ _ _ c.read_file.ensures.counted c.read_file.ensures.few

pub returns-in-File-clause-counted : goal.returns-in-File-clause-counted
returns-in-File-clause-counted g c = counted_then _ c.read_file.ensures.counted

pub returns-in-Listing-clause-few : goal.returns-in-Listing-clause-few
returns-in-Listing-clause-few g c = folder_step _ _ _ _ c.list_output.ensures.counted c.list_output.ensures.few

pub returns-in-Listing-clause-counted : goal.returns-in-Listing-clause-counted
returns-in-Listing-clause-counted g c = counted_then _ c.list_output.ensures.counted

pub returns-in-Tree-clause-few : goal.returns-in-Tree-clause-few
returns-in-Tree-clause-few g c = folder_step _ _ _ _ c.next_in_tree.ensures.counted c.next_in_tree.ensures.few

pub returns-in-Tree-clause-counted : goal.returns-in-Tree-clause-counted
returns-in-Tree-clause-counted g c = counted_then _ c.next_in_tree.ensures.counted

pub returns-in-TreeFile-clause-few : goal.returns-in-TreeFile-clause-few
returns-in-TreeFile-clause-few g c = folder_step _ _ _ _ c.read_in_tree.ensures.counted c.read_in_tree.ensures.few

pub returns-in-TreeFile-clause-counted : goal.returns-in-TreeFile-clause-counted
returns-in-TreeFile-clause-counted g c = counted_then _ c.read_in_tree.ensures.counted
