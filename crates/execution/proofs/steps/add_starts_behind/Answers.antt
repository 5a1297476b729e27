use Rattle.std.proofs.Common.{rules, ◌≡◌, ◌≤◌, [], length, arith}
use Rattle.std.proofs.lemmas.List.{length-map}
use Rattle.execution.specs.Taking.{step_shown, steps_shown}
use Rattle.execution.proofs.Taken.{fewer_run}
use Rattle.execution.proofs.steps.add_starts_behind.Goals as goal

pub overflow_sub-running : goal.overflow_sub-running
overflow_sub-running c =
    let few : length (steps_shown c.args.steps.now.items) ≤ length c.args.executions.now.queue.running =
    fewer_run [] c.args.executions.now.queue (steps_shown c.args.steps.now.items) (c.requires []) in
    let same : length (steps_shown c.args.steps.now.items) ≡ length c.args.steps.now.items = length-map c.args.steps.now.items step_shown in
    let count : c.running_count.result ≡ length c.args.executions.now.queue.running = c.running_count.ensures.value in
    let len : c.len.result ≡ length c.args.steps.now.items = search rules in
    omega (arith, few, same, count, len)
