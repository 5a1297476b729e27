use Rattle.std.proofs.Common.{◌≡◌, ℕ, List, Vec, Global, option_map, ap, ◌∙◌}
use Rattle.std.specs.Prelude.{IfOk}
use Rattle.instance_view.specs.Shown.{ViewEntry}
use Rattle.actions.specs.Shown.{action_taken_shown}
use Rattle.execution.specs.Keeping.{kept_entries}
use Rattle.execution.proofs.Rereading.{command_again}
use Rattle.execution.proofs.reading.read_task_command.Goals as goal

pub returns : goal.returns
returns c =
    let es : List ViewEntry = kept_entries c.args.task.now.texts.items in
    let same : c.new-texts.result ≡ es = c.new-texts.ensures ∙ ap kept_entries c.deref.ensures.value in
    command_again c.args.pool.now c.new-texts.result es c.args.task.now.action
    (option_map action_taken_shown c.in_ok-action.action) c.in_ok-command.command.items same c.in_ok-action.ensures
    c.in_ok-command.ensures
