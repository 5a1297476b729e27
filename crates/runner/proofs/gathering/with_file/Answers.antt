use Rattle.std.proofs.Common.{◌++◌, ap, ◌∙◌}
use Rattle.runner.specs.Gathered.{output_items}
use Rattle.runner.proofs.Items.{output_added}
use Rattle.runner.proofs.Told.{output_grown}
use Rattle.runner.proofs.gathering.with_file.Goals as goal

pub returns-clause-items : goal.returns-clause-items
returns-clause-items c = λ place.
    output_added place _ _ _ c.in_ok-push.ensures.items
    ∙ ap (λ is. output_items place c.args.gathering.exited.outputs.items ++ is) (c.output.ensures.items place)

pub returns-clause-length : goal.returns-clause-length
returns-clause-length c = output_grown _ _ _ _ _ _ c.in_ok-push.ensures.items c.output.ensures.length
