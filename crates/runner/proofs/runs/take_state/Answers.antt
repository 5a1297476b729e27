use Rattle.runner.proofs.WentOn.{put_set}
use Rattle.runner.proofs.runs.take_state.Goals as goal

pub returns-clause-runs : goal.returns-clause-runs
returns-clause-runs c = put_set c.args.runs.now c.args.at c.index_mut.result.now _ _ c.requires c.index_mut.ensures.value
    c.replace.ensures.after
