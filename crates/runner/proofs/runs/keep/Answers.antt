use Rattle.std.proofs.Common.{refl, ap, sym, ◌∙◌}
use Rattle.runner.specs.Runs.{kept_at}
use Rattle.runner.proofs.WentOn.{put_set}
use Rattle.runner.proofs.runs.keep.Goals as goal

pub returns-in-Some : goal.returns-in-Some
returns-in-Some c =
    put_set c.args.runs.now c.args.at c.index_mut.result.now c.in-Some.state c.in-Some.state c.requires c.index_mut.ensures.value refl
    ∙ ap (kept_at c.args.runs.now.items c.args.at) (sym c.in-Some.is)
