use Rattle.runner.proofs.WentOn.{killed_on}
use Rattle.runner.proofs.runs.Runner.kill.Goals as goal

pub returns-clause-killed : goal.returns-clause-killed
returns-clause-killed g c =
    killed_on _ c.and.result _ _ _ c.in-Some.at c.index.result.now c.ending_of-ending.result c.state_left.result c.end-ended.result _ _ _ _
    c.deref.ensures.value c.in-Some.ensures.first c.index.ensures c.ending_of-ending.ensures c.state_left.ensures c.keep.ensures
    c.end-ended.ensures.by c.and.ensures
