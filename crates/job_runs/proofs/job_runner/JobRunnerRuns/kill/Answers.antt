use Rattle.std.proofs.Common.{refl, sym, ◌∙◌}
use Rattle.job_runs.proofs.Keys.{taken-once}
use Rattle.job_runs.proofs.Once.{after_killed}
use Rattle.job_runs.proofs.Carrying.{kill_carries, noted_kill_carries}
use Rattle.job_runs.proofs.job_runner.JobRunnerRuns.kill.Goals as goal

pub returns-then-not-take-clause-once : goal.returns-then-not-take-clause-once
returns-then-not-take-clause-once g c =
    after_killed c.args.run _ c.args.self.now.runner.runs.items c.kill-ended.new.self.runs.items _ _ _ _ c.args.self.now.to_begin
    c.take.new.to_begin c.take.ensures.others c.kill-ended.ensures.killed

pub returns-else-not-take-clause-once : goal.returns-else-not-take-clause-once
returns-else-not-take-clause-once g c = taken-once c.args.run c.args.self.now.runner.runs.items c.args.self.now.to_begin.items
    c.take.new.to_begin.items c.take.ensures.others

pub returns-then-not-take-clause-carries : goal.returns-then-not-take-clause-carries
returns-then-not-take-clause-carries g c = λ h was.
    kill_carries c.args.run _ c.args.self.now.runner.runs.items c.kill-ended.new.self.runs.items c.args.self.now.to_begin.items
    c.take.new.to_begin.items _ _ _ _ h c.kill-ended.ensures.killed c.take.ensures.others was

pub returns-else-not-take-clause-carries : goal.returns-else-not-take-clause-carries
returns-else-not-take-clause-carries g c = λ h was.
    noted_kill_carries c.args.run c.args.self.now.runner.runs.items c.args.self.now.runner.runs.items c.args.self.now.to_begin.items
    c.take.new.to_begin.items _ _ _ _ h refl refl refl (sym c.take.ensures.was ∙ c.if-not-take.false) c.take.ensures.others was
