use Rattle.std.proofs.Common.{refl}
use Rattle.job_runs.proofs.Once.{after_noted}
use Rattle.job_runs.proofs.Spans.{still_to_begin}
use Rattle.job_runs.proofs.Carrying.{noted_as_before, noted_first, start_carries}
use Rattle.job_runs.proofs.job_runner.JobRunnerRuns.start.Goals as goal

pub returns-then-len-capacity-clause-once : goal.returns-then-len-capacity-clause-once
returns-then-len-capacity-clause-once g c = after_noted c.args.run c.args.self.now.runner.runs.items c.args.self.now.to_begin
    c.push_reserved.new.self c.push_reserved.ensures.items

pub returns-else-len-capacity-clause-others : goal.returns-else-len-capacity-clause-others
returns-else-len-capacity-clause-others g c = still_to_begin c.args.self.now.to_begin.items c.args.self.now.together c.span_with.result
    c.span_with.ensures.others

pub returns-then-len-capacity-clause-carries : goal.returns-then-len-capacity-clause-carries
returns-then-len-capacity-clause-carries g c = λ h was.
    start_carries c.args.run _ c.args.self.now.runner.runs.items c.args.self.now.runner.runs.items c.args.self.now.to_begin.items
    c.push_reserved.new.self.items _ _ _ _ h refl refl refl
    (noted_first c.args.run c.args.self.now.to_begin.items c.push_reserved.new.self.items c.push_reserved.ensures.items) was

pub returns-else-len-capacity-clause-carries : goal.returns-else-len-capacity-clause-carries
returns-else-len-capacity-clause-carries g c = λ h was.
    start_carries c.args.run _ c.args.self.now.runner.runs.items c.args.self.now.runner.runs.items c.args.self.now.to_begin.items
    c.args.self.now.to_begin.items _ _ _ _ h refl refl refl
    (noted_as_before c.args.run c.args.self.now.to_begin.items c.args.self.now.to_begin.items refl) was
