use Rattle.std.proofs.Common.{ap, rules}
use Rattle.job_runs.proofs.Overseen.{failed_carries}
use Rattle.job_runs.proofs.Refused.{judged_asked, judged_carries}
use Rattle.job_runs.proofs.operated.OperatedRunsRuns.ask.Goals as goal

pub returns-then-is_some-clause-carries : goal.returns-then-is_some-clause-carries
returns-then-is_some-clause-carries g c = λ h was.
    failed_carries c.args.run c.args.task _ _ _ _ _ _ _ _ h (search rules)
    (λ there. (
      ap (λ r. r.runs.items) (c.kill.ensures.noted there),
      ap (λ r. g.F.Folder.asked r.folder) (c.kill.ensures.noted there),
      ap
          (λ r. g.P.Programs.asked r.programs) (c.kill.ensures.noted there),
    ))
    c.kill.ensures.killed c.kill.ensures.to_begin was

pub returns-clause-carries : goal.returns-clause-carries
returns-clause-carries g c = λ h was.
    judged_carries c.args.run c.args.task c.ask-answer.result c.judged.result _ _ _ _ _ _ _ _ h c.judged.ensures
    c.ask-answer.ensures.begun c.ask-answer.ensures.answered c.ask-answer.ensures.to_begin
    (c.ask-answer.ensures.carries h) was

pub returns-clause-asked : goal.returns-clause-asked
returns-clause-asked g c = judged_asked _ c.args.run c.ask-answer.result c.judged.result _ _ c.judged.ensures
    record {
      begun = λ none. (
        c.ask-answer.ensures.begun none,
        (c.ask-answer.ensures.only_begun none).0,
        ap g.P.Programs.asked (c.ask-answer.ensures.only_begun none).2,
      );
      answered = c.ask-answer.ensures.answered;
    }
