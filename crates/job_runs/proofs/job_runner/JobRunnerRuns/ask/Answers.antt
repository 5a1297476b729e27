use Rattle.std.proofs.Common.{◌≡◌, ap, sym, ◌∙◌}
use Rattle.std.specs.Prelude.{Result, Ok, Err, IsErrAnd}
use Rattle.server_core.specs.Lent.{lent_shown}
use Rattle.job_runs.specs.Runs.{end_answer}
use Rattle.job_runs.proofs.Once.{after_asked, after_begun, after_killed}
use Rattle.job_runs.proofs.Carrying.{asked_carries, begun_carries, lent_none_carries}
use Rattle.job_runs.proofs.job_runner.JobRunnerRuns.ask.Goals as goal

pub returns-then-not-has-clause-once : goal.returns-then-not-has-clause-once
returns-then-not-has-clause-once g c =
    after_begun _ c.args.run c.begin_lent.result c.args.self.now.runner.runs.items c.begin_lent.new.self.runner.runs.items
    c.args.self.now.to_begin c.take-was_noted.new.to_begin c.begin_lent.new.self.to_begin
    (sym c.has.ensures ∙ c.if-not-has.true) c.take-was_noted.ensures.others c.begin_lent.ensures.to_begin c.begin_lent.ensures.begun

pub returns-in-Some-clause-once : goal.returns-in-Some-clause-once
returns-in-Some-clause-once g c =
    after_asked _ c.args.run c.ask_run.result c.args.self.now.runner.runs.items c.ask_run.new.self.runner.runs.items _ _ _ _
    c.args.self.now.to_begin c.take-was_noted.new.to_begin c.ask_run.new.self.to_begin c.take-was_noted.ensures.others
    c.ask_run.ensures.to_begin c.ask_run.ensures.answered

pub returns-in_ok-kill-in-None-clause-once : goal.returns-in_ok-kill-in-None-clause-once
returns-in_ok-kill-in-None-clause-once g c =
    after_killed c.args.run _ c.args.self.now.runner.runs.items c.kill.new.self.runs.items _ _ _ _ c.args.self.now.to_begin
    c.take-was_noted.new.to_begin c.take-was_noted.ensures.others c.kill.ensures.killed

pub returns-in_err-kill-in-None-clause-once : goal.returns-in_err-kill-in-None-clause-once
returns-in_err-kill-in-None-clause-once g c =
    after_killed c.args.run _ c.args.self.now.runner.runs.items c.kill.new.self.runs.items _ _ _ _ c.args.self.now.to_begin
    c.take-was_noted.new.to_begin c.take-was_noted.ensures.others c.kill.ensures.killed

pub returns-then-not-has-clause-carries : goal.returns-then-not-has-clause-carries
returns-then-not-has-clause-carries g c = λ h was.
    begun_carries c.args.run _ c.begin_lent.result c.args.self.now.runner.runs.items c.begin_lent.new.self.runner.runs.items
    c.args.self.now.to_begin.items c.begin_lent.new.self.to_begin.items _ _ _ _ h
    (sym c.has.ensures ∙ c.if-not-has.true) c.begin_lent.ensures.begun c.begin_lent.ensures.asked
    (ap g.P.Programs.asked c.begin_lent.ensures.programs)
    (ap (λ v. v.items) c.begin_lent.ensures.to_begin ∙ c.take-was_noted.ensures.others) was

pub returns-in-Some-clause-carries : goal.returns-in-Some-clause-carries
returns-in-Some-clause-carries g c = λ h was.
    rw (c.in-Some.is) (asked_carries c.args.run (lent_shown c.in-Some.task) c.ask_run.result c.args.self.now.runner.runs.items
    c.ask_run.new.self.runner.runs.items c.args.self.now.to_begin.items c.ask_run.new.self.to_begin.items _ _ _ _ h
    c.ask_run.ensures.answered
    (ap (λ v. v.items) c.ask_run.ensures.to_begin ∙ c.take-was_noted.ensures.others) was)

pub returns-in_ok-kill-in-None-clause-carries : goal.returns-in_ok-kill-in-None-clause-carries
returns-in_ok-kill-in-None-clause-carries g c = λ h was.
    rw (c.in-None.is) (lent_none_carries c.args.run c.kill.result _ c.args.self.now.runner.runs.items c.kill.new.self.runs.items
    c.args.self.now.to_begin.items c.take-was_noted.new.to_begin.items _ _ _ _ h c.kill.ensures.killed
    (sym (ap end_answer c.in_ok-kill-in-None.was)) c.take-was_noted.ensures.others was)

error_so : {A E : Type 0} (r : Result A E) (fault : E) → IsErrAnd r (λ y. y ≡ fault) → r ≡ Err fault
error_so (Ok x) fault is = absurd is
error_so (Err y) fault is = ap Err is

pub returns-in_err-kill-in-None-clause-carries : goal.returns-in_err-kill-in-None-clause-carries
returns-in_err-kill-in-None-clause-carries g c = λ h was.
    rw (c.in-None.is) (lent_none_carries c.args.run c.kill.result c.from_residual.result c.args.self.now.runner.runs.items
    c.kill.new.self.runs.items c.args.self.now.to_begin.items c.take-was_noted.new.to_begin.items _ _ _ _ h c.kill.ensures.killed
    (error_so c.from_residual.result _ c.from_residual.ensures.1 ∙ sym (ap end_answer c.in_err-kill-in-None.was))
    c.take-was_noted.ensures.others was)
