use Rattle.std.proofs.Common.{ℕ, List, ap, subst}
use Rattle.runner.specs.Runs.{IsAsked}
use Rattle.job_runs.specs.Texts.{numbered_text}
use Rattle.job_runs.proofs.job_runner.JobRunner.ask_run.Goals as goal

pub returns-clause-answered : goal.returns-clause-answered
returns-clause-answered g c =
    subst (λ (text : ℕ → List ℕ). IsAsked text c.args.run c.ask.result c.args.self.now.runner.runs.items c.ask.new.self.runs.items
    (g.F.Folder.asked c.args.self.now.runner.folder) (g.F.Folder.asked c.ask.new.self.folder)
    (g.P.Programs.asked c.args.self.now.runner.programs) (g.P.Programs.asked c.ask.new.self.programs))
    (ap numbered_text c.texts_of.ensures) c.ask.ensures.asked
