use Rattle.std.proofs.Common.{◌≤◌, sym, subst}
use Rattle.run_shells.proofs.Answered.{answered_more}
use Rattle.run_shells.proofs.asked.Asked.take_answers.Goals as goal

pub returns : goal.returns
returns g c = record {
  heard = record {
    asked = c.hear.ensures.asked;
    answered = subst (λ n. c.args.self.now.questions.answered ≤ n) (sym c.hear.ensures.answered)
        (answered_more c.args.self.now.questions.answered c.hear-heard.result);
  };
}
