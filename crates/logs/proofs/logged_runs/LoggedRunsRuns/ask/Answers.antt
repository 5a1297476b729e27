use Rattle.std.proofs.Common.{◌≡◌, ℕ, ◌∷◌, ◌∙◌, ap, subst, inl, inr, Option, List}
use Rattle.execution.specs.Job.{TaskValue}
use Rattle.logs.specs.LoggedRuns.{runs_logged}
use Rattle.serve.specs.RunEvents.{AddsRuns, RunEvent, lent, outcome_events}
use Rattle.logs.proofs.Carried.{carried_never, carried_twice}
use Rattle.logs.proofs.logged_runs.LoggedRunsRuns.ask.Goals as goal
use Rattle.logs.proofs.logged_runs.LoggedRunsRuns.ask.Goals.{in-Ok, in-Err+in-Some-1, in-Err+in-None-1}

same_asked : (i j : ℕ) (a b : Option TaskValue) (xs ys : List RunEvent) → a ≡ b → xs ≡ ys → lent i j a ∷ xs ≡ lent i j b ∷ ys
same_asked i j a b xs ys one other = ap (λ (t : Option TaskValue). lent i j t ∷ xs) one ∙ ap (λ (es : List RunEvent). lent i j b ∷ es) other

pub invariant_of-self : goal.invariant_of-self
invariant_of-self g c = record {
  carried = elim c.match-copied_lent.branch [
    | in-Ok w ↦ carried_twice _ _ _ _ _ _ _ _ c.args.self.now.carried c.ask-answer.ensures.carries w.add.ensures.adds
        (subst (λ (o : Option (List RunEvent)). AddsRuns o (runs_logged c.log_answer-answer.new.log)
        (outcome_events c.args.run c.log_answer-answer.result))
        (ap (λ s. runs_logged s.1.1.0) w.self-is) c.log_answer-answer.ensures.adds)
        (elim c.log_answer-answer.ensures.told [
          | inl lost ↦ inl lost
          | inr same ↦ inr (same_asked _ _ _ _ _ _ w.in-Ok.ensures same)
        ])
    | in-Err+in-Some-1 w ↦ carried_never (g.R.Runs.carries c.args.self.now.runs) _ _
        (outcome_events c.args.run c.log_answer-answer.result)
        (subst (λ (o : Option (List RunEvent)). AddsRuns o (runs_logged c.log_answer-answer.new.log)
        (outcome_events c.args.run c.log_answer-answer.result))
        (ap (λ s. runs_logged s.1.1.0) w.self-is) c.log_answer-answer.ensures.adds)
    | in-Err+in-None-1 w ↦ carried_never (g.R.Runs.carries c.args.self.now.runs) _ _
        (outcome_events c.args.run c.log_answer-answer.result)
        (subst (λ (o : Option (List RunEvent)). AddsRuns o (runs_logged c.log_answer-answer.new.log)
        (outcome_events c.args.run c.log_answer-answer.result))
        (ap (λ s. runs_logged s.1.1.0) w.self-is) c.log_answer-answer.ensures.adds)
  ];
}
