use Rattle.std.proofs.Common.{rules, ◌≡◌, List, [], ◌∷◌, ◌∙◌, ℕ, ap}
use Rattle.std.specs.declared.alloc.Global.{Global}
use Rattle.std.specs.declared.vec.Vec.{Vec}
use Rattle.execution_messages.specs.Shown.{end_shown}
use Rattle.execution.specs.Steps.{ends}
use Rattle.execution.specs.Taking.{steps_shown}
use Rattle.execution.proofs.Taken.{ended_some}
use Rattle.execution.proofs.steps.step_ended.Goals as goal

pub returns : goal.returns
returns c = λ p.
    let operation : List ℕ = c.in_ok-operation.operation.value.items in
    let pushed : steps_shown c.push.new.self.items ≡ ends c.args.number operation ∷ [] = search rules in
    pushed ∙ ended_some p c.args.number (end_shown c.args.end) c.args.queue.now c.in-Some.job.now operation c.in-Some.ensures
    (ap (λ (v : Vec ℕ Global). v.items) c.in_ok-operation.ensures.ok ∙ c.in_ok-text.ensures)
