use Rattle.std.proofs.Common.{rules, ◌≡◌, ◌++◌, List, [], ◌∷◌, map, ap, ◌∙◌, arith}
use Rattle.std.proofs.lemmas.List.{map-append}
use Rattle.execution.specs.InPool.{waiting_in}
use Rattle.execution.specs.Steps.{starts_of}
use Rattle.execution.specs.Taking.{step_shown, steps_shown}
use Rattle.execution.specs.declared.steps.Step.{Step}
use Rattle.execution.proofs.Taken.{starts_done, starts_more}
use Rattle.execution.proofs.steps.add_starts.Goals as goal

pub returns-in_default : goal.returns-in_default
returns-in_default c = λ p.
    starts_done p c.args.moment c.args.most c.loop-place.place c.args.queue.now.waiting (steps_shown c.loop-place.steps.items)
    (steps_shown c.args.steps.now.items ++ starts_of c.args.most c.args.moment (map (waiting_in p) c.args.queue.now.waiting))
    c.in_default.ensures (c.loop-place.invariant.steps p)

pub loop-place-preserved : goal.loop-place-preserved
loop-place-preserved c =
    let old : List Step = c.loop-place.steps.items in
    let s : Step = c.in_ok-step.step in
    let pushed : c.push.new.self.items ≡ old ++ s ∷ [] = search rules in
    record {
      steps = λ p. starts_more p c.args.moment c.args.most c.loop-place.place c.args.queue.now.waiting c.in-Some.waiting.now
          (steps_shown old) (steps_shown c.push.new.self.items)
          (steps_shown c.args.steps.now.items ++ starts_of c.args.most c.args.moment (map (waiting_in p) c.args.queue.now.waiting))
          (step_shown s) c.in-Some.ensures c.loop-place-test.true (c.in_ok-step.ensures p)
          (ap (map step_shown) pushed ∙ map-append step_shown old (s ∷ [])) (c.loop-place.invariant.steps p);
      few = let less = c.loop-place-test.true in omega (arith, less);
    }
