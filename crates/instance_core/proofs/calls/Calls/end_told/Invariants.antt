use Rattle.std.proofs.Common.{◌≡◌, length}
use Rattle.execution.specs.Taking.{steps_shown}
use Rattle.instance_core.specs.Calls.{AreInCourse}
use Rattle.instance_core.specs.Watching.{calls_after_steps}
use Rattle.instance_core.proofs.calls.Calls.end_told.Given as goal

-- the steps that are left lead from these calls to where all steps lead
abbrev pub invariant-loop-left : goal.invariant-loop-left
invariant-loop-left l = record {
  leads : calls_after_steps (steps_shown l.left) l.self ≡ calls_after_steps (steps_shown l.steps) l.fn.self;
  calls : AreInCourse l.self;
}

abbrev pub decreases-loop-left : goal.decreases-loop-left
decreases-loop-left l = length l.left
