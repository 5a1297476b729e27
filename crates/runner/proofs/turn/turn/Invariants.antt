use Rattle.std.proofs.Common.{◌≡◌}
use Rattle.run_calls.specs.Values.{place_shown}
use Rattle.runner.specs.Bounds.{AddsAtMost}
use Rattle.runner.specs.Faults.{StaysOrRises}
use Rattle.runner.specs.Sizes.{IsCounted}
use Rattle.runner.specs.Steps.{Goes}
use Rattle.runner.specs.declared.stage.Step.TheVariants as steps
use Rattle.runner.proofs.turn.turn.Given as goal

abbrev pub invariant-loop : goal.invariant-loop
invariant-loop g l = record {
  goes : Goes (g.T.Texts.text_of l.texts) (place_shown l.place) l.fn.stage (steps.Goes l.reached l.spent) (g.F.Folder.asked l.fn.folder)
      (g.F.Folder.asked l.folder) (g.P.Programs.asked l.fn.programs) (g.P.Programs.asked l.programs);
  few : AddsAtMost l.counter (g.F.Folder.asked l.fn.folder) (g.F.Folder.asked l.folder) (g.P.Programs.asked l.fn.programs)
      (g.P.Programs.asked l.programs);
  counted : IsCounted l.reached;
  folders : g.F.Folder.failures l.folder ≡ g.F.Folder.failures l.fn.folder;
  programs : StaysOrRises (g.P.Programs.failures l.fn.programs) (g.P.Programs.failures l.programs);
}
