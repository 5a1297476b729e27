use Rattle.std.proofs.Common.{subst, sym}
use Rattle.run_calls.specs.Values.{place_shown}
use Rattle.runner.specs.Steps.{Goes}
use Rattle.runner.specs.declared.stage.Step.TheVariants as steps
use Rattle.runner.proofs.Collect.{goes_nowhere}
use Rattle.runner.proofs.turn.step_if_ready.Goals as goal

pub returns-then-not-is_ready-clause-goes : goal.returns-then-not-is_ready-clause-goes
returns-then-not-is_ready-clause-goes g c =
    let programs = g.P.Programs.asked c.args.programs.now in
    let text = g.T.Texts.text_of c.args.texts.now in
    let before = g.F.Folder.asked c.args.folder.now in
    subst (λ asked. Goes text (place_shown c.args.place.now) c.args.stage
    (steps.Goes c.args.stage 4294967295) before asked programs programs)
    (sym c.is_ready.ensures.same)
    (goes_nowhere text (place_shown c.args.place.now) c.args.stage 4294967295 before programs)
