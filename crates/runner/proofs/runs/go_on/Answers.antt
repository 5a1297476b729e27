use Rattle.std.proofs.Common.{ap, subst}
use Rattle.std.specs.Prelude.{Some}
use Rattle.runner.specs.declared.stage.Stage.{Stage}
use Rattle.runner.specs.declared.stage.State.TheVariants.{Live}
use Rattle.runner.specs.declared.stage.Step.{Step}
use Rattle.run_calls.specs.Values.{place_shown}
use Rattle.runner.specs.Steps.{Goes}
use Rattle.runner.proofs.Bounds.{exited_few}
use Rattle.runner.proofs.WentOn.{left_over}
use Rattle.runner.proofs.runs.go_on.Goals as goal

pub returns-in-Ok-Goes-clause-becomes : goal.returns-in-Ok-Goes-clause-becomes
returns-in-Ok-Goes-clause-becomes g c = (
  c.in-Ok-Goes.next,
  c.in-Ok-Goes._spent,
  ap (λ (s : Stage). Some (Live s)) c.new.ensures,
  subst (λ (x : Step). Goes (g.T.Texts.text_of c.args.texts.now) (place_shown c.args.place.now) c.args.stage x
      (g.F.Folder.asked c.args.folder.now) (g.F.Folder.asked c.turn.new.folder) (g.P.Programs.asked c.args.programs.now)
      (g.P.Programs.asked c.turn.new.programs)) c.in-Ok-Goes.field-0-is c.in-Ok-Goes.ensures.goes,
)

pub returns-in-Err-clause-becomes : goal.returns-in-Err-clause-becomes
returns-in-Err-clause-becomes g c = (
  c.in-Err.stopped.ending,
  left_over c.in-Err.stopped.ending c.map.result c.map.ensures.cases,
  c.in-Err.ensures.fails,
)

pub returns-in-Ok-Exits-clause-few : goal.returns-in-Ok-Exits-clause-few
returns-in-Ok-Exits-clause-few g c = exited_few _ c.in-Ok-Exits.field-0 c.in-Ok-Exits.exited _ _ _ _ _ _ c.in-Ok-Exits.is
    c.in-Ok-Exits.field-0-is c.turn.ensures.few c.forget.ensures.adds
