use Rattle.std.proofs.lemmas.Result.{err_from_is_err_and}
use Rattle.instance_view.specs.Shown.{holders}
use Rattle.execution.specs.Asking.{execute_asked_shown}
use Rattle.instance_core.specs.Carries.{contents_holders}
use Rattle.instance_core.proofs.Carrying.{own_held}
use Rattle.instance_core.proofs.Executed.{carries_executed, carries_failed}
use Rattle.instance_core.proofs.executions.start_execution.Goals as goal

pub returns-in_err-answer : goal.returns-in_err-answer
returns-in_err-answer c =
    let settings = c.args.settings.now in
    let old = c.args.contents.now in
    let asked = execute_asked_shown c.in_ok-asked.asked in
    let is = rw c.deref.ensures at c.in_ok-asked.ensures in
    let from = err_from_is_err_and c.from_residual-in_err-answer.result c.from_residual-in_err-answer.ensures.1 in
    record {
      carried = rw (from.1, from.2)
          (carries_failed settings c.args.parent.now c.args.message.now c.args.pool.now c.execute.new.pool old c.execute.new.view
          c.execute.new.results c.execute.new.executions asked _
          c.requires.kept c.requires.slots (own_held (contents_holders old) (holders c.args.parent.now) c.args.pool.now c.requires.beside)
          is
          c.in_err-answer.ensures.answer c.in_err-answer.ensures.err c.in_err-answer.ensures.still c.execute.ensures.slots);
    }

pub returns : goal.returns
returns c =
    let settings = c.args.settings.now in
    let old = c.args.contents.now in
    let asked = execute_asked_shown c.in_ok-asked.asked in
    let is = rw c.deref.ensures at c.in_ok-asked.ensures in
    record {
      carried = rw c.execute_answer.ensures
          (carries_executed settings c.args.parent.now c.args.message.now c.args.pool.now c.execute.new.pool old c.execute.new.view
          c.execute.new.results c.execute.new.executions asked c.in_ok-answer.answer
          c.requires.kept c.requires.slots is
          c.in_ok-answer.ensures.answer c.in_ok-answer.ensures.after c.execute.ensures.moves c.execute.ensures.slots
          c.execute.ensures.holders c.execute.ensures.limit);
    }
