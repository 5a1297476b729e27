use Rattle.std.proofs.Common.{refl}
use Rattle.serve.proofs.FaultLines.{answer_lines}
use Rattle.serve.proofs.Lending.{asked_told, asked_none}
use Rattle.serve.proofs.asking.ask.Goals as goal

pub returns-in-Some : goal.returns-in-Some
returns-in-Some g c = record {
  serving = λ sockets configs begun at. asked_told configs sockets _ _ _ _ _ _ _ _ _ _ begun c.lend-task.ensures.task
      c.ask-answer.ensures.adds c.in-Some.ensures.gave c.tell.ensures.takes at;
  lines = answer_lines c.args.configs.now c.args.moment c.args.run _ _ _ _ _ _ _ _ c.ask-answer.ensures.fault c.tell.ensures.no_fault
      c.in-Some.ensures.line;
}

pub returns-in-None : goal.returns-in-None
returns-in-None g c = record {
  serving = λ sockets configs begun at. asked_none configs sockets _ _ _ _ _ _ _ begun c.lend-task.ensures.task c.ask-answer.ensures.adds
      c.in-None.ensures.gave at;
  lines = answer_lines c.args.configs.now c.args.moment c.args.run _ _ _ _ _ _ _ _ c.ask-answer.ensures.fault refl c.in-None.ensures.line;
}
