use Rattle.std.proofs.lemmas.Result.{IfOk-weaker}
use Rattle.tool_programs.proofs.replay_run.run.Goals as goal

pub take_all-requires-clause-begun : goal.take_all-requires-clause-begun
take_all-requires-clause-begun c = (c.args.configs.now, c.in_ok-begun.ensures)

pub returns-clause-alone : goal.returns-clause-alone
returns-clause-alone c =
    IfOk-weaker c.outputs.result _ _ (λ outputs each. each c.args.configs.now c.args.events
    (c.in_ok-ran.ensures c.args.configs.now c.in_ok-begun.ensures)) c.outputs.ensures.alone

pub returns-clause-count : goal.returns-clause-count
returns-clause-count c =
    IfOk-weaker c.outputs.result _ _ (λ outputs each. each c.args.configs.now c.args.events
    (c.in_ok-ran.ensures c.args.configs.now c.in_ok-begun.ensures)) c.outputs.ensures.count

pub returns-clause-strays : goal.returns-clause-strays
returns-clause-strays c =
    IfOk-weaker c.outputs.result _ _ (λ outputs each. each c.args.configs.now c.args.events
    (c.in_ok-ran.ensures c.args.configs.now c.in_ok-begun.ensures)) c.outputs.ensures.strays
