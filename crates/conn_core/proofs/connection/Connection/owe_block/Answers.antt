use Rattle.std.proofs.Common.{arith, length, ap, sym}
use Rattle.grpc_sending.specs.Owed.{Headed}
use Rattle.std.proofs.lemmas.Bool.{true≢false}
use Rattle.conn_core.proofs.Keeps.{item_by}
use Rattle.conn_core.proofs.Looks.{for_each, for_one, fit_by}
use Rattle.conn_core.proofs.connection.Connection.owe_block.Goals as goal

pub invariant_of-self : goal.invariant_of-self
invariant_of-self c = (
  λ alive. omega (arith, ap length c.owe_block.ensures.pending, c.self.invariant.0 alive),
  λ no. absurd
      (true≢false (sym no)),
  c.self.invariant.2,
)

pub returns-clause-stands : goal.returns-clause-stands
returns-clause-stands c = for_each _ c.owe_block.result
    (λ texts. item_by texts c.owe_block.result (record {
      reader = c.self.inside.reader;
      streams = c.self.inside.streams;
      sending = c.self.inside.sender;
      calls = c.self.inside.calls.items;
      due = c.self.inside.due.items;
      ended = c.self.inside.ended;
      reset_count = c.self.inside.reset_count;
    }) c.args.self.now
    c.owe_block.new.self c.args.stream (Headed c.args.block) c.self.view_is c.owe_block.ensures.none
    (for_one _ c.owe_block.result c.owe_block.ensures.ok texts))

pub returns-clause-fit : goal.returns-clause-fit
returns-clause-fit c = fit_by (record {
  reader = c.self.inside.reader;
  streams = c.self.inside.streams;
  sending = c.self.inside.sender;
  calls = c.self.inside.calls.items;
  due = c.self.inside.due.items;
  ended = c.self.inside.ended;
  reset_count =
      c.self.inside.reset_count;
}) c.args.self.now c.owe_block.new.self.queues c.self.view_is c.owe_block.ensures.fit
