use Rattle.std.proofs.Common.{◌-◌}
use Rattle.conn_core.proofs.Keeps.{for_digest}
use Rattle.conn_core.proofs.Looks.{for_each, for_one, fit_same}
use Rattle.conn_core.proofs.connection.Connection.owe_range.Goals as goal

pub returns-clause-stands : goal.returns-clause-stands
returns-clause-stands c = for_each _ c.owe_range.result
    (λ texts. for_digest c.owe_range.result (record {
      reader = c.self.inside.reader;
      streams = c.self.inside.streams;
      sending = c.self.inside.sender;
      calls = c.self.inside.calls.items;
      due = c.self.inside.due.items;
      ended = c.self.inside.ended;
      reset_count = c.self.inside.reset_count;
    }) c.args.self.now
    c.owe_range.new.self c.args.stream (texts c.args.source) c.args.from
    (c.args.until - c.args.from) texts c.self.view_is c.owe_range.ensures.none (for_one _ c.owe_range.result c.owe_range.ensures.ok texts))

pub returns-clause-fit : goal.returns-clause-fit
returns-clause-fit c = λ texts there h. c.owe_range.ensures.fit texts there
    (fit_same (record {
      reader = c.self.inside.reader;
      streams = c.self.inside.streams;
      sending = c.self.inside.sender;
      calls =
          c.self.inside.calls.items;
      due = c.self.inside.due.items;
      ended = c.self.inside.ended;
      reset_count = c.self.inside.reset_count;
    })
    c.args.self.now c.self.view_is texts h)
