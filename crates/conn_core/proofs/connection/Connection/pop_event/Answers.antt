use Rattle.conn_core.proofs.Keeps.{popped_by}
use Rattle.conn_core.proofs.connection.Connection.pop_event.Goals as goal

pub returns-clause-event : goal.returns-clause-event
returns-clause-event c = λ texts. popped_by texts
    (record {
      reader = c.self.inside.reader;
      streams = c.self.inside.streams;
      sending = c.self.inside.sender;
      calls =
          c.self.inside.calls.items;
      due = c.self.inside.due.items;
      ended = c.self.inside.ended;
      reset_count = c.self.inside.reset_count;
    })
    c.args.self.now c.pop_front.result c.pop_front.new.self.items c.self.view_is c.pop_front.ensures.items c.pop_front.ensures.rest
