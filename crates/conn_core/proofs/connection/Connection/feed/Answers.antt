use Rattle.conn_core.proofs.Keeps.{fed_ok}
use Rattle.conn_core.proofs.Looks.{for_each}
use Rattle.conn_core.proofs.connection.Connection.feed.Goals as goal

pub returns-clause-stands : goal.returns-clause-stands
returns-clause-stands c = for_each _ c.memory_alone.result
    (λ texts. fed_ok texts c.memory_alone.result (record {
      reader = c.self.inside.reader;
      streams = c.self.inside.streams;
      sending = c.self.inside.sender;
      calls = c.self.inside.calls.items;
      due = c.self.inside.due.items;
      ended = c.self.inside.ended;
      reset_count = c.self.inside.reset_count;
    }) c.args.self.now c.feed.result
    c.feed.new.self c.args.piece.items c.self.view_is c.feed.ensures.stands c.feed.ensures.err c.feed.ensures.refused
    c.memory_alone.ensures)
