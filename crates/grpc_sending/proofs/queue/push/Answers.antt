use Rattle.grpc_sending.proofs.Sorted.{pushed_here, takes_here, made_pushed, made_takes, made_sorted}
use Rattle.grpc_sending.proofs.queue.push.Goals as goal

pub returns-in-Ok-clause-ok : goal.returns-in-Ok-clause-ok
returns-in-Ok-clause-ok c = pushed_here c.push_at.result c.args.stream c.args.queues.now.items c.deref.result.now c.push_at.new.queues.items
    c.in-Ok.place c.args.piece c.deref.ensures.value c.in-Ok.ensures.found c.push_at.ensures.ok

pub returns-in-Ok-clause-sources : goal.returns-in-Ok-clause-sources
returns-in-Ok-clause-sources c = takes_here c.push_at.result c.args.stream c.args.queues.now.items c.deref.result.now
    c.push_at.new.queues.items c.in-Ok.place c.args.piece c.deref.ensures.value c.in-Ok.ensures.found c.push_at.ensures.ok

pub returns-in_ok-insert-in-Err-clause-ok : goal.returns-in_ok-insert-in-Err-clause-ok
returns-in_ok-insert-in-Err-clause-ok c = made_pushed c.args.stream c.in-Err.place c.args.piece c.args.queues.now.items c.deref.result.now
    c.insert.new.self.items c.new-pieces.result c.push.new.self
    (record {
      same = c.deref.ensures.value;
      gap = c.in-Err.ensures.absent;
      none = c.new-pieces.ensures;
      pieces =
          c.in_ok-push-in-Err.ensures.ok;
      new = c.in_ok-insert-in-Err.ensures.items;
    })

pub returns-in_ok-insert-in-Err-clause-sources : goal.returns-in_ok-insert-in-Err-clause-sources
returns-in_ok-insert-in-Err-clause-sources c =
    made_takes c.args.stream c.in-Err.place c.args.piece c.args.queues.now.items c.deref.result.now c.insert.new.self.items
    c.new-pieces.result c.push.new.self
    (record {
      same = c.deref.ensures.value;
      gap = c.in-Err.ensures.absent;
      none = c.new-pieces.ensures;
      pieces =
          c.in_ok-push-in-Err.ensures.ok;
      new = c.in_ok-insert-in-Err.ensures.items;
    })

pub returns-in_ok-insert-in-Err-clause-sorted : goal.returns-in_ok-insert-in-Err-clause-sorted
returns-in_ok-insert-in-Err-clause-sorted c = made_sorted c.args.stream c.in-Err.place c.args.piece c.args.queues.now.items
    c.deref.result.now c.insert.new.self.items c.new-pieces.result c.push.new.self c.requires.sorted
    (record {
      same = c.deref.ensures.value;
      gap = c.in-Err.ensures.absent;
      none = c.new-pieces.ensures;
      pieces =
          c.in_ok-push-in-Err.ensures.ok;
      new = c.in_ok-insert-in-Err.ensures.items;
    })
