use Rattle.run_programs.proofs.Known.{changed_stay}
use Rattle.run_programs.proofs.programs.Table.kill.Goals as goal

pub returns-then-has_sessions-clause-others : goal.returns-then-has_sessions-clause-others
returns-then-has_sessions-clause-others g c = changed_stay c.args.run c.deref.result.now
    c.args.self.now.started.items c.in-Ok.at c.index_mut.result.now c.end.new.self
    c.deref.ensures.value c.in-Ok.ensures.own c.index_mut.ensures.value c.end.ensures.run

pub returns-else-has_sessions-clause-others : goal.returns-else-has_sessions-clause-others
returns-else-has_sessions-clause-others g c = changed_stay c.args.run c.deref.result.now
    c.args.self.now.started.items c.in-Ok.at c.index_mut-else-has_sessions.result.now
    c.kill.new.self c.deref.ensures.value c.in-Ok.ensures.own
    c.index_mut-else-has_sessions.ensures.value c.kill.ensures.run
