use Rattle.run_programs.proofs.Known.{changed_stay}
use Rattle.run_programs.proofs.programs.Table.length.Goals as goal

pub returns-in_err-length-clause-others : goal.returns-in_err-length-clause-others
returns-in_err-length-clause-others g c = changed_stay c.args.run
    c.deref.result.now c.args.self.now.started.items c.in_ok-at.at c.index_mut.result.now
    c.length.new.self c.deref.ensures.value c.in_ok-at.ensures.own c.index_mut.ensures.value
    c.length.ensures.run

pub returns-in_err-check_room-clause-others : goal.returns-in_err-check_room-clause-others
returns-in_err-check_room-clause-others g c = changed_stay c.args.run
    c.deref.result.now c.args.self.now.started.items c.in_ok-at.at c.index_mut.result.now
    c.length.new.self c.deref.ensures.value c.in_ok-at.ensures.own c.index_mut.ensures.value
    c.length.ensures.run

pub returns-clause-others : goal.returns-clause-others
returns-clause-others g c = changed_stay c.args.run
    c.deref.result.now c.args.self.now.started.items c.in_ok-at.at c.index_mut.result.now
    c.length.new.self c.deref.ensures.value c.in_ok-at.ensures.own c.index_mut.ensures.value
    c.length.ensures.run
