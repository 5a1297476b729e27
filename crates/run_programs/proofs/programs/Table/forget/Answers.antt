use Rattle.run_programs.proofs.Known.{taken_out_stay}
use Rattle.run_programs.proofs.programs.Table.forget.Goals as goal

pub returns-clause-others : goal.returns-clause-others
returns-clause-others g c = taken_out_stay c.args.run c.deref.result.now
    c.args.self.now.started.items c.remove.new.self.items c.in-Ok.at c.deref.ensures.value
    c.in-Ok.ensures.own c.remove.ensures.items
