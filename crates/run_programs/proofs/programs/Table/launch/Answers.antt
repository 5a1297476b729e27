use Rattle.run_programs.proofs.Known.{one_more}
use Rattle.run_programs.proofs.programs.Table.launch.Goals as goal

pub returns-clause-known : goal.returns-clause-known
returns-clause-known g c = one_more c.args.run c.args.started_as c.args.self.now.started.items
    c.make_room.new.started.items c.push_reserved.new.self.items c.in_ok-started.started
    c.in_ok-make_room.ensures.same c.push_reserved.ensures.items c.in_ok-started.ensures.run
    c.in_ok-started.ensures.known
