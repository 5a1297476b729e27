use Rattle.std.proofs.Common.{rules}
use Rattle.system.specs.Processes.{WasIn}
use Rattle.run_shells.proofs.Found.{one_more}
use Rattle.run_shells.proofs.alive.add_if_alive.Goals as goal

pub returns : goal.returns
returns g c = record {
  found = one_more (WasIn g.S.Shells.showed c.args.session) c.args.alive.now.items
      c.push.new.self.items c.args.process (search rules) (search rules) (search rules);
}
