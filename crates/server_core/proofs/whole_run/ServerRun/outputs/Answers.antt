use Rattle.std.proofs.Common.{sym, subst, refl}
use Rattle.server_core.specs.Families.{family_in, family_events}
use Rattle.server_events.specs.Configs.{parent_of}
use Rattle.server_core.specs.Runs.{output_of_run, run_of_family}
use Rattle.server_core.specs.RunSoFar.{HasPassed, HasTaken, RunValue}
use Rattle.server_core.proofs.Ends.{parent_given}
use Rattle.server_core.proofs.Runs.{state_within}
use Rattle.server_core.proofs.whole_run.ServerRun.outputs.Goals as goal

pub returns-clause-may : goal.returns-clause-may
returns-clause-may c = λ configs events h i config is.
    let v : RunValue = record {
      server = c.self.inside.server;
      records = c.self.inside.records.items;
      strays = c.self.inside.strays.items;
      count = c.self.inside.count;
    } in
    let here : HasPassed configs events v = subst (HasPassed configs events) (sym c.self.view_is) h in
    let own = here.own i config is in
    record {
      output = output_of_run own.came.run.own;
      there = c.in_ok-instances.ensures.outputs i own.came.run.own own.there.own.noted;
      runs = record {
        came = own.came;
        gives = refl;
        parent_gives = parent_given c.self.inside.server.instances c.self.inside.records.items c.in_ok-instances.instances.items
            (parent_of configs config) own.came.run.parent own.there.beside c.in_ok-instances.ensures.outputs;
      };
    }

pub returns-clause-alone : goal.returns-clause-alone
returns-clause-alone c = λ configs events h i config is.
    let v : RunValue = record {
      server = c.self.inside.server;
      records = c.self.inside.records.items;
      strays = c.self.inside.strays.items;
      count = c.self.inside.count;
    } in
    let here : HasTaken configs events v = subst (HasTaken configs events) (sym c.self.view_is) h in
    c.in_ok-instances.ensures.outputs i (run_of_family (family_in configs config) (family_events i (parent_of configs config) events)).own
    (here.alone i config is).own.noted

pub returns-clause-within : goal.returns-clause-within
returns-clause-within c = λ configs events h i config is.
    let v : RunValue = record {
      server = c.self.inside.server;
      records = c.self.inside.records.items;
      strays = c.self.inside.strays.items;
      count = c.self.inside.count;
    } in
    let here : HasTaken configs events v = subst (HasTaken configs events) (sym c.self.view_is) h in
    state_within c.self.inside.server.instances i
    (run_of_family (family_in configs config) (family_events i (parent_of configs config) events)).own.lone c.self.invariant.within
    (here.alone i config is).own.stands
