use Rattle.std.proofs.Common.{refl, []}
use Rattle.serve.proofs.AtFirst.{at_first}
use Rattle.serve.proofs.serving.Serving.new.Goals as goal

pub returns-clause-serving : goal.returns-clause-serving
returns-clause-serving c = record {
  h = [];
  together = record { at_sockets_so = refl; at_runs_so = refl };
  counted = refl;
  parents = record { same = c.in_ok-server.ensures.parents; good = c.in_ok-server.ensures.related };
  all = at_first c.args.configs.now _ c.in_ok-server.ensures.stands;
  moment = refl;
}
