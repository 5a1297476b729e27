use Rattle.std.proofs.Common.{ap}
use Rattle.conn_core.specs.StandsFor.{ConnectionValue}
use Rattle.library_tests.proofs.Fitting.{fit_same}
use Rattle.library_tests.proofs.tests.conn_core_tests.feed.Goals as goal

pub returns : goal.returns
returns c = λ texts. fit_same texts c.args.connection.now.sending.queues c.feed.new.self.sending.queues
    (ap (λ (x : ConnectionValue). x.sending.queues) c.feed.ensures.rest) (c.requires texts)
