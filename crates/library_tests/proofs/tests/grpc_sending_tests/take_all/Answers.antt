use Rattle.std.proofs.Common.{ap}
use Rattle.grpc_sending.specs.StoredSending.{StoredSending}
use Rattle.library_tests.proofs.Fitting.{fit_same}
use Rattle.library_tests.proofs.tests.grpc_sending_tests.take_all.Goals as goal

pub returns : goal.returns
returns c = λ texts. fit_same texts c.args.sender.now.queues c.took.new.self.queues
    (ap (λ (x : StoredSending). x.queues) c.took.ensures.rest) (c.requires texts)
