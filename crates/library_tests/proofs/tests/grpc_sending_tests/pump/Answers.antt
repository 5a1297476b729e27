use Rattle.library_tests.proofs.tests.grpc_sending_tests.pump.Goals as goal

pub returns : goal.returns
returns c = λ texts. c.pump.ensures.fit texts (c.requires texts)
