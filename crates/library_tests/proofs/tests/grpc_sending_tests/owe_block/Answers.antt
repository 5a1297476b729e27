use Rattle.library_tests.proofs.tests.grpc_sending_tests.owe_block.Goals as goal

pub returns : goal.returns
returns c = λ texts. c.owe_block.ensures.fit texts (c.requires texts)
