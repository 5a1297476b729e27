use Rattle.library_tests.proofs.tests.grpc_sending_tests.owe_message.Goals as goal

pub returns : goal.returns
returns c = λ texts. c.owe_message.ensures.fit texts (c.requires.fit texts)
