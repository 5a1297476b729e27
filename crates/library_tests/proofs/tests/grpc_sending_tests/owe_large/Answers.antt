use Rattle.library_tests.proofs.tests.grpc_sending_tests.owe_large.Goals as goal

pub returns-in_err-owe_message : goal.returns-in_err-owe_message
returns-in_err-owe_message c = c.owe_message.ensures

pub returns : goal.returns
returns c = c.owe_block.ensures
