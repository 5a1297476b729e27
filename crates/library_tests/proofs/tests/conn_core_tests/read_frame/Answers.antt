use Rattle.library_tests.proofs.tests.conn_core_tests.read_frame.Goals as goal

pub returns : goal.returns
returns c = λ texts. c.read_frame.ensures.fit texts (c.requires texts)
