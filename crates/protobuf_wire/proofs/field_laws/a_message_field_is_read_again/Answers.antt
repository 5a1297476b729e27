use Rattle.protobuf_wire.proofs.ReadAgain.{embedded_again, absent_again, repeated_again, sent_again}
use Rattle.protobuf_wire.proofs.field_laws.a_message_field_is_read_again.Goals as goal

pub returns-clause-set : goal.returns-clause-set
returns-clause-set g c = embedded_again g.M.Message.value_of g.M.Message.records_for

pub returns-clause-absent : goal.returns-clause-absent
returns-clause-absent g c = absent_again g.M.Message.value_of g.M.Message.records_for

pub returns-clause-repeated : goal.returns-clause-repeated
returns-clause-repeated g c = repeated_again g.M.Message.value_of g.M.Message.records_for

pub returns-clause-sent : goal.returns-clause-sent
returns-clause-sent g c = sent_again g.M.Message.value_of
