use Rattle.server_events.proofs.NameLemmas.{IsUtf8-instance_name}
use Rattle.script.proofs.unary.parser.read_instance.Goals as goal

pub returns-in_default-clause-bad : goal.returns-in_default-clause-bad
returns-in_default-clause-bad c = λ _.
    absurd (c.in_default.ensures.cases.0 (IsUtf8-instance_name c.in_ok-name.name.now
    (c.is_instance_name.ensures.exact.0 c.if-not-is_instance_name.false)))
