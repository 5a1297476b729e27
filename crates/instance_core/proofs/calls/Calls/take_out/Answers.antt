use Rattle.instance_core.proofs.Entries.{taken_out}
use Rattle.instance_core.proofs.calls.Calls.take_out.Goals as goal

pub invariant_of-self : goal.invariant_of-self
invariant_of-self c = taken_out c.args.id c.self.inside.by_id.entries _ c.shift_remove.ensures.entries c.shift_remove.ensures.unique
    c.self.invariant

pub returns-clause-calls : goal.returns-clause-calls
returns-clause-calls c = taken_out c.args.id c.self.inside.by_id.entries _ c.shift_remove.ensures.entries c.shift_remove.ensures.unique
    c.self.invariant
