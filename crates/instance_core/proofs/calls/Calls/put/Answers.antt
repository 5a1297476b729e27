use Rattle.instance_core.proofs.Entries.{inserted, put_in}
use Rattle.instance_core.proofs.calls.Calls.put.Goals as goal

pub invariant_of-self-2 : goal.invariant_of-self-2
invariant_of-self-2 c = put_in c.args.id c.args.call c.self.inside.by_id.entries _ c.in_ok-insert.ensures.entries c.insert.ensures.unique
    c.requires.short c.self.invariant

pub returns-clause-ok : goal.returns-clause-ok
returns-clause-ok c = rw (c.in_ok-insert.ensures.entries, ← c.self.view_is) (inserted c.args.id c.args.call c.self.inside.by_id.entries)

pub returns-clause-calls : goal.returns-clause-calls
returns-clause-calls c = put_in c.args.id c.args.call c.self.inside.by_id.entries _ c.in_ok-insert.ensures.entries c.insert.ensures.unique
    c.requires.short c.self.invariant
