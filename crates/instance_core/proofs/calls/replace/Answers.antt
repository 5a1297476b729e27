use Rattle.std.proofs.Common.{◌∙◌}
use Rattle.instance_core.proofs.Entries.{inserted, ok_is}
use Rattle.instance_core.proofs.calls.replace.Goals as goal

pub returns-in-Some-clause-entries : goal.returns-in-Some-clause-entries
returns-in-Some-clause-entries c =
    ok_is c.insert-put.result c.unwrap.result c.unwrap.ensures c.insert-put.ensures.entries
    ∙ inserted c.args.id c.args.call c.args.by_id.now.entries
