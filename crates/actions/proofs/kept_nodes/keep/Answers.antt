use Rattle.std.proofs.Common.{None, Some}
use Rattle.actions.proofs.Steps.{keeps_more}
use Rattle.actions.proofs.kept_nodes.keep.Goals as goal

pub returns-then-contains_key : goal.returns-then-contains_key
returns-then-contains_key c = λ look kept is.
    keeps_more look c.args.kept.now.entries c.insert.new.self.entries c.args.digest.now (Some c.args.taken) kept is
    c.in_ok-insert.ensures.updates.0

pub returns : goal.returns
returns c = λ look kept is.
    keeps_more look c.args.kept.now.entries c.insert-2.new.self.entries c.args.digest.now None kept tt c.in_ok-insert-2.ensures.updates.0
