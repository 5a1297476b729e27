use Rattle.std.proofs.Common.{◌≡◌, Some, rules}
use Rattle.std.specs.Map.{lookup}
use Rattle.digest.specs.Naming.{same_digest}
use Rattle.actions.proofs.Steps.{kept_before}
use Rattle.actions.proofs.kept_nodes.kept_of.Goals as goal

pub returns-in-Some-Some : goal.returns-in-Some-Some
returns-in-Some-Some c = λ look kept.
    let found : lookup (same_digest c.args.digest.now) c.args.kept.now.entries ≡ Some (Some c.in-Some-Some.taken) = search rules in
    kept_before look c.args.kept.now.entries c.args.digest.now c.in-Some-Some.taken kept found
