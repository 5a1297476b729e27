use Rattle.std.proofs.Common.{◌≡◌, Some, None, is_some, ap, sym, rules}
use Rattle.std.specs.Map.{lookup}
use Rattle.digest.specs.Naming.{same_digest}
use Rattle.execution.proofs.NumberedTexts.{number_back, number_put}
use Rattle.execution.proofs.numbering.give_number.Goals as goal

pub returns-in_default : goal.returns-in_default
returns-in_default c = λ d.
    let none : lookup (same_digest c.args.digest) c.args.numbers.now.entries ≡ None =
    search (rules, c.in_ok-first.ensures.old, c.in_default.is) in
    number_put c.args.numbers.now.entries c.insert.new.self.entries c.args.digest d c.args.number (ap is_some none)
    (c.in_ok-first.ensures.updates.0 d)

pub returns : goal.returns
returns c = λ d.
    let some : lookup (same_digest c.args.digest) c.args.numbers.now.entries ≡ Some c.in-Some.first =
    search (rules, c.in_ok-first.ensures.old, c.in-Some.is) in
    number_back c.args.numbers.now.entries c.insert.new.self.entries c.insert-2.new.self.entries c.args.digest d c.args.number
    c.in-Some.first some (c.in_ok-first.ensures.updates.0 d) (c.in_ok-insert.ensures.updates.0 d)
