use Rattle.std.proofs.Common.{◌≡◌}
use Rattle.hpack.specs.Header.{value_of}
use Rattle.hpack.proofs.headers.Headers.find.Given as goal

abbrev pub invariant-fields : goal.invariant-fields
invariant-fields l =
    (value_of l.name l.left ≡ value_of l.name l.self)
    × (goal.iterator-fields).can_next l.left × (goal.iterator-fields).is_finite l.left
