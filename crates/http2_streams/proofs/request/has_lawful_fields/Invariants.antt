use Rattle.std.proofs.Common.{◌≡◌}
use Rattle.std.specs.List.{list_all}
use Rattle.http2_streams.specs.Request.{is_lawful}
use Rattle.http2_streams.proofs.request.has_lawful_fields.Given as goal

abbrev pub invariant-fields : goal.invariant-fields
invariant-fields l =
    (list_all is_lawful l.left ≡ list_all is_lawful l.fields)
    × (goal.iterator-fields).can_next l.left × (goal.iterator-fields).is_finite l.left
