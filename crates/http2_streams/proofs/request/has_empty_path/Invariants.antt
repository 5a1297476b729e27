use Rattle.std.proofs.Common.{◌≡◌}
use Rattle.std.specs.List.{list_any}
use Rattle.http2_streams.specs.Request.{is_empty_path}
use Rattle.http2_streams.proofs.request.has_empty_path.Given as goal

abbrev pub invariant-fields : goal.invariant-fields
invariant-fields l =
    (list_any is_empty_path l.left ≡ list_any is_empty_path l.fields)
    × (goal.iterator-fields).can_next l.left × (goal.iterator-fields).is_finite l.left
