use Rattle.std.proofs.Common.{◌≡◌}
use Rattle.std.specs.List.{list_any}
use Rattle.grpc_calls.specs.Requests.{is_grpc_type}
use Rattle.grpc_calls.proofs.request.has_grpc_type.Given as goal

abbrev pub invariant-fields : goal.invariant-fields
invariant-fields l =
    (list_any is_grpc_type l.left ≡ list_any is_grpc_type l.headers)
    × (goal.iterator-fields).can_next l.left × (goal.iterator-fields).is_finite l.left
