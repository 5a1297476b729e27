use Rattle.std.proofs.Common.{◌≡◌, ◌+◌, ◌<◌, ◌^◌, length}
use Rattle.std.specs.Prelude.{take_while}
use Rattle.http2_streams.specs.Request.{is_pseudo_field}
use Rattle.http2_streams.proofs.request.count_of_leading_pseudo.Given as goal

abbrev pub invariant-fields : goal.invariant-fields
invariant-fields l =
    (l.count + length (take_while is_pseudo_field l.left) ≡ length (take_while is_pseudo_field l.fields))
    × (l.count + length l.left < 2 ^ 64)
    × (goal.iterator-fields).can_next l.left × (goal.iterator-fields).is_finite l.left
