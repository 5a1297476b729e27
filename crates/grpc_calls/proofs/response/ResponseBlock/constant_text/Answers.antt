use Rattle.std.proofs.Common.{ap, sym, ◌∙◌}
use Rattle.std.specs.Fmt.{digits}
use Rattle.hpack.specs.Integer.{integer_text, groups, groups_in}
use Rattle.hpack.specs.StaticTable.{static_table, name_index}
use Rattle.grpc_calls.specs.declared.response.Status.{Status}
use Rattle.grpc_calls.specs.declared.response.ResponseBlock.TheVariants.{Trailers}
use Rattle.grpc_calls.specs.Responses.{constant_text}
use Rattle.grpc_calls.proofs.response.ResponseBlock.constant_text.Goals as goal

-- src/response.rt:56:5
pub returns-in-Head : goal.returns-in-Head
unfolding digits name_index static_table integer_text groups groups_in
returns-in-Head c = sym (ap constant_text c.in-Head.is)

-- src/response.rt:56:5
pub returns-in-Success : goal.returns-in-Success
unfolding digits name_index static_table integer_text groups groups_in
returns-in-Success c =
    sym (ap constant_text (c.in-Trailers.is ∙ ap (λ (s : Status). Trailers s) c.in-Success.is))
