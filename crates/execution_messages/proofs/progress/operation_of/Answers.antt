use Rattle.std.proofs.Common.{◌≡◌, List, ℕ, Bool, Option, Some, IfOk, option_map, ap, subst, ◌∙◌}
use Rattle.protobuf_wire.specs.Parts.{text_for}
use Rattle.reapi_messages.specs.Statuses.{AnyValue, any_shown}
use Rattle.execution_messages.specs.Operations.{operation_records}
use Rattle.execution_messages.specs.Progress.{operation_of, metadata_url, response_any}
use Rattle.execution_messages.proofs.progress.operation_of.Goals as goal

abbrev written : List ℕ → Bool → AnyValue → Option AnyValue → List ℕ
written name done metadata response = text_for operation_records
    (record { name = name; metadata = Some metadata; done = done; response = response })

same : (name metadata : List ℕ) (done : Bool) (text : Option (List ℕ)) (m : AnyValue) (r : Option AnyValue) →
    m ≡ record { type_url = metadata_url; value = metadata } → r ≡ response_any text →
    written name done m r ≡ operation_of name metadata done text
same name metadata done text m r e f =
    ap (λ (x : AnyValue). written name done x r) e ∙ ap (written name done (record { type_url = metadata_url; value = metadata })) f

pub returns : goal.returns
returns c =
    let text : Option (List ℕ) = option_map (λ r. r.now) c.args.response in
    let e = same c.args.name.now c.args.metadata.now c.args.done text (any_shown c.any.result)
    (option_map any_shown c.response_any.result) c.any.ensures c.response_any.ensures in
    subst (λ (x : List ℕ). IfOk c.encode.result (λ t. t.items ≡ x)) e c.encode.ensures
