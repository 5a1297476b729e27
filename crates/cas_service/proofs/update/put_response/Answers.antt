use Rattle.std.proofs.Common.{◌≡◌, ℕ, List, length, sym, ap, ◌∙◌}
use Rattle.protobuf_wire.proofs.Written.{payload_behind_head}
use Rattle.reapi_messages.specs.Writing.{WriterValue, followed_by, followed_by_records, message_field, payload_head}
use Rattle.reapi_messages.specs.Parts.{text_for}
use Rattle.reapi_messages.specs.Batches.{update_blob_response_records}
use Rattle.cas_service.specs.Shown.{response_shown}
use Rattle.cas_service.proofs.update.put_response.Goals as goal

-- a payload behind its head, whose length was measured
behind : (before head : WriterValue) (count : ℕ) (text : List ℕ) → count ≡ length text → head ≡ followed_by before (payload_head 1 count)
    → followed_by_records before (message_field 1 text) ≡ followed_by head text
behind before head count text measured is =
    let same : followed_by before (payload_head 1 (length text)) ≡ head =
    ap (λ n. followed_by before (payload_head 1 n)) (sym measured) ∙ sym is in
    payload_behind_head before 1 text ∙ ap (λ (w : WriterValue). followed_by w text) same

pub returns : goal.returns
returns c =
    let text = text_for update_blob_response_records (response_shown c.args.sent.now c.args.status.now) in
    rw (behind c.args.reply.now c.payload_head.new.self c.in_ok-length.length text c.in_ok-length.ensures c.in_ok-payload_head.ensures.ok)
    c.write_response.ensures
