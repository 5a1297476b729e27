use Rattle.std.proofs.Common.{map, refl, ap, ◌∙◌, arith}
use Rattle.protobuf_wire.specs.Writing.{records_text, message_field, followed_by_records}
use Rattle.protobuf_wire.specs.Parts.{text_for, repeated_field}
use Rattle.protobuf_wire.proofs.FieldTexts.{text_append}
use Rattle.protobuf_wire.proofs.Loops.{next_written, all_written}
use Rattle.protobuf_wire.proofs.message.put_repeated.Goals as goal

pub messages-preserved : goal.messages-preserved
messages-preserved g c =
    let shown = g.M.Message.shown in
    let text = text_for g.M.Message.records_for in
    let field = c.args.field in
    let written = c.in_ok-put_message.ensures ∙ ap
    (λ m. followed_by_records c.messages.writer (message_field field (text (shown m)))) c.first-item.is in
    next_written (λ ms. records_text (repeated_field g.M.Message.records_for field (map shown ms)))
    (λ m. records_text (message_field field (text (shown m)))) refl
    (λ m ms. text_append (message_field field (text (shown m))) (repeated_field g.M.Message.records_for field (map shown ms)))
    (followed_by_records c.args.writer.now (repeated_field g.M.Message.records_for field (map shown c.args.messages.now))) c.messages.writer
    c.put_message.new.writer c.messages.left.now c.first-item.result (omega arith) c.messages.invariant written

pub returns : goal.returns
returns g c =
    let shown = g.M.Message.shown in
    let text = text_for g.M.Message.records_for in
    let field = c.args.field in
    all_written (λ ms. records_text (repeated_field g.M.Message.records_for field (map shown ms)))
    (λ m. records_text (message_field field (text (shown m)))) refl
    (λ m ms. text_append (message_field field (text (shown m))) (repeated_field g.M.Message.records_for field (map shown ms)))
    (followed_by_records c.args.writer.now (repeated_field g.M.Message.records_for field (map shown c.args.messages.now))) c.messages.writer
    c.messages.left.now c.in_default.len_below c.messages.invariant
