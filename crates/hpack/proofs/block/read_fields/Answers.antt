use Rattle.std.proofs.Common.{◌≡◌, ◌∙◌, ◌<◌, ◌+◌, length, arith, sym, ap, rules}
use Rattle.std.proofs.lemmas.Bool.Decides.{nat_tests}
use Rattle.hpack.specs.Header.{Header, size_of}
use Rattle.hpack.specs.FieldLists.{header_in, headers_in, text_behind}
use Rattle.hpack.specs.Block.{fields_of, list_limit}
use Rattle.hpack.proofs.FieldLists.{headers_push, total_push, length_behind, slice_behind}
use Rattle.hpack.proofs.Steps.{field_shrinks, fields_push, fields_over, fields_fail, fields_done}
use Rattle.hpack.proofs.block.read_fields.Goals as goal

pub returns-in_err-field_lengths : goal.returns-in_err-field_lengths
returns-in_err-field_lengths c =
    let some : 0 < length c.fields.left.now = grind (arith, nat_tests, c.fields-test.true, c.is_empty.ensures) in
    let f = fields_fail (headers_in c.fields.lengths.items c.fields.text.items) c.fields.room c.fields.table c.fields.left.now
    c.in_err-field_lengths.field-0.0 (fields_of list_limit c.args.table.now c.args.bytes.now) some c.in_err-field_lengths.ensures.field
    c.fields.invariant.read in
    search rules

pub returns-in_default : goal.returns-in_default
returns-in_default c =
    let some : 0 < length c.fields.left.now = grind (arith, nat_tests, c.fields-test.true, c.is_empty.ensures) in
    let h : Header = header_in c.in_ok-field_lengths.field_lengths (text_behind c.fields.text.items c.read_field.new.out.items) in
    let is : c.split-field.result.0 ≡ h = c.split-field.ensures.field
    ∙ ap (header_in c.in_ok-field_lengths.field_lengths)
    (slice_behind c.fields.text.items c.read_field.new.out.items _ _
    (c.len-before.ensures ∙ c.fields.text.ok.0) c.deref.ensures.value) in
    let large : c.fields.room < size_of h = omega (arith, c.in_default.ensures, ap size_of is) in
    sym c.fields.invariant.read ∙ fields_over (headers_in c.fields.lengths.items c.fields.text.items) c.fields.room c.fields.table
    c.read_field.new.table c.fields.left.now c.in_ok-field_lengths.rest.now h some c.in_ok-field_lengths.ensures.field large

pub fields-smaller : goal.fields-smaller
fields-smaller c = field_shrinks c.fields.table c.fields.left.now (
  header_in c.in_ok-field_lengths.field_lengths
      (text_behind c.fields.text.items c.read_field.new.out.items),
  c.read_field.new.table,
  c.in_ok-field_lengths.rest.now,
)
    c.in_ok-field_lengths.ensures.field

pub fields-preserved : goal.fields-preserved
fields-preserved c =
    let some : 0 < length c.fields.left.now = grind (arith, nat_tests, c.fields-test.true, c.is_empty.ensures) in
    let before = c.fields.text.items in
    let text = c.read_field.new.out.items in
    let one = c.in_ok-field_lengths.field_lengths in
    let added = c.in_ok-field_lengths.ensures in
    let h : Header = header_in one (text_behind before text) in
    let is : c.split-field.result.0 ≡ h = c.split-field.ensures.field
    ∙ ap (header_in c.in_ok-field_lengths.field_lengths)
    (slice_behind c.fields.text.items c.read_field.new.out.items _ _
    (c.len-before.ensures ∙ c.fields.text.ok.0) c.deref.ensures.value) in
    let size = ap size_of is in
    let fits = c.in-Some.ensures in
    let read = fields_push (headers_in c.fields.lengths.items before) c.fields.room c.in-Some.after c.fields.table c.read_field.new.table
    c.fields.left.now c.in_ok-field_lengths.rest.now h some added.field (omega (arith, fits, size)) (omega (arith, fits, size)) in
    let pushed = headers_push c.fields.lengths.items before text one c.fields.invariant.whole added.front in
    let total = total_push c.fields.lengths.items one in
    let longer : length text ≡ length before + length (text_behind before text) = length_behind before text added.front in
    record {
      read = rw (c.in_ok-push.ensures.items, pushed) (sym read ∙ c.fields.invariant.read);
      whole = rw c.in_ok-push.ensures.items (omega (arith, total, longer, added.whole, c.fields.invariant.whole));
    }

pub returns : goal.returns
returns c =
    let none : length c.fields.left.now ≡ 0 = grind (arith, nat_tests, c.fields-test.false, c.is_empty.ensures) in
    rw c.new.ensures (sym c.fields.invariant.read
    ∙ fields_done (headers_in c.fields.lengths.items c.fields.text.items) c.fields.room c.fields.table c.fields.left.now none)
