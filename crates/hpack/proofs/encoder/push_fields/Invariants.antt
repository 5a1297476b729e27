use Rattle.std.proofs.Common.{◌≡◌, ◌++◌, map, drop}
use Rattle.std.specs.List.{flat_map}
use Rattle.hpack.specs.Encoding.{field_text}
use Rattle.hpack.specs.Shown.{field_shown}
use Rattle.hpack.proofs.encoder.push_fields.Given as goal

abbrev pub invariant-loop-field : goal.invariant-loop-field
invariant-loop-field l = l.out.items ++ flat_map field_text (map field_shown (drop l.field-index l.fields)) ≡ l.fn.out.items
    ++ flat_map field_text (map field_shown l.fields)
