use Rattle.std.proofs.Common.{map, sym, ◌∙◌}
use Rattle.protobuf_wire.specs.Shown.{record_shown}
use Rattle.protobuf_wire.proofs.Submessages.{embedded_is_joined, embedded_never, embedded_once}
use Rattle.protobuf_wire.proofs.message.embedded.Goals as goal

pub returns-in-0 : goal.returns-in-0
returns-in-0 g c = embedded_never g.M.Message.value_of c.args.field (map record_shown c.args.records.now)
    (sym c.payload_count.ensures ∙ c.in-0.is)

pub returns-in-1 : goal.returns-in-1
returns-in-1 g c =
    let once = embedded_once g.M.Message.value_of c.args.field (map record_shown c.args.records.now)
    (sym c.payload_count.ensures ∙ c.in-1.is) in
    rw (once, ← c.octets.ensures) c.one_of_text.ensures

pub returns-in_default : goal.returns-in_default
returns-in_default g c = rw (embedded_is_joined g.M.Message.value_of c.args.field (map record_shown c.args.records.now))
    c.one_of_joined.ensures
