use Rattle.std.proofs.Common.{◌≡◌}
use Rattle.protobuf_wire.specs.Reading.{record_at, items_left, records_of, count_left}
use Rattle.reapi_messages.specs.Digests.{digest_shown}
use Rattle.input_tree.specs.NodeTexts.{with_left, digest_after}
use Rattle.input_tree.proofs.node_texts.with_digest_text.Given as goal

abbrev pub invariant-records : goal.invariant-records
invariant-records l = with_left digest_after (digest_shown l.digest) (items_left record_at l.reader)
    ≡ with_left digest_after (digest_shown l.fn.digest) (records_of l.text)

abbrev pub decreases-records : goal.decreases-records
decreases-records l = count_left l.reader
