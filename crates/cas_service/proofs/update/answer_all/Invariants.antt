use Rattle.std.proofs.Common.{◌≡◌, ◌≤◌}
use Rattle.protobuf_wire.specs.Reading.{count_left}
use Rattle.reapi_messages.specs.Batches.{update_blob_request_of}
use Rattle.cas_service.specs.Entries.{entries_left}
use Rattle.cas_service.specs.Shown.{answered_shown, answers_in}
use Rattle.cas_service.proofs.Storing.{blobs_behind}
use Rattle.cas_service.proofs.update.answer_all.Given as goal

abbrev pub invariant-blobs : goal.invariant-blobs
invariant-blobs l =
    (blobs_behind l.function l.quota l.bytes (answered_shown l.answered) (entries_left update_blob_request_of l.reader)
    ≡ answers_in l.function l.quota l.message)
    × (l.bytes ≤ 4000000)

abbrev pub decreases-blobs : goal.decreases-blobs
decreases-blobs l = count_left l.reader
