use Rattle.std.proofs.Common.{◌+◌, ◌<◌, length, sym, ◌∙◌, arith}
use Rattle.reapi_messages.specs.Batches.{update_blob_request_of, update_blob_request_shown}
use Rattle.rpc.specs.declared.refusal.Refusal.TheVariants.{BatchTooLarge}
use Rattle.cas_service.specs.Entries.{entries_in, entries_left, refusal_of}
use Rattle.cas_service.specs.Shown.{answered_shown, answers_in}
use Rattle.cas_service.proofs.EachEntry.{fails_as, reads_some}
use Rattle.cas_service.proofs.Storing.{blob_too_large, blobs_first}
use Rattle.cas_service.proofs.update.answer_all.Goals as goal

pub blobs-init : goal.blobs-init
blobs-init c = (
  rw (c.new.ensures, c.new-3.ensures.items, c.new-reader.ensures)
      (blobs_first c.args.function c.args.quota (entries_in update_blob_request_of c.args.message.now)),
  omega arith,
)

pub returns-then-size-bytes : goal.returns-then-size-bytes
returns-then-size-bytes c =
    let before = entries_left update_blob_request_of c.blobs.reader in
    let after = entries_left update_blob_request_of c.next_entry.new.reader in
    let sent = update_blob_request_shown c.in-Some.sent in
    let reads = reads_some update_blob_request_shown c.in_ok-sent.field-0 c.in-Some.sent before after c.in-Some.is
    c.in_ok-sent.ensures.reads in
    let large : 4000000 < c.blobs.bytes + length sent.content = omega (arith, c.if-size-bytes.true, c.blobs.invariant.1) in
    let refused = blob_too_large c.args.function c.args.quota c.blobs.bytes
    (answered_shown c.blobs.answered) sent before after large reads in
    fails_as c.refused_before.result (refusal_of after BatchTooLarge)
    (answers_in c.args.function c.args.quota c.args.message.now) c.refused_before.ensures (sym c.blobs.invariant.0 ∙ refused)
