use Rattle.std.proofs.Common.{sym, subst, ◌∙◌}
use Rattle.reapi_messages.specs.Batches.{update_blob_request_of}
use Rattle.cas_service.specs.Entries.{Refuses, entries_in, entries_left, head_shown, refusal_of}
use Rattle.cas_service.specs.Shown.{answer_in, answer_or_refusal}
use Rattle.cas_service.proofs.EachEntry.{fails_as}
use Rattle.cas_service.proofs.Requested.{answered_is, refused, taken}
use Rattle.cas_service.proofs.update.answer_request.Goals as goal

pub returns-in-Ok : goal.returns-in-Ok
returns-in-Ok c =
    let answered = answered_is c.args.own.now c.args.quota c.args.message.now in
    let read = taken update_blob_request_of (answer_or_refusal c.args.quota) c.args.own.now c.args.message.now 5
    (head_shown c.in_ok-head.head) c.in_ok-head.ensures c.in-Ok.function (sym c.in-Ok.ensures) in
    rw (answered ∙ read) c.answer_all.ensures

pub returns-in-Err : goal.returns-in-Err
returns-in-Err c =
    let answered = answered_is c.args.own.now c.args.quota c.args.message.now in
    let read = refused update_blob_request_of (answer_or_refusal c.args.quota) c.args.own.now c.args.message.now 5
    (head_shown c.in_ok-head.head) c.in_ok-head.ensures c.in-Err.refusal (sym c.in-Err.ensures) in
    let refuses = subst (λ r. Refuses c.refused_before.result (refusal_of (entries_left update_blob_request_of r) c.in-Err.refusal))
    c.new-reader.ensures c.refused_before.ensures in
    fails_as c.refused_before.result (refusal_of (entries_in update_blob_request_of c.args.message.now) c.in-Err.refusal)
    (answer_in c.args.own.now c.args.quota c.args.message.now) refuses (answered ∙ read)
