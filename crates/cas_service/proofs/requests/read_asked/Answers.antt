use Rattle.std.proofs.Common.{sym, subst}
use Rattle.reapi_messages.specs.Digests.{digest_of}
use Rattle.cas_service.specs.Requests.{digests_sent}
use Rattle.cas_service.specs.Entries.{Refuses, asked_in, entries_in, entries_left, head_shown, refusal_of}
use Rattle.cas_service.proofs.EachEntry.{fails_as}
use Rattle.cas_service.proofs.Requested.{refused, taken}
use Rattle.cas_service.proofs.requests.read_asked.Goals as goal

pub returns-in-Ok-clause-named : goal.returns-in-Ok-clause-named
returns-in-Ok-clause-named c =
    rw (taken digest_of digests_sent c.args.own.now c.args.message.now c.args.function_field
    (head_shown c.in_ok-head.head) c.in_ok-head.ensures c.in-Ok.function (sym c.in-Ok.ensures)) c.read_digests.ensures.named

pub returns-in-Err-clause-named : goal.returns-in-Err-clause-named
returns-in-Err-clause-named c =
    let answered = subst (λ r. Refuses c.refused_before.result (refusal_of (entries_left digest_of r) c.in-Err.refusal))
    c.new-reader.ensures c.refused_before.ensures in
    fails_as c.refused_before.result (refusal_of (entries_in digest_of c.args.message.now) c.in-Err.refusal)
    (asked_in c.args.own.now c.args.function_field c.args.message.now) answered
    (refused digest_of digests_sent c.args.own.now c.args.message.now c.args.function_field
    (head_shown c.in_ok-head.head) c.in_ok-head.ensures c.in-Err.refusal (sym c.in-Err.ensures))
