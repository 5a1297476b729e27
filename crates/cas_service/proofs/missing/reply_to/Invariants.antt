use Rattle.std.proofs.Common.{◌≡◌, ◌+◌, ◌≤◌, [], length, map}
use Rattle.std.specs.List.{filter}
use Rattle.reapi_messages.specs.Writing.{Text}
use Rattle.instance_view.specs.Sight.{seen_in}
use Rattle.cas_service.specs.Shown.{digest_as_sent, is_unseen}
use Rattle.cas_service.proofs.Replies.{missing_behind}
use Rattle.cas_service.proofs.missing.reply_to.Given as goal

abbrev pub invariant-digests : goal.invariant-digests
invariant-digests l = record {
  same : missing_behind l.reply (map digest_as_sent (filter (is_unseen (seen_in [] l.sight)) l.left))
      ≡ missing_behind (Text []) (map digest_as_sent (filter (is_unseen (seen_in [] l.sight)) l.asked));
  looks : l.work.looks + length l.left ≤ l.fn.work.looks + length l.asked;
  bytes : l.work.bytes ≡ l.fn.work.bytes;
}

abbrev pub decreases-digests : goal.decreases-digests
decreases-digests l = length l.left
