use Rattle.std.proofs.Common.{arith}
use Rattle.instance_limits.specs.Shown.{limits_value}
use Rattle.instance_limits.proofs.Good.{are_good}
use Rattle.quota_evict.proofs.Limits.{nothing_within}
use Rattle.instance_core.proofs.Readying.{none_in_order, none_whole}
use Rattle.instance_core.proofs.instance.Instance.new.Goals as goal

pub returns-clause-within : goal.returns-clause-within
returns-clause-within c = λ p. record {
  quota = c.requires.quota;
  limits = are_good c.args.limits;
  texts = rw c.in_ok-view.ensures (nothing_within (limits_value c.args.limits).blobs c.args.quota);
  uploads = rw c.new-5.ensures (record { bytes = omega arith; count = omega arith });
  results = rw c.in_ok-results.ensures (record { few = omega arith; short = omega arith });
  slots = c.requires.slots;
  jobs = rw c.in_ok-new.ensures none_in_order;
  running = rw c.in_ok-new.ensures (omega arith);
  whole = rw c.in_ok-new.ensures none_whole;
  told = rw c.in_ok-new.ensures tt;
  calls = c.in_ok-calls.ensures.calls.once;
  messages = c.in_ok-calls.ensures.calls.messages;
  parent = tt;
}
