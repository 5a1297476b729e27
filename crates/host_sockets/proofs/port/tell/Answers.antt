use Rattle.host_sockets.proofs.Told.{all_again, next_passed, no_more, none_told, nothing_yet}
use Rattle.host_sockets.proofs.port.tell.Goals as goal

pub loop-nth-init : goal.loop-nth-init
loop-nth-init g c = (none_told c.args.ports.now, nothing_yet _ c.args.ports.now)

pub loop-nth-preserved : goal.loop-nth-preserved
loop-nth-preserved g c = (
  all_again c.args.ports.now c.loop-nth.ports c.tell_one.new.ports c.loop-nth.invariant.0
      c.tell_one.ensures.stay,
  next_passed c.loop-nth.nth _ c.loop-nth.ports c.tell_one.new.ports c.in-Some.news
      c.in-Some.ensures c.tell_one.ensures.stay c.tell_one.ensures.told c.loop-nth.invariant.1,
)

pub returns-in_default-clause-told : goal.returns-in_default-clause-told
returns-in_default-clause-told g c = no_more c.loop-nth.nth _ c.loop-nth.ports
    c.in_default.ensures c.loop-nth.invariant.1
