use Rattle.library_tests.proofs.Rights.{second_left, last_left}
use Rattle.library_tests.proofs.one_digest.both_stand.Goals as goal

pub is_given_back-requires-2 : goal.is_given_back-requires-2
is_given_back-requires-2 c =
    second_left c.new-pool.result c.hold_beside.new.pool c.hold_beside-2.new.pool c.hold_beside-3.new.pool c.is_given_back.new.pool
    c.in_ok-first.first.1 c.in_ok-second.second.1 c.in_ok-again.again.1
    c.in_ok-first.ensures c.in_ok-second.ensures c.in_ok-again.ensures c.is_given_back.ensures

pub is_given_back-requires-3 : goal.is_given_back-requires-3
is_given_back-requires-3 c =
    last_left c.new-pool.result c.hold_beside.new.pool c.hold_beside-2.new.pool c.hold_beside-3.new.pool c.is_given_back.new.pool
    c.is_given_back-2.new.pool c.in_ok-first.first.1 c.in_ok-second.second.1 c.in_ok-again.again.1
    c.in_ok-first.ensures c.in_ok-second.ensures c.in_ok-again.ensures c.is_given_back.ensures c.is_given_back-2.ensures
