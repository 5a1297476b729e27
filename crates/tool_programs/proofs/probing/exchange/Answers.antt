use Rattle.tool_programs.proofs.Steps.{more_so_far, sent_more}
use Rattle.tool_programs.proofs.probing.exchange.Goals.{else-loop-test, then-loop-test+then-is_empty+then-len-request, then-loop-test+else-is_empty+in_ok-unsent+in_ok-receive+then-branch}
use Rattle.tool_programs.proofs.probing.exchange.Goals as goal

pub loop-preserved : goal.loop-preserved
loop-preserved g c = (
  more_so_far _ _ _ _ _ _ _ _ _ _ _ c.loop.invariant.0 c.in_ok-unsent.ensures c.in_ok-receive.ensures.bytes,
  c.in_ok-receive.ensures.bound,
)

pub returns-clause-sent : goal.returns-clause-sent
returns-clause-sent g c = elim c.loop-test.branch [
  | else-loop-test w ↦ rw (w.unsent-is, w.to_peer-is) c.loop.invariant.0.sent
  | then-loop-test+then-is_empty+then-len-request w ↦ rw (w.unsent-is, w.to_peer-is) c.loop.invariant.0.sent
  | then-loop-test+else-is_empty+in_ok-unsent+in_ok-receive+then-branch w ↦
      rw (w.unsent-is, w.to_peer-is) (sent_more _ _ _ _ _ _ c.loop.invariant.0.sent w.in_ok-unsent.ensures)
]
