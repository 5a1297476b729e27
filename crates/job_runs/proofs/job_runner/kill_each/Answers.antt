use Rattle.std.proofs.Common.{◌<◌, arith}
use Rattle.job_runs.proofs.Killed.{killed_next, killed_no}
use Rattle.job_runs.proofs.job_runner.kill_each.Goals as goal

pub loop-left-preserved-in-Some : goal.loop-left-preserved-in-Some
loop-left-preserved-in-Some g c = λ new rest.
    let some : 0 < c.loop-left.left = omega (arith, c.loop-left-test.true) in
    c.loop-left.invariant new (killed_next c.args.configs.now c.args.moment c.loop-left.left c.in-Some.run' _ _ new some c.in-Some.ensures
    c.kill_told.ensures rest)

pub loop-left-preserved : goal.loop-left-preserved
loop-left-preserved g c = λ new rest.
    let some : 0 < c.loop-left.left = omega (arith, c.loop-left-test.true) in
    c.loop-left.invariant new (killed_no c.args.configs.now c.args.moment c.loop-left.left _ new some c.in_default.ensures rest)
