use Rattle.std.proofs.Common.{arith, refl, ◌∙◌}
use Rattle.serve.proofs.Open.{clock_open}
use Rattle.serve.proofs.Ticks.{none_ticked, one_ticked, all_ticked, still_unknown}
use Rattle.serve.proofs.serving.Serving.tick.Goals as goal

pub loop-instance-init : goal.loop-instance-init
loop-instance-init g c = record {
  ticking = λ configs same at. none_ticked configs _ _ _ _ _ c.now-self.ensures.rises at;
  unknown = λ is. is;
  adds = c.now-self.ensures.adds;
  rises = c.now-self.ensures.rises;
  no_fault = refl;
  instances = refl;
  opened = clock_open _ _ _ c.now-self.ensures.adds c.args.self.now.instances c.args.self.now.connections.items c.args.self.now.next
      c.args.self.now.moment c.requires.opened;
}

pub loop-instance-preserved : goal.loop-instance-preserved
loop-instance-preserved g c = record {
  ticking = λ configs same at. one_ticked configs _ _ _ _ _ _ _ _
      (omega (arith, same, c.loop-instance-test.true, c.loop-instance.auto.instance-end)) c.tell.ensures.takes
      (c.loop-instance.invariant.ticking configs same at);
  unknown = still_unknown _ _ _ _ _ _ c.tell.ensures.takes c.loop-instance.invariant.unknown;
  adds = c.loop-instance.invariant.adds;
  rises = c.loop-instance.invariant.rises;
  no_fault = c.tell.ensures.no_fault ∙ c.loop-instance.invariant.no_fault;
  instances = c.loop-instance.invariant.instances;
  opened = c.loop-instance.invariant.opened;
}

pub returns-clause-serves_on : goal.returns-clause-serves_on
returns-clause-serves_on g c = record {
  serving = λ configs same at.
      all_ticked configs _ _ _ _ _ c.loop-instance.instance _ c.loop-instance.invariant.adds c.loop-instance.invariant.unknown
      (omega (arith, same, c.loop-instance-test.false, c.loop-instance.auto.instance-end))
      (c.loop-instance.invariant.ticking configs same at);
  instances = c.loop-instance.invariant.instances;
  opened = c.loop-instance.invariant.opened;
}
