use Rattle.std.proofs.Common.{refl, subst, inl, ◌∙◌}
use Rattle.runner.specs.Sizes.{IsCountedThen}
use Rattle.runner.proofs.Bounds.{asks_none, at_most, exit_few, next_few, next_most}
use Rattle.runner.proofs.Collect.{goes_nowhere, goes_exits, goes_next}
use Rattle.runner.proofs.Counting.{stays_behind}
use Rattle.runner.proofs.turn.turn.Goals as goal

pub loop-init : goal.loop-init
loop-init g c = record {
  few = asks_none 0 _ _;
  goes = goes_nowhere _ _ _ 0 _ _;
  counted = c.requires.counted;
  folders = refl;
  programs =
      inl refl;
}

pub returns-in-Exits-clause-goes : goal.returns-in-Exits-clause-goes
returns-in-Exits-clause-goes g c = goes_exits _ _ _ _ _ _ _ _ _ _ _ _ _ c.loop.invariant.goes c.in-Ok.ensures.goes c.in-Exits.is

pub returns-in-Exits-clause-counted : goal.returns-in-Exits-clause-counted
returns-in-Exits-clause-counted g c = subst IsCountedThen c.in-Exits.is c.in-Ok.ensures.counted

pub returns-then-spent-ge-MOST_COST-clause-goes : goal.returns-then-spent-ge-MOST_COST-clause-goes
returns-then-spent-ge-MOST_COST-clause-goes g c =
    goes_next _ _ _ _ _ _ _ _ _ _ _ _ _ _ _ c.loop.invariant.goes c.in-Ok.ensures.goes c.in-Goes.is

pub returns-then-spent-ge-MOST_COST-clause-counted : goal.returns-then-spent-ge-MOST_COST-clause-counted
returns-then-spent-ge-MOST_COST-clause-counted g c = subst IsCountedThen c.in-Goes.is c.in-Ok.ensures.counted

pub loop-preserved : goal.loop-preserved
loop-preserved g c = record {
  few = next_few _ c.step_if_ready.result _ _ _ _ _ _ c.loop.invariant.few c.step_if_ready.ensures.few;
  goes = goes_next _ _ _ _ _ _ _ _ _ _ _ _ _ _ _ c.loop.invariant.goes c.in-Ok.ensures.goes c.in-Goes.is;
  counted = subst IsCountedThen c.in-Goes.is c.in-Ok.ensures.counted;
  folders = c.in-Ok.ensures.faults.0 ∙ c.loop.invariant.folders;
  programs = stays_behind _ _ _ c.loop.invariant.programs c.in-Ok.ensures.faults.1;
}

pub returns-in-Err-clause-few : goal.returns-in-Err-clause-few
returns-in-Err-clause-few g c = next_most _ c.step_if_ready.result _ _ _ _ _ _ c.loop.invariant.few c.step_if_ready.ensures.few
    c.loop-test.true

pub returns-in-Exits-clause-few : goal.returns-in-Exits-clause-few
returns-in-Exits-clause-few g c = exit_few _ _ _ _ _ _ _ _ _ _ c.in-Ok.is c.in-Exits.is c.loop.invariant.few c.step_if_ready.ensures.few
    c.loop-test.true

pub returns-then-spent-ge-MOST_COST-clause-few : goal.returns-then-spent-ge-MOST_COST-clause-few
returns-then-spent-ge-MOST_COST-clause-few g c =
    next_most _ c.step_if_ready.result _ _ _ _ _ _ c.loop.invariant.few c.step_if_ready.ensures.few c.loop-test.true

pub returns-clause-few : goal.returns-clause-few
returns-clause-few g c = at_most _ 8 _ _ _ _ c.loop.invariant.few c.loop.auto.counter-end
