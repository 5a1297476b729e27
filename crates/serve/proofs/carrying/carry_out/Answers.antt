use Rattle.std.proofs.Common.{◌∙◌, refl}
use Rattle.serve.proofs.Keeps.{first_carried, first_order, none_left}
use Rattle.serve.proofs.carrying.carry_out.Goals as goal

pub loop-left-init : goal.loop-left-init
loop-left-init g c = record { carried = λ v after is rest. rest; no_fault = refl }

pub loop-left-preserved : goal.loop-left-preserved
loop-left-preserved g c = record {
  carried = λ v after is rest.
      c.loop-left.invariant.carried v after is (first_carried _ _ v c.loop-left.left.now _ _ _ _ c.in-len1-up.len_at_least
      (first_order c.loop-left.left.now _ c.in-len1-up.len_at_least) c.carry_out_one.ensures.carried is rest);
  no_fault = c.carry_out_one.ensures.no_fault ∙ c.loop-left.invariant.no_fault;
}

pub returns : goal.returns
returns g c = record {
  carried = λ v is. c.loop-left.invariant.carried v _ is (none_left _ v c.loop-left.left.now _ c.in_default.len_below);
  no_fault = c.loop-left.invariant.no_fault;
}
