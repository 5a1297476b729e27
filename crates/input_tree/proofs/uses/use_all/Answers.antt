use Rattle.std.proofs.Common.{arith, ◌∙◌}
use Rattle.instance_view.specs.Shown.{visible_in}
use Rattle.input_tree.specs.Uses.{visible_after_uses}
use Rattle.input_tree.proofs.Using.{used_next}
use Rattle.input_tree.proofs.uses.use_all.Goals as goal

pub digests-preserved : goal.digests-preserved
digests-preserved c = record {
  used_so_far = λ p. used_next (visible_after_uses c.args.digests.now (visible_in p c.args.view.now)) (visible_in p c.digests.view)
      (visible_in p c.touch.new.self) c.digests.left.now _ (omega arith) (c.digests.invariant.used_so_far p) (c.touch.ensures.used p);
  same = λ k. c.touch.ensures.holders k ∙ c.digests.invariant.same k;
  limit = c.touch.ensures.limit ∙ c.digests.invariant.limit;
}
