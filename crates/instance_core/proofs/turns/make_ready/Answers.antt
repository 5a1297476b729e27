use Rattle.std.proofs.Common.{◌≡◌, ◌-◌, ◌++◌, List, ◌∷◌, length, drop, take, map, ap, ◌∙◌}
use Rattle.execution.specs.Orders.{ToldValue}
use Rattle.execution.specs.Ordered.{orders_by}
use Rattle.execution.specs.Taking.{step_shown, steps_shown}
use Rattle.execution.specs.declared.steps.Step.{Step}
use Rattle.instance_core.specs.Apart.{replies_to}
use Rattle.instance_core.specs.Calls.{Calls}
use Rattle.instance_core.specs.Shown.{reply_shown}
use Rattle.instance_core.specs.Watching.{replies_told, replies_to_watchers}
use Rattle.instance_core.proofs.Telling.{orders_next, steps_front, watchers_next}
use Rattle.instance_core.proofs.turns.make_ready.Goals as goal

pub loop-left-preserved : goal.loop-left-preserved
loop-left-preserved c =
    let x : Step = c.first-item.result in
    let left : List Step = c.loop-left.left.now in
    let rest : List Step = take (length left - 1) (drop 1 left) in
    let calls : Calls = c.args.calls.now in
    let front : steps_shown left ≡ step_shown x ∷ steps_shown rest = steps_front left x c.in-len1-up.len_at_least c.first-item.is in
    record {
      replies = λ p. watchers_next c.args.only calls (step_shown x) (steps_shown left) (steps_shown rest)
          (map (reply_shown p) c.loop-left.replies.items) (map (reply_shown p) c.tell_watchers.new.replies.items)
          (replies_to c.args.only (replies_to_watchers calls (steps_shown c.args.steps.items))) front
          (c.in_ok-tell_watchers.ensures.replies p ∙ ap
          (λ (t : ToldValue). map (reply_shown p) c.loop-left.replies.items ++ replies_to c.args.only (replies_told calls t))
          c.told.ensures) (c.loop-left.invariant.replies p);
      given = λ k. c.in_ok-tell_watchers.ensures.given k ∙ c.loop-left.invariant.given k;
      orders = orders_next (step_shown x) (steps_shown left) (steps_shown rest) c.loop-left.orders.items c.add_order.new.orders.items
          (orders_by (steps_shown c.args.steps.items)) front c.in_ok-add_order.ensures c.loop-left.invariant.orders;
    }
