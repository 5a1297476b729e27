use Rattle.std.proofs.Common.{◌<◌, ◌++◌, length, map, sym, ◌∙◌, arith}
use Rattle.std.proofs.lemmas.Option.{slice_get_within}
use Rattle.execution.specs.Ordered.{told_shown}
use Rattle.execution.specs.Orders.{ToldValue}
use Rattle.instance_core.specs.Apart.{replies_to}
use Rattle.instance_core.specs.Calls.{Calls}
use Rattle.instance_core.specs.Shown.{reply_shown}
use Rattle.instance_core.specs.Watching.{replies_told}
use Rattle.instance_core.proofs.Telling.{told_all, told_next}
use Rattle.instance_core.proofs.turns.tell_watchers.Goals as goal

pub loop-id-preserved : goal.loop-id-preserved
loop-id-preserved c =
    let t : ToldValue = told_shown c.args.told.now in
    let calls : Calls = c.args.calls.now in
    let within : c.loop-id.place < length calls =
    slice_get_within calls c.loop-id.place (c.in-Some.id.now, c.in-Some.call.now) (sym c.in-Some.ensures.there) in
    record {
      replies = λ p. told_next c.args.only t calls c.loop-id.place (c.in-Some.id.now, c.in-Some.call.now)
          (map (reply_shown p) c.loop-id.replies.items) (map (reply_shown p) c.add_reply.new.replies.items)
          (map (reply_shown p) c.args.replies.now.items ++ replies_to c.args.only (replies_told calls t)) c.in-Some.ensures.there
          (c.in_ok-add_reply.ensures.replies p) (c.loop-id.invariant.replies p);
      given = λ k. c.in_ok-add_reply.ensures.given k ∙ c.loop-id.invariant.given k;
      within = omega (arith, within);
    }

pub returns-clause-replies : goal.returns-clause-replies
returns-clause-replies c = λ p.
    let t : ToldValue = told_shown c.args.told.now in
    let calls : Calls = c.args.calls.now in
    told_all c.args.only t calls c.loop-id.place (map (reply_shown p) c.loop-id.replies.items)
    (map (reply_shown p) c.args.replies.now.items ++ replies_to c.args.only (replies_told calls t)) c.in_default.ensures.there
    (c.loop-id.invariant.replies p)
