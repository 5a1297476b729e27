use Rattle.std.proofs.Common.{rules, ◌≡◌, ◌++◌, List, [], ◌∷◌, true, map, ap, ◌∙◌}
use Rattle.std.proofs.lemmas.List.{map-append}
use Rattle.execution.specs.Ordered.{told_shown}
use Rattle.execution.specs.Orders.{ToldValue}
use Rattle.instance_core.specs.declared.event.Reply.{Reply}
use Rattle.instance_core.specs.Apart.{hears}
use Rattle.instance_core.specs.Replies.{ReplyValue}
use Rattle.instance_core.specs.ReplyHolders.{replies_holders}
use Rattle.instance_core.specs.Shown.{reply_shown}
use Rattle.instance_core.specs.Watching.{is_watching}
use Rattle.instance_core.proofs.Telling.{is_heard, pushed_holds}
use Rattle.instance_core.proofs.turns.add_reply.Goals as goal

pub returns-clause-replies : goal.returns-clause-replies
returns-clause-replies c = λ p.
    let t : ToldValue = told_shown c.args.told.now in
    let old : List Reply = c.args.replies.now.items in
    let reply : Reply = c.in_ok-reply.reply in
    let watches : is_watching t.number c.args.call.now.progress ≡ true = search rules in
    let hears-it : hears c.args.only c.args.id.now ≡ true = search rules in
    let pushed : c.push.new.self.items ≡ old ++ reply ∷ [] = search rules in
    is_heard c.args.only t c.args.id.now c.args.call.now (map (reply_shown p) old)
    (map (reply_shown p) c.push.new.self.items) watches hears-it
    (ap (map (reply_shown p)) pushed ∙ map-append (reply_shown p) old (reply ∷ [])
    ∙ ap (λ (r : ReplyValue). map (reply_shown p) old ++ r ∷ []) (c.in_ok-reply.ensures.reply p))

pub returns-clause-given : goal.returns-clause-given
returns-clause-given c = λ k.
    let old : List Reply = c.args.replies.now.items in
    let pushed : c.push.new.self.items ≡ old ++ c.in_ok-reply.reply ∷ [] = search rules in
    ap (λ (rs : List Reply). replies_holders rs k) pushed ∙ pushed_holds old c.in_ok-reply.reply k (c.in_ok-reply.ensures.given k)
