use Rattle.std.proofs.Common.{rules, ◌≡◌, ◌∙◌, ◌∷◌, [], arith, ℕ, ◌≤◌, ◌+◌, map}
use Rattle.blob_pool.specs.Slots.{count_at}
use Rattle.instance_core.specs.ReplyHolders.{items_holders}
use Rattle.served_instance.specs.OwedReplies.{with_owed}
use Rattle.served_instance.specs.Shown.{connection_shown}
use Rattle.served_instance.proofs.Gives.{give_more, give_keeps, keeps_trans}
use Rattle.served_instance.proofs.Taking.{replies_left, reply_held, replies_owed, take_more, take_end, take_released}
use Rattle.served_instance.proofs.Cut.{given_others}
use Rattle.served_instance.proofs.replies.give_all.Goals as goal

pub give-requires : goal.give-requires
give-requires c =
    let is : c.replies.left.items ≡ c.in-Some.first ∷ c.pop_front.new.self.items = c.in-Some.ensures.items in
    record {
      owed = (replies_owed c.replies.left.items c.pop_front.new.self.items c.in-Some.first is c.replies.invariant.owed).0;
      counted = reply_held c.replies.pool c.replies.left.items c.pop_front.new.self.items c.in-Some.first is c.replies.invariant.counted;
    }

pub replies-preserved : goal.replies-preserved
replies-preserved c =
    let rest = c.pop_front.new.self.items in
    let r = c.in-Some.first in
    let is : c.replies.left.items ≡ r ∷ rest = c.in-Some.ensures.items in
    let p = c.replies.pool in
    let q = c.give.new.pool in
    let os = c.replies.connections in
    let ns = c.give.new.connections in
    let takes = c.give.ensures.takes in
    let less : (k : ℕ) → count_at p k ≤ count_at q k + items_holders r.items.items k =
    λ k. omega (arith, takes.moves.counts k, takes.fewer k) in
    record {
      given = λ xs more. c.replies.invariant.given xs
          (give_more c.replies.left.items rest r os ns xs is c.in_default-give.ensures.given more);
      rest = keeps_trans c.args.connections.now os ns c.replies.invariant.rest
          (give_keeps r.call.connection (with_owed r.call.stream r.items.items) os ns c.in_default-give.ensures.given);
      takes = λ x ws more. c.replies.invariant.takes x ws
          (take_more c.replies.left.items rest r p q x (map connection_shown os) (map connection_shown ns) ws is takes more);
      counted = replies_left p q c.replies.left.items rest r is c.replies.invariant.counted less;
      owed = (replies_owed c.replies.left.items rest r is c.replies.invariant.owed).1;
      others = λ n all. given_others n c.replies.left.items rest r c.args.connections.now os ns is
          (c.replies.invariant.others n all) c.give.ensures.others;
      places = λ n. c.give.ensures.places n ∙ c.replies.invariant.places n;
    }

pub returns-in-Err-clause-takes : goal.returns-in-Err-clause-takes
returns-in-Err-clause-takes c =
    let rest = c.pop_front.new.self.items in
    let is : c.replies.left.items ≡ c.in-Some.first ∷ rest = c.in-Some.ensures.items in
    let p = c.replies.pool in
    let q = c.give.new.pool in
    let r = c.release_replies.new.pool in
    let os = c.replies.connections in
    let ns = c.give.new.connections in
    c.replies.invariant.takes r (map connection_shown ns)
    (take_more c.replies.left.items rest c.in-Some.first p q r (map connection_shown os) (map connection_shown ns)
    (map connection_shown ns) is c.give.ensures.takes (take_released _ _ q r (map connection_shown ns) c.release_replies.ensures))

pub returns-clause-takes : goal.returns-clause-takes
returns-clause-takes c =
    let none : c.replies.left.items ≡ [] = search rules in
    c.replies.invariant.takes c.replies.pool (map connection_shown c.replies.connections)
    (take_end c.replies.left.items c.replies.pool (map connection_shown c.replies.connections) none)

pub returns-in-Err-clause-others : goal.returns-in-Err-clause-others
returns-in-Err-clause-others c = λ n all.
    let is : c.replies.left.items ≡ c.in-Some.first ∷ c.pop_front.new.self.items = c.in-Some.ensures.items in
    (given_others n c.replies.left.items c.pop_front.new.self.items c.in-Some.first c.args.connections.now c.replies.connections
    c.give.new.connections is (c.replies.invariant.others n all) c.give.ensures.others).0

pub returns-clause-others : goal.returns-clause-others
returns-clause-others c = λ n all. (c.replies.invariant.others n all).0

pub returns-in-Err-clause-places : goal.returns-in-Err-clause-places
returns-in-Err-clause-places c = λ n. c.give.ensures.places n ∙ c.replies.invariant.places n
