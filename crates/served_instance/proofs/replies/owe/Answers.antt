use Rattle.std.proofs.Common.{rules, ◌≡◌, ◌∷◌, [], refl, arith, ℕ, ◌≤◌, ◌+◌}
use Rattle.blob_pool.specs.Slots.{count_at}
use Rattle.instance_core.specs.ReplyHolders.{item_holders}
use Rattle.served_instance.proofs.Gives.{owes_more, owes_none}
use Rattle.served_instance.proofs.Taking.{items_left, item_held, items_owed, takes_more, takes_end, takes_released}
use Rattle.served_instance.proofs.replies.owe.Goals as goal

pub owe_item-requires : goal.owe_item-requires
owe_item-requires c =
    let is : c.items.left.items ≡ c.in-Some.first ∷ c.pop_front.new.self.items = c.in-Some.ensures.items in
    record {
      owed = (items_owed c.items.left.items c.pop_front.new.self.items c.in-Some.first is c.items.invariant.owed).0;
      counted = item_held c.items.pool c.items.left.items c.pop_front.new.self.items c.in-Some.first is c.items.invariant.counted;
    }

pub items-preserved : goal.items-preserved
items-preserved c =
    let rest = c.pop_front.new.self.items in
    let item = c.in-Some.first in
    let is : c.items.left.items ≡ item ∷ rest = c.in-Some.ensures.items in
    let p = c.items.pool in
    let q = c.owe_item.new.pool in
    let v = c.items.connection in
    let w = c.owe_item.new.connection in
    let takes = c.owe_item.ensures.takes in
    let less : (k : ℕ) → count_at p k ≤ count_at q k + item_holders item k = λ k. omega (arith, takes.moves.counts k, takes.fewer k) in
    record {
      owes = λ x more. c.items.invariant.owes x (owes_more c.args.stream c.items.left.items rest item v w x is
          c.in_default-owe_item.ensures.owes more);
      takes = λ r x more. c.items.invariant.takes r x (takes_more c.items.left.items rest item p q r v w x is takes more);
      counted = items_left p q c.items.left.items rest item is c.items.invariant.counted less;
      owed = (items_owed c.items.left.items rest item is c.items.invariant.owed).1;
    }

pub returns-in-Err-clause-takes : goal.returns-in-Err-clause-takes
returns-in-Err-clause-takes c =
    let rest = c.pop_front.new.self.items in
    let is : c.items.left.items ≡ c.in-Some.first ∷ rest = c.in-Some.ensures.items in
    let p = c.items.pool in
    let q = c.owe_item.new.pool in
    let r = c.release_items.new.pool in
    let v = c.items.connection in
    let w = c.owe_item.new.connection in
    c.items.invariant.takes r w (takes_more c.items.left.items rest c.in-Some.first p q r v w w is c.owe_item.ensures.takes
    (takes_released _ _ q r w w refl c.release_items.ensures))

pub returns-clause-owes : goal.returns-clause-owes
returns-clause-owes c =
    let none : c.items.left.items ≡ [] = search rules in
    c.items.invariant.owes c.items.connection (owes_none c.args.stream c.items.left.items c.items.connection none)

pub returns-clause-takes : goal.returns-clause-takes
returns-clause-takes c =
    let none : c.items.left.items ≡ [] = search rules in
    c.items.invariant.takes c.items.pool c.items.connection (takes_end c.items.left.items c.items.pool c.items.connection none)
