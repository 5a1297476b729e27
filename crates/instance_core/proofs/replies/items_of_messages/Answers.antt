use Rattle.std.proofs.Common.{◌≡◌, ℕ, List, [], ◌∷◌, ◌++◌, map, length, refl, sym, ap, ◌∙◌, append_assoc, append-nil, arith}
use Rattle.std.proofs.lemmas.List.{map-append, nil_from_length}
use Rattle.std.specs.Vec.Iter.{into_iter_items}
use Rattle.std.specs.declared.alloc.Global.{Global}
use Rattle.std.specs.declared.vec.Vec.{Vec}
use Rattle.instance_core.specs.declared.event.ReplyItem.{ReplyItem}
use Rattle.instance_core.specs.declared.event.ReplyItem.TheVariants.{Says, Ends}
use Rattle.instance_core.specs.Replies.{says}
use Rattle.instance_core.specs.Shown.{item_shown}
use Rattle.instance_core.specs.ReplyHolders.{items_holders}
use Rattle.instance_core.proofs.replies.items_of_messages.Goals as goal

abbrev bytes_of : Vec ℕ Global → List ℕ
bytes_of m = m.items

-- an item that is no range holds nothing
said_holds : (xs : List ReplyItem) (m : Vec ℕ Global) (k : ℕ) → items_holders (xs ++ Says m ∷ []) k ≡ items_holders xs k
said_holds [] m k = omega arith
said_holds (x ∷ xs) m k = let rest = said_holds xs m k in omega arith

end_holds : (xs : List ReplyItem) (k : ℕ) → items_holders (xs ++ Ends ∷ []) k ≡ items_holders xs k
end_holds [] k = omega arith
end_holds (x ∷ xs) k = let rest = end_holds xs k in omega arith

pub messages-preserved : goal.messages-preserved
messages-preserved c =
    let at = c.messages in
    let x = c.in-Some.message in
    let steps : into_iter_items at.message-iterator ≡ x ∷ into_iter_items c.next.new.self = c.in-Some.ensures.steps.0 in
    let pushed = c.in_ok-push-2.ensures.items in (
      append_assoc at.yielded (x ∷ []) _ ∙ rw (← steps) at.invariant.0,
      (λ p. rw (
        pushed,
        map-append (item_shown p) at.items.items (Says x ∷ []),
        at.invariant.1 p,
        map-append bytes_of at.yielded
            (x ∷ []),
        map-append says (map bytes_of at.yielded) (x.items ∷ []),
      ) refl),
      (λ k. rw pushed (said_holds at.items.items x k ∙ at.invariant.2 k)),
      let was = at.invariant.3 in
          let gone = c.in-Some.ensures.steps.1 in
          let short = ap length steps in
          omega arith,
    )

pub returns-clause-items : goal.returns-clause-items
returns-clause-items c = λ p.
    let at = c.messages in
    let empty : into_iter_items at.message-iterator ≡ [] = nil_from_length _ (sym at.invariant.3 ∙ c.in-None.ensures.steps.0) in
    let all = sym (append-nil at.yielded) ∙ rw empty at at.invariant.0 ∙ c.into_iter-message-iterator.ensures.into_iter_gives.0 in
    rw (c.in_ok-push-3.ensures.items, map-append (item_shown p) at.items.items (Ends ∷ []), at.invariant.1 p, all) refl

pub returns-clause-given : goal.returns-clause-given
returns-clause-given c = λ k.
    let at = c.messages in
    rw c.in_ok-push-3.ensures.items (end_holds at.items.items k ∙ at.invariant.2 k)
