use Rattle.std.proofs.Common.{◌≡◌, ◌≤◌, ◌^◌, List, [], ◌∷◌, ℕ, length, sym, subst, ◌∙◌, ap, arith}
use Rattle.blob_pool.specs.Slots.{text_at}
use Rattle.blob_pool.specs.Moves.{Moves, no_holders, one_at}
use Rattle.instance_view.specs.Shown.{ViewEntry, ViewValue}
use Rattle.instance_view.proofs.Entries.{unseen_absent}
use Rattle.instance_view.proofs.Held.{room_for_one, added_shown, on_ok}
use Rattle.instance_view.proofs.view.View.add.Goals as goal

abbrev entries_of : ViewValue → List ViewEntry
entries_of v = v.entries

abbrev limit_of : ViewValue → ℕ
limit_of v = v.limit

pub put-requires-clause-absent : goal.put-requires-clause-absent
put-requires-clause-absent c = rw (ap entries_of c.self.view_is)
    (unseen_absent c.args.digest.now c.args.self.now.entries (c.requires.absent []))

pub seal-requires : goal.seal-requires
seal-requires c =
    let few : length c.args.self.now.entries ≤ 2 ^ 31 = omega (arith, c.requires.room, ap limit_of c.self.view_is, c.self.invariant.3) in
    room_for_one c.args.pool.now c.args.self.now.entries c.requires.held few

pub returns-in-Ok-clause-shown : goal.returns-in-Ok-clause-shown
returns-in-Ok-clause-shown c =
    let entered = on_ok c.put.result (sym c.if-is_err.ensures.value) c.put.ensures.ok in
    let entries : c.set.new.cache.entries ≡ (c.args.digest.now, c.keep.result) ∷ c.args.self.now.entries =
    c.set.ensures.entries _ _ entered ∙ ap (λ (k : ℕ). (c.args.digest.now, k) ∷ c.self.inside.cache.entries) c.new-used.ensures
    ∙ ap (λ (v : ViewValue). (c.args.digest.now, c.keep.result) ∷ v.entries) c.self.view_is in
    let text : text_at c.seal.new.self c.keep.result ≡ c.args.draft.text =
    ap (text_at c.seal.new.self) c.keep.ensures ∙ c.in-Ok.ensures.text in
    let moves : Moves c.args.pool.now c.seal.new.self no_holders (one_at c.keep.result) =
    subst (λ (k : ℕ). Moves c.args.pool.now c.seal.new.self no_holders (one_at k)) (sym c.keep.ensures) c.in-Ok.ensures.moves in
    added_shown c.args.pool.now c.seal.new.self c.args.self.now.entries c.set.new.cache.entries c.args.digest.now c.keep.result
    c.args.draft.text c.requires.held entries text moves
