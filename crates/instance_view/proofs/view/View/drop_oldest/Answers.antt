use Rattle.std.proofs.Common.{◌≡◌, ℕ, List, ◌∷◌, [], ◌++◌, sym, subst, ap, ◌∙◌}
use Rattle.blob_pool.specs.Moves.{Moves, no_holders, one_at}
use Rattle.instance_view.specs.Shown.{ViewEntry, ViewValue}
use Rattle.instance_view.proofs.Held.{dropped_held, dropped_moves, dropped_shown}
use Rattle.instance_view.proofs.view.View.drop_oldest.Goals as goal

abbrev entries_of : ViewValue → List ViewEntry
entries_of v = v.entries

pub release_kept-requires : goal.release_kept-requires
release_kept-requires c =
    let was : c.args.self.now.entries ≡ c.pop.new.cache.entries ++ c.in-Some.entry ∷ [] =
    sym (ap entries_of c.self.view_is) ∙ c.in-Some.ensures.some in
    rw c.kept.ensures (dropped_held c.args.pool.now c.args.self.now.entries c.pop.new.cache.entries c.in-Some.entry c.requires was)

pub returns-in-Some-clause-shown : goal.returns-in-Some-clause-shown
returns-in-Some-clause-shown c =
    let was : c.args.self.now.entries ≡ c.pop.new.cache.entries ++ c.in-Some.entry ∷ [] =
    sym (ap entries_of c.self.view_is) ∙ c.in-Some.ensures.some in
    let moved = subst (λ (k : ℕ). Moves c.args.pool.now c.release_kept.new.pool (one_at k) no_holders) c.kept.ensures
    c.release_kept.ensures in
    dropped_shown c.args.pool.now c.release_kept.new.pool c.args.self.now.entries c.pop.new.cache.entries c.in-Some.entry c.requires was
    moved

pub returns-in-Some-clause-moves : goal.returns-in-Some-clause-moves
returns-in-Some-clause-moves c =
    let was : c.args.self.now.entries ≡ c.pop.new.cache.entries ++ c.in-Some.entry ∷ [] =
    sym (ap entries_of c.self.view_is) ∙ c.in-Some.ensures.some in
    let moved = subst (λ (k : ℕ). Moves c.args.pool.now c.release_kept.new.pool (one_at k) no_holders) c.kept.ensures
    c.release_kept.ensures in
    dropped_moves c.args.pool.now c.release_kept.new.pool c.args.self.now.entries c.pop.new.cache.entries c.in-Some.entry was moved
