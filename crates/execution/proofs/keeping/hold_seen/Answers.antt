use Rattle.std.proofs.Common.{◌≡◌, List, [], ◌∷◌, ◌++◌, sym, ap, subst, ◌∙◌, ℕ, rules}
use Rattle.blob_pool.specs.Moves.{Moves}
use Rattle.digest.specs.declared.Digest.{Digest}
use Rattle.instance_view.specs.Shown.{ViewEntry, entry_holders}
use Rattle.execution.specs.declared.keeping.KeptText.{KeptText}
use Rattle.execution.specs.Keeping.{kept_entry, kept_entries}
use Rattle.execution.proofs.KeptTexts.{pushed_moves, kept_pushed}
use Rattle.execution.proofs.keeping.hold_seen.Goals as goal

pub returns-in-Text-clause-moves : goal.returns-in-Text-clause-moves
returns-in-Text-clause-moves c =
    let ts : List KeptText = c.args.kept.now.items in
    let d : Digest = c.args.digest in
    let t : KeptText = record { digest = d; text = c.hold_again-text.result } in
    let pushed : c.push.new.self.items ≡ ts ++ t ∷ [] = search rules in
    let text : kept_entry t ≡ (d, c.in-Text.text) = ap (λ (k : ℕ). (d, k)) c.hold_again-text.ensures.kept in
    let same : kept_entries c.push.new.self.items ≡ kept_entries ts ++ (d, c.in-Text.text) ∷ [] =
    ap kept_entries pushed ∙ kept_pushed ts t ∙ ap (λ (e : ViewEntry). kept_entries ts ++ e ∷ []) text in
    subst (λ (es : List ViewEntry). Moves c.args.pool.now c.hold_again-text.new.self (entry_holders (kept_entries ts)) (entry_holders es))
    (sym same)
    (pushed_moves c.args.pool.now c.hold_again-text.new.self (kept_entries ts) d c.in-Text.text c.hold_again-text.ensures.moves)
