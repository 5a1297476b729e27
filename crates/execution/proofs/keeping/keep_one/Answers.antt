use Rattle.std.proofs.Common.{List, ◌++◌, ap, sym, ◌∙◌}
use Rattle.instance_view.specs.Visible.{Blob}
use Rattle.instance_view.specs.Shown.{blobs_in}
use Rattle.execution.specs.Keeping.{kept_entries}
use Rattle.execution.proofs.KeptTexts.{seen_kept}
use Rattle.execution.proofs.keeping.keep_one.Goals as goal

pub returns-in-Some-clause-kept : goal.returns-in-Some-clause-kept
returns-in-Some-clause-kept c = λ p.
    c.hold_seen.ensures.kept p ∙ ap (λ (bs : List Blob). blobs_in p (kept_entries c.args.kept.now.items) ++ bs)
    (seen_kept c.args.view.now c.args.digest.now c.in-Some.seen (sym c.is_empty.ensures ∙ c.if-is_empty.false) c.in-Some.ensures.text p)
