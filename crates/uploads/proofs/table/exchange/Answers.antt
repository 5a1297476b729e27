use Rattle.std.proofs.Common.{sym, ap, ◌∙◌}
use Rattle.std.specs.Prelude.{option_map}
use Rattle.uploads.specs.Shown.{upload_shown}
use Rattle.uploads.proofs.TableLemmas.{with_shown, whole_with, whole_at, at_shown, there_ok, there_some, old_at, entries_at}
use Rattle.uploads.proofs.table.exchange.Goals as goal

pub unwrap-old-requires : goal.unwrap-old-requires
unwrap-old-requires c = there_ok c.insert-replaced.result c.args.key.now c.args.table.now.entries c.requires.there
    c.insert-replaced.ensures.absent

pub unwrap-requires : goal.unwrap-requires
unwrap-requires c =
    there_some c.unwrap-old.result c.args.key.now c.args.table.now.entries c.requires.there
    (old_at c.insert-replaced.result c.unwrap-old.result c.args.key.now c.args.table.now.entries c.insert-replaced.ensures.old
    c.unwrap-old.ensures)

pub returns-clause-old : goal.returns-clause-old
returns-clause-old c =
    let at = old_at c.insert-replaced.result c.unwrap-old.result c.args.key.now c.args.table.now.entries c.insert-replaced.ensures.old
    c.unwrap-old.ensures in
    sym (at_shown c.args.key.now c.args.table.now.entries) ∙ ap (option_map upload_shown) (sym at ∙ c.unwrap.ensures)

pub returns-clause-new : goal.returns-clause-new
returns-clause-new c =
    rw (entries_at c.insert-replaced.result c.unwrap-old.result _ c.insert-replaced.ensures.entries c.unwrap-old.ensures)
    (with_shown c.args.key.now c.args.upload c.args.table.now.entries)

pub returns-clause-whole : goal.returns-clause-whole
returns-clause-whole c =
    let at = old_at c.insert-replaced.result c.unwrap-old.result c.args.key.now c.args.table.now.entries c.insert-replaced.ensures.old
    c.unwrap-old.ensures in
    whole_at c.args.key.now c.args.table.now.entries c.unwrap.result c.requires.all_whole (sym at ∙ c.unwrap.ensures)

pub returns-clause-all_whole : goal.returns-clause-all_whole
returns-clause-all_whole c =
    rw (entries_at c.insert-replaced.result c.unwrap-old.result _ c.insert-replaced.ensures.entries c.unwrap-old.ensures)
    (whole_with c.args.key.now c.args.upload c.args.table.now.entries c.requires.whole c.requires.all_whole)
